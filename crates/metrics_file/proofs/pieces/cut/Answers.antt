use Rattle.std.proofs.Common.{◌≡◌, ◌++◌, ◌∙◌, ap, not, rules, tests, ℕ, zero, suc, List, [], ◌∷◌, length, take, slice_get, None, Some, refl, sym}
use Rattle.std.proofs.lemmas.Iterator.{YieldsList-from_take, items_from_drains}
use Rattle.std.proofs.lemmas.Iterator.Consumers.{YieldsList-from_filter, nth_from_yields_List}
use Rattle.std.proofs.lemmas.Iterator.Splits.{YieldsList-from_slice_split}
use Rattle.std.proofs.lemmas.Option.{none-some}
use Rattle.std.specs.Iterator.Adapters.{take_source, take_count, filter_source, filter_callee}
use Rattle.metrics_file.specs.Lines.{lent}
use Rattle.std.specs.Slice.Iter.{split_rest, split_done, split_callee}
use Rattle.metrics_file.specs.Reading.{is_blank, is_empty, words_of, most_words}
use Rattle.metrics_file.proofs.Cuts.{most_words_are}
use Rattle.metrics_file.proofs.pieces.cut.Goals as goal

pub returns : goal.returns
unfolding words_of
returns c =
    let ran = c.in-Ok.ensures.ran in
    ap lent (ran.3 ∙ ap (λ l. l ++ ran.1) c.requires)
    ∙ items_from_drains ran.1 (ran.4.1.0, ran.4.1.1, λ _. (ran.4.0, ran.4.1.2))
    (YieldsList-from_take most_words
    (YieldsList-from_filter _ (λ word. not (is_empty word))
    (YieldsList-from_slice_split _ is_blank c.args.line.now
    (ap (λ t. split_rest (filter_source (take_source t))) ran.2 ∙ ap (λ t. split_rest (filter_source t)) c.take-parts.ensures.source ∙ ap split_rest c.filter.ensures.source ∙ c.split.ensures.rest)
    (ap (λ t. split_done (filter_source (take_source t))) ran.2 ∙ ap (λ t. split_done (filter_source t)) c.take-parts.ensures.source ∙ ap split_done c.filter.ensures.source ∙ c.split.ensures.done)
    (ap (λ t. split_callee (filter_source (take_source t))) ran.2 ∙ ap (λ t. split_callee (filter_source t)) c.take-parts.ensures.source ∙ ap split_callee c.filter.ensures.source ∙ c.split.ensures.closure)
    (λ x r q k. search (rules, tests)))
    (ap (λ t. filter_callee (take_source t)) ran.2 ∙ ap filter_callee c.take-parts.ensures.source ∙ c.filter.ensures.closure)
    (λ x r q k. search (rules, tests)))
    (ap take_count ran.2 ∙ c.take-parts.ensures.count ∙ sym most_words_are))

-- no word stands behind those that are taken
past_take : {X : Type 0} (n : ℕ) (xs : List X) → slice_get (take n xs) n ≡ None
past_take zero xs = refl
past_take (suc n) [] = refl
past_take (suc n) (x ∷ xs) = past_take n xs

no_further : {X : Type 0} (n : ℕ) (xs : List X) (x : X) → Some x ≡ slice_get (take n xs) n → ⊥
no_further n xs x h = none-some x (sym (past_take n xs) ∙ sym h)

pub unreachable-requires : goal.unreachable-requires
unfolding words_of
unreachable-requires c =
    let more = c.in-Err.ensures.one_more in
    let size = sym (ap length (more.6 ∙ ap (λ l. l ++ more.1) c.requires)) ∙ c.in-Err.ensures.full ∙ sym most_words_are in
    no_further most_words (words_of c.args.line.now) more.2.now
    (nth_from_yields_List (Some more.2) more.3 most_words (more.1, more.5, size)
    (YieldsList-from_take most_words
    (YieldsList-from_filter _ (λ word. not (is_empty word))
    (YieldsList-from_slice_split _ is_blank c.args.line.now
    (ap (λ t. split_rest (filter_source (take_source t))) more.4 ∙ ap (λ t. split_rest (filter_source t)) c.take-parts.ensures.source ∙ ap split_rest c.filter.ensures.source ∙ c.split.ensures.rest)
    (ap (λ t. split_done (filter_source (take_source t))) more.4 ∙ ap (λ t. split_done (filter_source t)) c.take-parts.ensures.source ∙ ap split_done c.filter.ensures.source ∙ c.split.ensures.done)
    (ap (λ t. split_callee (filter_source (take_source t))) more.4 ∙ ap (λ t. split_callee (filter_source t)) c.take-parts.ensures.source ∙ ap split_callee c.filter.ensures.source ∙ c.split.ensures.closure)
    (λ x r q k. search (rules, tests)))
    (ap (λ t. filter_callee (take_source t)) more.4 ∙ ap filter_callee c.take-parts.ensures.source ∙ c.filter.ensures.closure)
    (λ x r q k. search (rules, tests)))
    (ap take_count more.4 ∙ c.take-parts.ensures.count ∙ sym most_words_are)))
