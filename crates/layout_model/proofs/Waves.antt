-- One question more of a wave: what is made for it, and whether that can be stored.
use Rattle.std.proofs.Common.{◌≡◌, ◌∙◌, refl, sym, ap, ℕ, zero, suc, ◌+◌, ◌<◌, arith, Bool, true, false, ◌&&◌, List, [], ◌∷◌, length, take, get_or, Option, Some, slice_get}
use Rattle.std.proofs.lemmas.List.{append-nil, length-append, take_more}
use Rattle.std.proofs.lemmas.List.Folds.{list_all-append}
use Rattle.std.proofs.lemmas.Grind.{flat_map-append}
use Rattle.std.specs.List.{flat_map, list_all}
use Rattle.std.specs.Option.{option_map_or}
use Rattle.font_metrics.specs.Metrics.{MetricsValue}
use Rattle.math_tree.specs.declared.node.Node.{Node}
use Rattle.embellished.specs.Seen.{flow_nodes}
use Rattle.layout_model.specs.Answers.{no_answer}
use Rattle.layout_model.specs.Laws.{answer_of, visits_below}
use Rattle.layout_model.specs.Layout.{in_range, lay, visit_fits, visits}
use Rattle.layout_model.specs.declared.context.Question.{Question}

-- how many layouts are made for questions
abbrev pub count_below : MetricsValue → Node → List Question → ℕ
count_below m node asks = length (flat_map (visits_below m node) asks)

-- a list of visits fits
abbrev pub all_fit : MetricsValue → Node → List Question → Bool
all_fit m node asks = list_all (visit_fits m) (flat_map (visits_below m node) asks)

module _ (m : MetricsValue) where
  module _ (node : Node) where
    -- ---- a question that names a child
    module _ (question : Question) (kid : Node) (at : slice_get (flow_nodes node) question.kid ≡ Some kid) where
      pub answered : answer_of m node question ≡ (lay m kid question.context).answer
      unfolding answer_of
      answered = ap (λ (found : Option Node). option_map_or (λ k. (lay m k question.context).answer) found no_answer) at

      pub visited : visits_below m node question ≡ visits m kid question.context
      unfolding visits_below
      visited = ap (λ (found : Option Node). option_map_or (λ k. visits m k question.context) found []) at

      pub fits_below : list_all (visit_fits m) (visits_below m node question) ≡ in_range m kid question.context
      unfolding in_range
      fits_below = ap (list_all (visit_fits m)) visited

    -- ---- one question more
    module _ (asks : List Question) (i : ℕ) (question : Question) (kid : Node) (within : i < length asks) (is : question ≡ get_or asks i question)
        (at : slice_get (flow_nodes node) question.kid ≡ Some kid) where
      pub count_more : (start before after : ℕ) → before ≡ start + count_below m node (take i asks) → after ≡ before + length (visits m kid question.context)
          → after ≡ start + count_below m node (take (i + 1) asks)
      count_more start before after b a =
          let f = visits_below m node in
          let last = get_or asks i question ∷ [] in
          let own : length (flat_map f last) ≡ length (visits m kid question.context) =
          ap length (append-nil (f (get_or asks i question))) ∙ ap (λ (q : Question). length (f q)) (sym is) ∙ ap length (visited question kid at) in
          let both : count_below m node (take (i + 1) asks) ≡ count_below m node (take i asks) + length (flat_map f last) =
          ap (count_below m node) (take_more asks i question within) ∙ ap length (flat_map-append f (take i asks) last) ∙ length-append (flat_map f (take i asks)) (flat_map f last) in
          omega (arith, own, both, b, a)

      pub fit_more : all_fit m node (take i asks) ≡ true → in_range m kid question.context ≡ true → all_fit m node (take (i + 1) asks) ≡ true
      fit_more before here =
          let f = visits_below m node in
          let own : list_all (visit_fits m) (flat_map f (get_or asks i question ∷ [])) ≡ true =
          ap (list_all (visit_fits m)) (append-nil (f (get_or asks i question)))
          ∙ ap (λ (q : Question). list_all (visit_fits m) (f q)) (sym is) ∙ fits_below question kid at ∙ here in
          ap (all_fit m node) (take_more asks i question within)
          ∙ ap (list_all (visit_fits m)) (flat_map-append f (take i asks) (get_or asks i question ∷ []))
          ∙ list_all-append (visit_fits m) (flat_map f (take i asks)) (flat_map f (get_or asks i question ∷ []))
          ∙ ap (λ (b : Bool). b && list_all (visit_fits m) (flat_map f (get_or asks i question ∷ []))) before ∙ own

    -- ---- a question whose layout can't be stored
    and_false : (a b : Bool) → b ≡ false → (a && b) ≡ false
    and_false true b e = e
    and_false false b e = refl

    broken_at : (asks : List Question) (i : ℕ) (question : Question) → i < length asks → question ≡ get_or asks i question
        → list_all (visit_fits m) (visits_below m node question) ≡ false → all_fit m node asks ≡ false
    broken_at [] i question l is bad = absurd (omega arith)
    broken_at (first ∷ asks) zero question l is bad =
        list_all-append (visit_fits m) (visits_below m node first) (flat_map (visits_below m node) asks)
        ∙ ap (λ (b : Bool). b && all_fit m node asks) (ap (λ (q : Question). list_all (visit_fits m) (visits_below m node q)) (sym is) ∙ bad)
    broken_at (first ∷ asks) (suc i) question l is bad =
        list_all-append (visit_fits m) (visits_below m node first) (flat_map (visits_below m node) asks)
        ∙ and_false (list_all (visit_fits m) (visits_below m node first)) (all_fit m node asks) (broken_at asks i question (omega (arith, l)) is bad)

    pub broken : (asks : List Question) (i : ℕ) (question : Question) (kid : Node) → i < length asks → question ≡ get_or asks i question
        → slice_get (flow_nodes node) question.kid ≡ Some kid → in_range m kid question.context ≡ false → all_fit m node asks ≡ false
    broken asks i question kid l is at bad = broken_at asks i question l is (fits_below question kid at ∙ bad)
