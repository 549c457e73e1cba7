-- What is read off the entries of an element is its layout.
use Rattle.std.proofs.Common.{◌≡◌, ◌∙◌, refl, sym, ap, subst, ℕ, suc, add-one, ◌+◌, ◌<◌, arith, List, [], ◌∷◌, ◌++◌, get_or, length, All, Option, Some, None, slice_get}
use Rattle.std.proofs.lemmas.List.{append-nil}
use Rattle.std.proofs.lemmas.List.Elements.{filter_map-append}
use Rattle.std.proofs.lemmas.Option.{same_Some, slice_get-get_or, slice_get-map}
use Rattle.std.specs.Borrow.{Bor}
use Rattle.std.specs.List.{AllByRecursion}
use Rattle.std.specs.Option.{option_and_then, option_map}
use Rattle.fixed_units.specs.Sums.{list_to}
use Rattle.font_metrics.specs.Metrics.{MetricsValue}
use Rattle.math_tree.specs.declared.node.Head.{Head}
use Rattle.math_tree.specs.declared.node.Node.{Node}
use Rattle.math_tree.specs.declared.node.Node.TheViews.{out-Node}
use Rattle.embellished.specs.Seen.{Child, flow_children, flow_nodes, seen_of}
use Rattle.layout_model.specs.Laws.{answer_of, laid_below}
use Rattle.layout_model.specs.Answers.{questions_in}
use Rattle.layout_model.specs.Layout.{laid, last_context, lay, questions, somes}
use Rattle.layout_model.specs.Questions.{IsBelow, first}
use Rattle.layout_model.specs.declared.context.Context.{Context}
use Rattle.layout_model.specs.declared.context.Question.{Question}
use Rattle.layout_model.specs.declared.laid.Laid.{Laid}
use Rattle.layout_model.specs.declared.laid.Laid.TheViews.{roll-Laid}
use Rattle.layout_model.specs.declared.outcome.Outcome.{Outcome}
use Rattle.layout_model.proofs.Places.{first_below, second_below}
use Rattle.layout_model.proofs.Trees.{laid_is}
use Rattle.outcome_cells.specs.Store.{HasOutcome, Runs}
use Rattle.outcome_cells.proofs.Found.{one_for_run}
use Rattle.kept_results.specs.Backed.{IsBacked}
use Rattle.kept_results.specs.Kept.{Agrees, HasEntry, IsKept, IsSound, NamesKept}
use Rattle.kept_results.specs.declared.memo.Entry.{Entry}
use Rattle.kept_results.specs.declared.memo.Memo.{Memo}
use Rattle.kept_results.specs.declared.memo.Memo.TheViews.{out-Memo}
use Rattle.kept_results.proofs.Backed.{own_backed}
use Rattle.kept_results.proofs.Lists.{all_both}
use Rattle.kept_laid.specs.Laid.{kids_laid}
use Rattle.kept_laid.specs.Last.{AreLast, seen_contexts}
use Rattle.kept_laid.proofs.LastAsked.{asked_last}

abbrev pub asks_in : Entry → List Question
asks_in entry = questions_in entry.one ++ questions_in entry.two

-- ---- an entry that agrees with its element

module _ (m : MetricsValue) (node : Node) (memo : Memo) (entry : Entry) (agrees : Agrees m node memo) (has : HasEntry (out-Memo memo) entry) where
  sound : IsSound m node (out-Memo memo).below entry
  sound = (agrees.at [] node memo (refl, refl)).sound entry has

  pub ones_within : All (IsBelow (length (seen_of node).kids)) (questions_in entry.one)
  ones_within = subst (All (IsBelow (length (seen_of node).kids))) (sym sound.ones) (first_below m (seen_of node) entry.context)

  pub twos_within : All (IsBelow (length (seen_of node).kids)) (questions_in entry.two)
  twos_within = subst (All (IsBelow (length (seen_of node).kids))) (sym sound.twos) (second_below m (seen_of node) entry.context _)

  pub all_named : AllByRecursion (NamesKept node (out-Memo memo).below) (asks_in entry)
  all_named = all_both (NamesKept node (out-Memo memo).below) (questions_in entry.one) (questions_in entry.two) sound.ones_kept sound.twos_kept

  -- its run has the layout of the element
  pub keeps_layout : (runs : Runs) → IsBacked m runs node memo → (context : Context) → entry.context ≡ context → HasOutcome runs entry.run.0 (lay m node context)
  keeps_layout runs backed context is = subst (λ (c : Context). HasOutcome runs entry.run.0 (lay m node c)) is (own_backed m runs node memo backed entry has)

  pub outcome_is : (runs : Runs) → IsBacked m runs node memo → (context : Context) → entry.context ≡ context → (outcome : Outcome) → HasOutcome runs entry.run.0 outcome
      → outcome ≡ lay m node context
  outcome_is runs backed context is outcome stores = one_for_run runs entry.run.0 outcome (lay m node context) stores (keeps_layout runs backed context is)

  pub asks_are : (context : Context) → entry.context ≡ context → asks_in entry ≡ questions m (seen_of node) context (answer_of m node)
  unfolding questions
  asks_are context is =
      ap (λ (ones : List Question). ones ++ questions_in entry.two) sound.ones
      ∙ ap (λ (twos : List Question). first m (seen_of node) entry.context ++ twos) sound.twos
      ∙ ap (λ (c : Context). questions m (seen_of node) c (answer_of m node)) is

  -- the head of the element, its outcome, and the children as they were asked last
  pub laid_read : (runs : Runs) → IsBacked m runs node memo → (context : Context) → entry.context ≡ context → (head : Head) (outcome : Outcome) (kids : List Laid) → head ≡ (out-Node node).head
      → HasOutcome runs entry.run.0 outcome → kids ≡ kids_laid m node (asks_in entry) → roll-Laid record { head = head; outcome = outcome; kids = kids } ≡ laid m node context
  laid_read runs backed context is head outcome kids h s k =
      ap (λ (x : Head). roll-Laid record { head = x; outcome = outcome; kids = kids }) h
      ∙ ap (λ (x : Outcome). roll-Laid record { head = (out-Node node).head; outcome = x; kids = kids }) (outcome_is runs backed context is outcome s)
      ∙ ap (λ (x : List Laid). roll-Laid record { head = (out-Node node).head; outcome = lay m node context; kids = x }) (k ∙ ap (kids_laid m node) (asks_are context is))
      ∙ sym (laid_is m node context)

-- ---- the child at a place

-- what its place shows is what it was asked last
shown_last : (asks : List Question) (places : List (Option (Bor Context))) (kid : ℕ) (place : Option (Bor Context)) → AreLast asks (seen_contexts places) → kid < length places
    → slice_get places kid ≡ Some place → last_context asks kid ≡ option_map (λ context. context.now) place
shown_last asks places kid place h within at =
    let there : slice_get (seen_contexts places) kid ≡ Some (option_map (λ context. context.now) place) =
    slice_get-map _ places kid ∙ ap (option_map (option_map (λ (context : Bor Context). context.now))) at in
    same_Some (last_context asks kid) (option_map (λ context. context.now) place)
    (sym (h.at kid (omega (arith, within, length_seen places))) ∙ there)
  where
    length_seen : (list : List (Option (Bor Context))) → length (seen_contexts list) ≡ length list
    length_seen [] = refl
    length_seen (x ∷ list) = ap suc (length_seen list)

pub last_is : (asks : List Question) (places : List (Option (Bor Context))) (kid : ℕ) (place : Option (Bor Context)) → AreLast asks (seen_contexts places) → kid < length places
    → place ≡ get_or places kid place → last_context asks kid ≡ option_map (λ context. context.now) place
last_is asks places kid place h within is =
    shown_last asks places kid place h within (slice_get-get_or places kid place within ∙ ap (λ (o : Option (Bor Context)). Some o) (sym is))

pub none_is : (place : Option (Bor Context)) → ((context : Bor Context) → place ≡ Some context → ⊥) → option_map (λ context. context.now) place ≡ None
none_is None h = refl
none_is (Some context) h = absurd (h context refl)

-- it is kept in that context
pub kept_last : (node kid : Node) (below : List Memo) (memo : Memo) (place index : ℕ) (asks : List Question) (context : Context) → AllByRecursion (NamesKept node below) asks
    → last_context asks index ≡ Some context → slice_get (flow_children node) index ≡ Some record { place = place; node = kid } → slice_get below place ≡ Some memo
    → IsKept (out-Memo memo) context
kept_last node kid below memo place index asks context all last at there =
    let asked = asked_last (NamesKept node below) asks index context all last in
    let names = asked.holds in
    let same : names.child ≡ record { place = place; node = kid } =
    same_Some names.child record { place = place; node = kid } (sym names.to ∙ ap (slice_get (flow_children node)) asked.to ∙ at) in
    let memos : names.memo ≡ memo =
    same_Some names.memo memo (sym names.at ∙ ap (λ (child : Child). slice_get below child.place) same ∙ there) in
    subst (λ (k : Memo). IsKept (out-Memo k) context) memos (subst (IsKept (out-Memo names.memo)) asked.in_context names.kept)

-- ---- the children, one after another

abbrev pub kids_until : MetricsValue → Node → List Question → ℕ → List Laid
kids_until m node asks index = somes (list_to index (laid_below m node asks))

module _ (m : MetricsValue) (node : Node) (asks : List Question) (index : ℕ) where
  pub kids_next : (found : Option Laid) → laid_below m node asks index ≡ found → kids_until m node asks (index + 1) ≡ kids_until m node asks index ++ somes (found ∷ [])
  unfolding list_to
  kids_next found is =
      let next : kids_until m node asks (index + 1) ≡ kids_until m node asks (suc index) = rw add-one refl in
      next ∙ filter_map-append (λ (option : Option Laid). option) (list_to index (laid_below m node asks)) (laid_below m node asks index ∷ [])
      ∙ ap (λ (option : Option Laid). kids_until m node asks index ++ somes (option ∷ [])) is

  module _ (kid : Node) (at : slice_get (flow_nodes node) index ≡ Some kid) where
    pub below_is : laid_below m node asks index ≡ option_map (laid m kid) (last_context asks index)
    below_is = ap (λ (found : Option Node). option_and_then (λ (k : Node). option_map (laid m k) (last_context asks index)) found) at

    pub kid_more : (context : Context) (before after : List Laid) (made : Laid) → last_context asks index ≡ Some context → before ≡ kids_until m node asks index
        → made ≡ laid m kid context → after ≡ before ++ made ∷ [] → after ≡ kids_until m node asks (index + 1)
    kid_more context before after made last b is pushed =
        pushed ∙ ap (λ (kids : List Laid). kids ++ made ∷ []) b
        ∙ ap (λ (x : Laid). kids_until m node asks index ++ x ∷ []) is
        ∙ sym (kids_next (Some (laid m kid context)) (below_is ∙ ap (option_map (laid m kid)) last))

  -- a child that isn't asked isn't laid out
  pub kid_unasked : last_context asks index ≡ None → kids_until m node asks index ≡ kids_until m node asks (index + 1)
  kid_unasked last =
      sym (append-nil (kids_until m node asks index))
      ∙ sym (kids_next None (ap (λ (context : Option Context). option_and_then (λ (k : Node). option_map (laid m k) context) (slice_get (flow_nodes node) index)) last ∙ nowhere (slice_get (flow_nodes node) index)))
    where
      nowhere : (found : Option Node) → option_and_then (λ (k : Node). option_map (laid m k) None) found ≡ None
      nowhere None = refl
      nowhere (Some kid) = refl
