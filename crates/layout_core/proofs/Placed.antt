-- One question more of a wave: its answer, and the child at its place.
use Rattle.std.proofs.Common.{◌≡◌, ◌∙◌, refl, sym, ap, ℕ, ◌+◌, ◌<◌, List, [], ◌∷◌, ◌++◌, length, map, take, get_or, Option, Some, slice_get, slice_set}
use Rattle.std.proofs.lemmas.List.{length-set, map_more, take_more}
use Rattle.std.proofs.lemmas.List.Sums.{fold-append}
use Rattle.std.specs.List.{fold}
use Rattle.std.specs.Option.{option_map_or}
use Rattle.font_metrics.specs.Metrics.{MetricsValue}
use Rattle.math_tree.specs.declared.node.Node.{Node}
use Rattle.embellished.specs.Seen.{flow_nodes}
use Rattle.layout_model.specs.Laws.{answer_of}
use Rattle.layout_model.specs.Layout.{laid, lay}
use Rattle.layout_model.specs.declared.context.Context.{Context}
use Rattle.layout_model.specs.declared.context.Question.{Question}
use Rattle.layout_model.specs.declared.laid.Laid.{Laid}
use Rattle.layout_model.specs.declared.laid.Laid.TheOpen.{Laid-F}
use Rattle.layout_model.specs.declared.laid.Laid.TheViews.{out-Laid, out-roll-Laid}
use Rattle.layout_model.specs.declared.outcome.Answer.{Answer}
use Rattle.layout_model.specs.declared.outcome.Outcome.{Outcome}
use Rattle.layout_model.proofs.Trees.{laid_is}
use Rattle.layout_core.specs.Slots.{laid_for, with_laid}
use Rattle.layout_model.proofs.Waves.{answered}

abbrev pub outcome_in : Laid → Outcome
outcome_in all = (out-Laid all).outcome

module _ (m : MetricsValue) where
  pub own_outcome : (node : Node) (context : Context) → outcome_in (laid m node context) ≡ lay m node context
  own_outcome node context = ap outcome_in (laid_is m node context) ∙ ap (λ (l : Laid-F Laid). l.outcome) (out-roll-Laid _)

  module _ (node : Node) where
    -- ---- a question that names a child
    module _ (question : Question) (kid : Node) (at : slice_get (flow_nodes node) question.kid ≡ Some kid) where
      pub laid_out : laid_for m node question ≡ laid m kid question.context
      unfolding laid_for
      laid_out = ap (λ (found : Option Node). option_map_or (λ k. laid m k question.context) found (laid m node question.context)) at

    -- ---- no question, and how many places there are
    pub kept_none : (slots : List (Option Laid)) → with_laid m node [] slots ≡ slots
    unfolding with_laid
    kept_none slots = refl

    pub as_many_places : (asks : List Question) (slots : List (Option Laid)) → length (with_laid m node asks slots) ≡ length slots
    unfolding with_laid
    as_many_places [] slots = refl
    as_many_places (question ∷ asks) slots =
        as_many_places asks (slice_set slots question.kid (Some (laid_for m node question))) ∙ length-set slots question.kid (Some (laid_for m node question))

    -- ---- one question more
    module _ (asks : List Question) (i : ℕ) (question : Question) (kid : Node) (within : i < length asks) (is : question ≡ get_or asks i question)
        (at : slice_get (flow_nodes node) question.kid ≡ Some kid) where
      pub told_more : (before after : List Answer) (made : Laid) → before ≡ map (answer_of m node) (take i asks) → made ≡ laid m kid question.context
          → after ≡ before ++ (outcome_in made).answer ∷ [] → after ≡ map (answer_of m node) (take (i + 1) asks)
      told_more before after made b e pushed =
          let own : (outcome_in made).answer ≡ answer_of m node (get_or asks i question) =
          ap (λ (l : Laid). (outcome_in l).answer) e ∙ ap (λ (o : Outcome). o.answer) (own_outcome kid question.context)
          ∙ sym (answered m node question kid at) ∙ ap (answer_of m node) is in
          pushed ∙ ap (λ (list : List Answer). list ++ (outcome_in made).answer ∷ []) b
          ∙ ap (λ (a : Answer). map (answer_of m node) (take i asks) ++ a ∷ []) own
          ∙ sym (map_more (answer_of m node) asks i question within)

      pub kept_more : (start before after : List (Option Laid)) (made : Laid) → before ≡ with_laid m node (take i asks) start → made ≡ laid m kid question.context
          → after ≡ slice_set before question.kid (Some made) → after ≡ with_laid m node (take (i + 1) asks) start
      unfolding with_laid
      kept_more start before after made b e set =
          let put : List (Option Laid) → Question → List (Option Laid) = λ places q. slice_set places q.kid (Some (laid_for m node q)) in
          set ∙ ap (λ (l : Laid). slice_set before question.kid (Some l)) (e ∙ sym (laid_out question kid at))
          ∙ ap (λ (places : List (Option Laid)). put places question) b
          ∙ ap (λ (q : Question). put (fold put start (take i asks)) q) is
          ∙ sym (fold-append put start (take i asks) (get_or asks i question ∷ []))
          ∙ ap (fold put start) (sym (take_more asks i question within))
