-- An element over both waves: the children that are kept are those of its laid-out tree.
use Rattle.std.proofs.Common.{◌≡◌, ◌∙◌, sym, ap, subst, ℕ, List, ◌++◌, length, map, replicate, All, Option, Some, slice_set}
use Rattle.std.proofs.lemmas.List.Elements.{All-append}
use Rattle.std.proofs.lemmas.List.Sums.{fold-append}
use Rattle.font_metrics.specs.Metrics.{MetricsValue}
use Rattle.math_tree.specs.declared.node.Head.{Head}
use Rattle.math_tree.specs.declared.node.Node.{Node}
use Rattle.math_tree.specs.declared.node.Node.TheViews.{out-Node}
use Rattle.embellished.specs.Seen.{flow_nodes, seen_of}
use Rattle.fixed_units.specs.Sums.{list_to}
use Rattle.layout_model.specs.Laws.{answer_of, laid_below}
use Rattle.layout_model.specs.Layout.{laid, lay, questions}
use Rattle.layout_model.specs.Questions.{IsBelow, first, second}
use Rattle.layout_model.specs.declared.context.Context.{Context}
use Rattle.layout_model.specs.declared.context.Question.{Question}
use Rattle.layout_model.specs.declared.laid.Laid.{Laid}
use Rattle.layout_model.specs.declared.laid.Laid.TheViews.{roll-Laid}
use Rattle.layout_model.specs.declared.outcome.Answer.{Answer}
use Rattle.layout_model.specs.declared.outcome.Outcome.{Outcome}
use Rattle.layout_model.proofs.Trees.{laid_is}
use Rattle.layout_core.specs.Slots.{filled, laid_for, with_laid}
use Rattle.layout_model.proofs.Children.{as_many_nodes}
use Rattle.layout_core.proofs.KeptLast.{kept_as_asked_last, none_kept, nothing}
use Rattle.layout_model.proofs.Whole.{ones_below, questions_are as asked_in_all, twos_below}

module _ (m : MetricsValue) (node shown : Node) (context : Context) (e : shown ≡ node) (ones : List Question) (o : ones ≡ first m (seen_of shown) context)
    (one : List Answer) (a : one ≡ map (answer_of m node) ones) (twos : List Question) (t : twos ≡ second m (seen_of shown) context one) where
  questions_are : questions m (seen_of node) context (answer_of m node) ≡ ones ++ twos
  questions_are = asked_in_all m node shown context e ones o one a twos t

  pub laid_waves : (head : Head) (made : Outcome) (slots start : List (Option Laid)) (n : ℕ) → head ≡ (out-Node node).head → made ≡ lay m node context
      → start ≡ replicate n nothing → n ≡ length (seen_of node).kids → slots ≡ with_laid m node twos (with_laid m node ones start)
      → roll-Laid record { head = head; outcome = made; kids = filled slots } ≡ laid m node context
  unfolding with_laid
  laid_waves head made slots start n h l s c k =
      let nodes : n ≡ length (flow_nodes node) = c ∙ sym (as_many_nodes node) in
      let both : All (IsBelow n) (ones ++ twos) =
      All-append (IsBelow n) ones twos (subst (λ (j : ℕ). All (IsBelow j) ones) (sym c) (ones_below m node shown context e ones o)) (subst (λ (j : ℕ). All (IsBelow j) twos) (sym c) (twos_below m node shown context e ones o one a twos t)) in
      let put : List (Option Laid) → Question → List (Option Laid) = λ places q. slice_set places q.kid (Some (laid_for m node q)) in
      let kept : slots ≡ list_to (length (flow_nodes node)) (laid_below m node (questions m (seen_of node) context (answer_of m node))) =
      k ∙ sym (fold-append put start ones twos)
      ∙ ap (with_laid m node (ones ++ twos)) (s ∙ none_kept n)
      ∙ kept_as_asked_last m node (ones ++ twos) n nodes both
      ∙ ap (λ (j : ℕ). list_to j (laid_below m node (ones ++ twos))) nodes
      ∙ ap (λ (asks : List Question). list_to (length (flow_nodes node)) (laid_below m node asks)) (sym questions_are) in
      ap (λ (x : Head). roll-Laid record { head = x; outcome = made; kids = filled slots }) h
      ∙ ap (λ (x : Outcome). roll-Laid record { head = (out-Node node).head; outcome = x; kids = filled slots }) l
      ∙ ap (λ (x : List (Option Laid)). roll-Laid record { head = (out-Node node).head; outcome = lay m node context; kids = filled x }) kept
      ∙ sym (laid_is m node context)
