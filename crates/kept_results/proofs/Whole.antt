-- Where a layout is kept, all that it needs is.
use Rattle.std.proofs.Common.{◌≡◌, ◌∙◌, refl, sym, ap, subst, ℕ, List, [], ◌∷◌, map, Contains, Some, slice_get}
use Rattle.std.proofs.lemmas.List.Elements.{All-contains, All-from_recursion}
use Rattle.std.proofs.lemmas.Option.{same_Some}
use Rattle.std.specs.List.{AllByRecursion}
use Rattle.font_metrics.specs.Metrics.{MetricsValue}
use Rattle.math_tree.specs.declared.node.Node.{Node}
use Rattle.embellished.specs.Seen.{Child, seen_of}
use Rattle.embellished.proofs.InFlow.{among}
use Rattle.layout_model.specs.Laws.{answer_of}
use Rattle.layout_model.specs.Layout.{questions}
use Rattle.layout_model.specs.Made.{IsMade, asks_of}
use Rattle.layout_model.specs.Questions.{first, second}
use Rattle.layout_model.specs.declared.context.Context.{Context}
use Rattle.layout_model.specs.declared.context.Question.{Question}
use Rattle.kept_results.specs.Kept.{Agrees, HoldsOne, IsKept, NamesKept}
use Rattle.kept_results.specs.Laws.{KeptLaw}
use Rattle.kept_results.specs.declared.memo.Memo.{Memo}
use Rattle.kept_results.specs.declared.memo.Memo.TheViews.{out-Memo}
use Rattle.kept_results.proofs.Agreement.{agrees_child}
use Rattle.kept_results.proofs.Lists.{all_both}

module _ (m : MetricsValue) where
  -- all that an element asks for a layout that is kept
  asks_kept : (node : Node) (memo : Memo) (context : Context) → Agrees m node memo → IsKept (out-Memo memo) context
      → AllByRecursion (NamesKept node (out-Memo memo).below) (asks_of m node context)
  unfolding questions
  asks_kept node memo context h one =
      let s = (h.at [] node memo (refl, refl)).sound one.entry one.has in
      let P : Question → Type 0 = NamesKept node (out-Memo memo).below in
      let seconds : Context → List Question = λ c. second m (seen_of node) c (map (answer_of m node) (first m (seen_of node) c)) in
      all_both P (first m (seen_of node) context) (seconds context)
      (subst (AllByRecursion P) (s.ones ∙ ap (first m (seen_of node)) one.in_context) s.ones_kept)
      (subst (AllByRecursion P) (s.twos ∙ ap seconds one.in_context) s.twos_kept)

  -- a question of a layout that is kept names a memo
  named : (node : Node) (memo : Memo) (context : Context) (question : Question) → Agrees m node memo → IsKept (out-Memo memo) context
      → Contains (asks_of m node context) question → NamesKept node (out-Memo memo).below question
  named node memo context question h one asked =
      All-contains (NamesKept node (out-Memo memo).below) (asks_of m node context) question
      (All-from_recursion (NamesKept node (out-Memo memo).below) (asks_of m node context) (asks_kept node memo context h one)) asked

  kept_down : (path : List ℕ) (node : Node) (memo : Memo) (context : Context) (element : Node) (made : Context) → Agrees m node memo → IsKept (out-Memo memo) context
      → IsMade m path node context element made → HoldsOne path memo made
  kept_down [] node memo context element made h one (same, is) =
      record { entry = one.entry; held = one.has; in_context = one.in_context ∙ sym is }
  kept_down (place ∷ path) node memo context element made h one (question, child, asks, at, rest) =
      let there = named node memo context question h one asks.asked in
      let same : there.child ≡ child = same_Some there.child child (sym there.to ∙ asks.to) in
      let stands : slice_get (out-Memo memo).below child.place ≡ Some there.memo = ap (λ (c : Child). slice_get (out-Memo memo).below c.place) (sym same) ∙ there.at in
      let agrees = agrees_child m node memo child.place child.node there.memo h (among node question.kid child asks.to) stands in
      let found = kept_down path child.node there.memo question.context element made agrees there.kept rest in
      record {
        entry = found.entry;
        held = (there.memo, ap (slice_get (out-Memo memo).below) (sym at) ∙ stands, found.held);
        in_context = found.in_context;
      }

pub kept_law : KeptLaw
kept_law m node memo context h one pair need =
    kept_down m pair.path node memo context need.element pair.context h record { entry = one.entry; has = one.held; in_context = one.in_context } need.made
