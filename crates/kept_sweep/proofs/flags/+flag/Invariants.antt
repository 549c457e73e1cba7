use Rattle.std.proofs.Common.{◌≡◌, ℕ, List, take}
use Rattle.std.specs.List.{AllByRecursion}
use Rattle.font_metrics.specs.Metrics.{MetricsValue}
use Rattle.math_tree.specs.declared.node.Node.{Node}
use Rattle.layout_model.specs.Answers.{questions_in}
use Rattle.layout_model.specs.declared.context.Question.{Question}
use Rattle.kept_results.specs.Kept.{NamesKept}
use Rattle.kept_results.specs.declared.memo.Memo.{Memo}
use Rattle.kept_sweep.specs.Flagged.{AreFlagged}
use Rattle.kept_laid.specs.Places.{shown_before}
use Rattle.kept_sweep.specs.declared.places.Spot.{Spot}
use Rattle.kept_sweep.proofs.flags.+flag.Given as goal

-- what the first questions need is flagged, and the next search begins behind the last child that was asked
pub record Asked (m : MetricsValue) (node : Node) (asks items : List Question) (index : ℕ) (before below : List Memo) (spot : Spot) : Type 0 where
  pub flagged : AreFlagged m node asks before below
  pub named : AllByRecursion (NamesKept node below) (take index items)
  pub counted : spot.index ≡ shown_before node spot.place

abbrev pub invariant-flag_all-loop-asked : goal.invariant-flag_all-loop-asked
invariant-flag_all-loop-asked l = Asked l.metrics l.node (questions_in l.replies) (questions_in l.asked-items) l.asked-index l.fn.below l.below l.spot
