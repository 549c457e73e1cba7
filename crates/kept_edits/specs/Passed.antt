-- The steps of a pass, and what it may begin with.
use Rattle.std.specs.Prelude.{◌≡◌, ℕ, ◌+◌, List, length}
use Rattle.std.specs.List.{AllByRecursion}
use Rattle.font_metrics.specs.Metrics.{MetricsValue}
use Rattle.math_tree.specs.declared.node.Node.{Node}
use Rattle.layout_model.specs.declared.context.Context.{Context}
use Rattle.kept_results.specs.Passes.{HasNoRepeat, IsPairMissing, Needs, Pair}
use Rattle.kept_results.specs.declared.memo.Memo.{Memo}

-- each step is a layout that the one of the root needs and that wasn't kept, none twice
pub record TakesMissing (m : MetricsValue) (node : Node) (context : Context) (before : Memo)
    (from to : ℕ) : Type 0 where
  pub pairs : List Pair
  pub steps : to ≡ from + length pairs
  pub needed : AllByRecursion (Needs m node context) pairs
  pub missing : AllByRecursion (IsPairMissing before) pairs
  pub apart : HasNoRepeat pairs
