-- What holds of a part of what is kept, as a sweep leaves it.
use Rattle.font_metrics.specs.Metrics.{MetricsValue}
use Rattle.math_tree.specs.declared.node.Node.{Node}
use Rattle.outcome_cells.specs.Store.{Runs}
use Rattle.kept_results.specs.Backed.{HaveOwnRuns, IsBacked}
use Rattle.kept_results.specs.declared.memo.Memo.{Memo}
use Rattle.kept_sweep.specs.Swept.{IsPartOf}

-- its entries have the runs that they had
abbrev pub PartBackedLaw : Type 0
PartBackedLaw = (m : MetricsValue) (runs : Runs) (node : Node) (part whole : Memo)
    → IsBacked m runs node whole → IsPartOf part whole → IsBacked m runs node part

-- and no two have one, where no two had
abbrev pub PartOwnRunsLaw : Type 0
PartOwnRunsLaw = (part whole : Memo) → HaveOwnRuns whole → IsPartOf part whole → HaveOwnRuns part
