-- What holds of the runs of kept layouts.
use Rattle.std.specs.Prelude.{◌≡◌, ◌≤◌, length}
use Rattle.font_metrics.specs.Metrics.{MetricsValue}
use Rattle.math_tree.specs.declared.node.Node.{Node}
use Rattle.outcome_cells.specs.Store.{Runs}
use Rattle.kept_results.specs.Backed.{HaveOwnRuns, IsBacked}
use Rattle.kept_results.specs.Ends.{kept_count}
use Rattle.kept_results.specs.Kept.{Agrees}
use Rattle.kept_results.specs.declared.memo.Memo.{Memo}
use Rattle.kept_sweep.specs.Runs.{HaveOneRunEach}

-- where the runs have all that is kept, each entry a run of its own, there are at least as many
abbrev pub EnoughRunsLaw : Type 0
EnoughRunsLaw = (m : MetricsValue) (runs : Runs) (node : Node) (memo : Memo) → Agrees m node memo
    → IsBacked m runs node memo → HaveOwnRuns memo → kept_count memo ≤ length runs

-- and where there are no more, each run is that of an entry
abbrev pub OneRunEachLaw : Type 0
OneRunEachLaw = (m : MetricsValue) (runs : Runs) (node : Node) (memo : Memo) → Agrees m node memo
    → IsBacked m runs node memo → HaveOwnRuns memo → length runs ≡ kept_count memo
    → HaveOneRunEach runs memo
