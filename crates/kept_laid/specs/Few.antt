-- How many entries there are where only what one layout of the root needs is kept.
use Rattle.std.specs.Prelude.{◌*◌, ◌≤◌}
use Rattle.font_metrics.specs.Metrics.{MetricsValue}
use Rattle.math_tree.specs.Trees.{element_count}
use Rattle.math_tree.specs.declared.node.Node.{Node}
use Rattle.layout_model.specs.Waves.{MayBeAsked}
use Rattle.layout_model.specs.declared.context.Context.{Context}
use Rattle.kept_results.specs.Ends.{kept_count}
use Rattle.kept_results.specs.Kept.{Agrees}
use Rattle.kept_results.specs.Passes.{IsPairKept, Needs, Pair}
use Rattle.kept_results.specs.declared.memo.Memo.{Memo}

-- no layout is kept that the one of a node in a context doesn't need
abbrev pub KeepsNoOther : MetricsValue → Node → Context → Memo → Type 0
KeepsNoOther m node context memo = (pair : Pair) → IsPairKept memo pair → Needs m node context pair

-- there are then at most twice as many as there are elements
abbrev pub FewLaw : Type 0
FewLaw = (m : MetricsValue) (node : Node) (context : Context) (memo : Memo)
    → MayBeAsked m node context → Agrees m node memo →
    KeepsNoOther m node context memo → kept_count memo ≤ 2 * element_count node

-- and no more than this, where there are no more elements than a tree may have
abbrev pub LimitLaw : Type 0
LimitLaw = (m : MetricsValue) (node : Node) (context : Context) (memo : Memo)
    → MayBeAsked m node context → Agrees m node memo →
    KeepsNoOther m node context memo → element_count node ≤ 65_536 → kept_count memo ≤ 131_072
