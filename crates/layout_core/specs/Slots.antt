-- The children in flow of an element as they are laid out one after another: in each place, the
-- last layout of that child.
use Rattle.std.specs.Prelude.{List, Option, Some, slice_get, slice_set, fold}
use Rattle.std.specs.List.{filter_map}
use Rattle.std.specs.Option.{option_map_or}
use Rattle.font_metrics.specs.Metrics.{MetricsValue}
use Rattle.math_tree.specs.declared.node.Node.{Node}
use Rattle.embellished.specs.Seen.{flow_nodes}
use Rattle.layout_model.specs.Layout.{laid}
use Rattle.layout_model.specs.declared.context.Question.{Question}
use Rattle.layout_model.specs.declared.laid.Laid.{Laid}

-- the child that a question names, laid out in the context asked (the element itself where there is
-- no such child)
unfoldable pub laid_for : MetricsValue → Node → Question → Laid
laid_for m node question =
    option_map_or (λ kid. laid m kid question.context) (slice_get (flow_nodes node) question.kid)
    (laid m node question.context)

-- one after another at their places
unfoldable pub with_laid : MetricsValue → Node → List Question → List (Option Laid)
    → List (Option Laid)
with_laid m node asks slots =
    fold (λ places question. slice_set places question.kid (Some (laid_for m node question))) slots
    asks

-- those that are laid out
abbrev pub filled : List (Option Laid) → List Laid
filled slots = filter_map (λ slot. slot) slots
