-- The layout of an element of a tree, in terms of the nodes in flow below it.
use Rattle.std.specs.Prelude.{◌≡◌, ℕ, List, [], ◌∷◌, length, Option, option_map, slice_get}
use Rattle.std.specs.List.{flat_map}
use Rattle.std.specs.Option.{option_and_then, option_map_or}
use Rattle.fixed_units.specs.Sums.{list_to}
use Rattle.font_metrics.specs.Metrics.{MetricsValue}
use Rattle.math_tree.specs.declared.node.Node.{Node}
use Rattle.math_tree.specs.declared.node.Node.TheViews.{out-Node}
use Rattle.embellished.specs.Seen.{flow_nodes, seen_of}
use Rattle.layout_model.specs.Answers.{no_answer}
use Rattle.layout_model.specs.Fits.{AreSpans}
use Rattle.layout_model.specs.Layout.{Visit, laid, somes, last_context, lay, lay_by, questions, visits}
use Rattle.layout_model.specs.declared.context.Context.{Context}
use Rattle.layout_model.specs.declared.context.Question.{Question}
use Rattle.layout_model.specs.declared.laid.Laid.{Laid}
use Rattle.layout_model.specs.declared.laid.Laid.TheViews.{roll-Laid}
use Rattle.layout_model.specs.declared.outcome.Answer.{Answer}

-- the answer of an element's child in flow to a question: that of its layout in the context asked
unfoldable pub answer_of : MetricsValue → Node → Question → Answer
answer_of m node question = option_map_or (λ kid. (lay m kid question.context).answer)
    (slice_get (flow_nodes node) question.kid) no_answer

-- the layouts that are made for that answer
unfoldable pub visits_below : MetricsValue → Node → Question → List Visit
visits_below m node question = option_map_or (λ kid. visits m kid question.context)
    (slice_get (flow_nodes node) question.kid) []

-- an element is laid out by its equation, over the layouts of its children in flow
abbrev pub LayoutLaw : Type 0
LayoutLaw = (m : MetricsValue) (node : Node) (context : Context) →
    lay m node context ≡ lay_by m (seen_of node) context (answer_of m node)

-- its own layout is made, and then all that are made for what it asks
abbrev pub VisitsLaw : Type 0
VisitsLaw = (m : MetricsValue) (node : Node) (context : Context) →
    visits m node context ≡ record {
      id = (out-Node node).head.id;
      context = context;
      outcome = lay m node context;
    }
    ∷ flat_map (visits_below m node) (questions m (seen_of node) context (answer_of m node))

-- the same with all elements in flow below it: the child at a place, as the last question to it has
-- it
abbrev pub laid_below : MetricsValue → Node → List Question → ℕ → Option Laid
laid_below m node asks place = option_and_then
    (λ kid. option_map (laid m kid) (last_context asks place)) (slice_get (flow_nodes node) place)

abbrev pub LaidLaw : Type 0
LaidLaw = (m : MetricsValue) (node : Node) (context : Context) →
    laid m node context ≡ roll-Laid record {
      head = (out-Node node).head;
      outcome = lay m node context;
      kids = somes (list_to (length (flow_nodes node))
          (laid_below m node (questions m (seen_of node) context (answer_of m node))));
    }

-- what cells span is told of all cells of a row or of none, within the limits
abbrev pub SpansLaw : Type 0
SpansLaw = (m : MetricsValue) (node : Node) (context : Context)
    → AreSpans (lay m node context).answer
