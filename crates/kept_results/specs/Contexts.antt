-- In which contexts an element of a tree may be laid out, and what it may ask.
use Rattle.std.specs.Prelude.{◌<◌, length}
use Rattle.font_metrics.specs.Metrics.{MetricsValue}
use Rattle.math_tree.specs.declared.node.Node.{Node}
use Rattle.embellished.specs.Seen.{seen_of}
use Rattle.style_scope.specs.Sizes.{IsStyle}
use Rattle.layout_model.specs.Fits.{IsStretch}
use Rattle.layout_model.specs.Waves.{MayAsk, MayBeAsked}
use Rattle.layout_model.specs.declared.context.Context.{Context}
use Rattle.layout_model.specs.declared.context.Question.{Question}

-- an element may be laid out in a context: its style keeps the bounds of styles, what stretches can
-- be stored, and only an operator is stretched, along its own axis, and only a row of a table has
-- columns or slots
pub record Suits (m : MetricsValue) (node : Node) (context : Context) : Type 0 where
  pub style : IsStyle context.style
  pub stretch : IsStretch context.stretch
  pub carried : MayBeAsked m node context

-- a question goes to a child in flow, in a context in which that child may be laid out
pub record IsProper (m : MetricsValue) (node : Node) (question : Question) : Type 0 where
  pub within : question.kid < length (seen_of node).kids
  pub style : IsStyle question.context.style
  pub stretch : IsStretch question.context.stretch
  pub carried : MayAsk m (seen_of node) question
