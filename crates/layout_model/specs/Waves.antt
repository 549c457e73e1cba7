-- How often an element asks a child in its two waves, and what it may hand down.
use Rattle.std.specs.Prelude.{◌≡◌, ◌≢◌, ℕ, ◌<◌, ◌≤◌, ◌==◌, ⊤, Bool, true, false, ◌||◌, List, ◌++◌, length, Some, None, unwrap_or, slice_get}
use Rattle.std.specs.List.{All, Contains, count_by}
use Rattle.std.specs.Option.{IfSome}
use Rattle.font_metrics.specs.Metrics.{MetricsValue}
use Rattle.math_tree.specs.declared.kind.Kind.TheVariants.{Mtable, Mtr}
use Rattle.math_tree.specs.declared.node.Node.{Node}
use Rattle.op_dictionary.specs.declared.operator.Axis.{Axis}
use Rattle.op_dictionary.specs.declared.operator.Axis.TheVariants.{Block as Upwards, Inline as Along}
use Rattle.op_dictionary.specs.declared.operator.Form.{Form}
use Rattle.op_dictionary.specs.declared.operator.Form.TheVariants.{Infix}
use Rattle.embellished.specs.Facts.{facts}
use Rattle.embellished.specs.Forms.{stretch_axis}
use Rattle.embellished.specs.Kinds.{is_table_row}
use Rattle.embellished.specs.Seen.{Kid, Seen, seen_of}
use Rattle.embellished.specs.declared.facts.Facts.{Facts}
use Rattle.layout_model.specs.Contexts.{kid_context}
use Rattle.layout_model.specs.Questions.{first, second}
use Rattle.layout_model.specs.declared.context.Context.{Context}
use Rattle.layout_model.specs.declared.context.Question.{Question}
use Rattle.layout_model.specs.declared.context.Stretch.{Stretch}
use Rattle.layout_model.specs.declared.context.Stretch.TheVariants.{None as Unstretched, Block, Inline, Columns, Slots}
use Rattle.layout_model.specs.declared.outcome.Answer.{Answer}

-- ---- how often

-- how often questions go to the child in flow at a place
abbrev pub times_asked : ℕ → List Question → ℕ
times_asked kid asks = count_by (λ question. question.kid == kid) asks

-- what an element asks in both waves, where these are the answers to wave one
abbrev pub both_waves : MetricsValue → Seen → Context → List Answer → List Question
both_waves m seen context one = first m seen context ++ second m seen context one

-- ---- what stretches

abbrev pub is_stretched : Stretch → Bool
is_stretched Unstretched = false
is_stretched other = true

-- an operator that stretches along an axis, in the form of its attribute where it has one
pub record StretchesIn (m : MetricsValue) (own : Facts) (form : Form) (axis : Axis) : Type 0 where
  pub along : stretch_axis own form m.operators ≡ Some axis
  pub by_attribute : IfSome own.core (λ core. unwrap_or core.form form ≡ form)

-- what an element may be asked with: a pull, along the axis along which it stretches; columns or
-- slots, where it is a row of a table
abbrev pub MayCarry : MetricsValue → Facts → Form → Stretch → Type 0
MayCarry m own form Unstretched = ⊤
MayCarry m own form (Block ascent descent) = StretchesIn m own form Upwards
MayCarry m own form (Inline width) = StretchesIn m own form Along
MayCarry m own form (Columns widths) = own.laid ≡ Mtr
MayCarry m own form (Slots numbers) = own.laid ≡ Mtr

-- an element of a tree may be asked so
abbrev pub MayBeAsked : MetricsValue → Node → Context → Type 0
MayBeAsked m node context = MayCarry m (facts node) context.form context.stretch

-- ---- laws

-- no wave asks a child twice
abbrev pub EachWaveLaw : Type 0
EachWaveLaw = (m : MetricsValue) (seen : Seen) (context : Context) (one : List Answer) (kid : ℕ) →
    (times_asked kid (first m seen context) ≤ 1) × (times_asked kid (second m seen context one) ≤ 1)

-- an element that is asked with a stretch asks each child just once, and so does a row of a table
abbrev pub OnceLaw : Type 0
OnceLaw = (m : MetricsValue) (node : Node) (context : Context) (one : List Answer) (kid : ℕ) →
    MayBeAsked m node context → kid < length (seen_of node).kids →
    (is_stretched context.stretch || is_table_row (facts node).laid) ≡ true →
    times_asked kid (both_waves m (seen_of node) context one) ≡ 1

-- each child in flow is asked, whatever the answers to wave one are
abbrev pub AskedLaw : Type 0
AskedLaw = (m : MetricsValue) (node : Node) (context : Context) (one : List Answer) (kid : ℕ) →
    kid < length (seen_of node).kids → 1 ≤ times_asked kid (both_waves m (seen_of node) context one)

-- a question to a child has its place's style and form; of two to one child, both have a stretch or
-- none does, and then they are the same, but for the rows of a table
pub record AsksAlike (m : MetricsValue) (seen : Seen) (context : Context) (one : List Answer) : Type
    0 where
  pub place : All (λ question. question.context
      ≡ kid_context m seen context question.kid question.context.stretch)
      (both_waves m seen context one)
  pub alike : (q r : Question) → Contains (both_waves m seen context one) q
      → Contains (both_waves m seen context one) r →
      q.kid ≡ r.kid → is_stretched q.context.stretch ≡ is_stretched r.context.stretch
  pub alone : (q r : Question) → Contains (both_waves m seen context one) q
      → Contains (both_waves m seen context one) r →
      q.kid ≡ r.kid → is_stretched q.context.stretch ≡ false → q ≡ r

abbrev pub AlikeLaw : Type 0
AlikeLaw = (m : MetricsValue) (seen : Seen) (context : Context) (one : List Answer) →
    seen.facts.laid ≢ Mtable → AsksAlike m seen context one

-- a child that is no operator is asked with form infix and without stretch
abbrev pub IsPlain : Seen → Question → Type 0
IsPlain seen question =
    (kid : Kid) → slice_get seen.kids question.kid ≡ Some kid → kid.facts.core ≡ None →
    (question.context.form ≡ Infix) × (question.context.stretch ≡ Unstretched)

-- but for the rows of a table
abbrev pub PlainLaw : Type 0
PlainLaw = (m : MetricsValue) (node : Node) (context : Context) (one : List Answer) →
    MayBeAsked m node context → (facts node).laid ≢ Mtable →
    All (IsPlain (seen_of node)) (both_waves m (seen_of node) context one)

-- a child may be asked what it is asked
abbrev pub MayAsk : MetricsValue → Seen → Question → Type 0
MayAsk m seen question =
    (kid : Kid) → slice_get seen.kids question.kid ≡ Some kid →
    MayCarry m kid.facts question.context.form question.context.stretch

-- who may be asked something asks its children what they may be asked
abbrev pub HandedLaw : Type 0
HandedLaw = (m : MetricsValue) (node : Node) (context : Context) (one : List Answer) →
    MayBeAsked m node context
    → All (MayAsk m (seen_of node)) (both_waves m (seen_of node) context one)
