-- In what a child is laid out: its style, its form, and what stretches it.
use Rattle.std.specs.Prelude.{ℕ, ◌%◌, nat_eq, Bool, false, ◌&&◌, codes, List, Option, slice_get}
use Rattle.std.specs.Option.{option_and_then, option_map_or}
use Rattle.fixed_units.specs.Words.{is_word}
use Rattle.fixed_units.specs.declared.pull.Pull.{Pull}
use Rattle.fixed_units.specs.declared.pull.Pull.TheVariants.{Free, Block, Inline}
use Rattle.font_metrics.specs.Metrics.{MetricsValue}
use Rattle.math_tree.specs.Attributes.{value_of}
use Rattle.math_tree.specs.declared.attributes.Attribute.{Attribute}
use Rattle.op_dictionary.specs.declared.operator.Axis.{Axis}
use Rattle.op_dictionary.specs.declared.operator.Form.{Form}
use Rattle.embellished.specs.Forms.{form_at, stretch_axis}
use Rattle.embellished.specs.Kinds.{is_multiscripts}
use Rattle.embellished.specs.Seen.{Seen}
use Rattle.row_stretch.specs.declared.parts.KidPull.{KidPull}
use Rattle.style_scope.specs.Styles.{child_style_of}
use Rattle.style_scope.specs.declared.style.Place.{Place}
use Rattle.style_scope.specs.declared.style.Style.{Style}
use Rattle.layout_model.specs.declared.context.Context.{Context}
use Rattle.layout_model.specs.declared.context.Stretch.{Stretch}
use Rattle.layout_model.specs.declared.context.Stretch.TheVariants.{None as Unstretched, Block as Upright, Inline as Sideways, Columns, Slots}

-- ---- what stretches

-- the pull on a row, a base or an operator: columns and slots pull none of them
unfoldable pub pull_of : Stretch → Pull
pull_of Unstretched = Free
pull_of (Upright ascent descent) = Block ascent descent
pull_of (Sideways width) = Inline width
pull_of (Columns widths) = Free
pull_of (Slots numbers) = Free

unfoldable pub stretch_of : Pull → Stretch
stretch_of Free = Unstretched
stretch_of (Block ascent descent) = Upright ascent descent
stretch_of (Inline width) = Sideways width

-- ---- style

-- whether an attribute is `true`, in any case of ASCII letters
abbrev pub is_true : List ℕ → List Attribute → Bool
is_true name attributes = option_map_or (λ value. is_word value (codes "true"))
    (value_of name attributes) false

-- the subscripts of a valid `mmultiscripts`, before and behind the base: scripts come in pairs
-- behind the base, and the subscript is the first of each
abbrev pub is_subscript : Seen → ℕ → Bool
is_subscript seen index = is_multiscripts seen.facts.laid && nat_eq (index % 2) 1

-- where a child in flow stands; style rules go by the parent's name
abbrev pub place_of : Seen → ℕ → Place
place_of seen index = record {
  parent = seen.head.kind;
  index = index;
  accent = is_true (codes "accent") seen.head.attributes;
  accentunder = is_true (codes "accentunder") seen.head.attributes;
  subscript = is_subscript seen index;
}

-- the style of the child in flow at a place, below an element of this style
unfoldable pub kid_style : MetricsValue → Seen → Style → ℕ → Style
kid_style m seen style index =
    option_map_or (λ kid. child_style_of m style (place_of seen index) kid.head)
    (slice_get seen.kids index) style

-- ---- the context

-- what a child in flow is asked with
abbrev pub kid_context : MetricsValue → Seen → Context → ℕ → Stretch → Context
kid_context m seen context index stretch = record {
  style = kid_style m seen context.style index;
  form = form_at seen index context.form;
  stretch = stretch;
}

-- the axis along which a child in flow stretches in its form, where it does
unfoldable pub kid_axis : MetricsValue → Seen → Form → ℕ → Option Axis
kid_axis m seen form index =
    option_and_then (λ kid. stretch_axis kid.facts (form_at seen index form) m.operators)
    (slice_get seen.kids index)

abbrev pub kid_pull : MetricsValue → Seen → Form → ℕ → KidPull
kid_pull m seen form index = record { axis = kid_axis m seen form index }
