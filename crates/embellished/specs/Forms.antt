-- The form of an operator by its place, and its properties (MathML Core 3.2.4.2 and 3.2.4.3).
use Rattle.std.specs.Prelude.{◌≡◌, ℕ, ◌+◌, Bool, true, not, ◌&&◌, nat_eq, nat_lt, if◌then◌else◌, List, take, drop, Option, Some, None, is_some, unwrap_or, slice_get}
use Rattle.std.specs.List.{list_all}
use Rattle.std.specs.Option.{option_and_then, option_map_or}
use Rattle.op_dictionary.specs.BuiltIn.{properties_of}
use Rattle.op_dictionary.specs.Dictionary.{axis_of, category_of}
use Rattle.op_dictionary.specs.declared.extra.OperatorLine.{OperatorLine}
use Rattle.op_dictionary.specs.declared.operator.Axis.{Axis}
use Rattle.op_dictionary.specs.declared.operator.Form.{Form}
use Rattle.op_dictionary.specs.declared.operator.Form.TheVariants.{Prefix, Infix, Postfix}
use Rattle.op_dictionary.specs.declared.operator.Properties.{Properties}
use Rattle.math_tree.specs.Kinds.{is_scripted}
use Rattle.math_tree.specs.declared.kind.Kind.{Kind}
use Rattle.embellished.specs.Kinds.{is_led_by_its_base, has_fences}
use Rattle.embellished.specs.Seen.{Kid, Seen}
use Rattle.embellished.specs.declared.facts.Core.{Core}
use Rattle.embellished.specs.declared.facts.Facts.{Facts}

abbrev pub are_space_like : List Kid → Bool
are_space_like kids = list_all (λ kid. kid.facts.space_like) kids

-- the first of the children that aren't space-like is prefix and the last is postfix, where there
-- is more than one of them
unfoldable pub fence_form : List Kid → ℕ → Form
fence_form kids index =
    let first = are_space_like (take index kids) in
    let last = are_space_like (drop (index + 1) kids) in
    if first && not last then Prefix else if last && not first then Postfix else Infix

-- the form that the place of a child gives it
unfoldable pub form_by_place : Kind → List Kid → ℕ → Form
form_by_place laid kids index =
    if has_fences laid then fence_form kids index
    else if is_scripted laid && nat_lt 0 index then Postfix
    else Infix

-- whether a child leads to the core of its embellished parent: the base does, or else the only
-- child that isn't space-like
abbrev pub leads : Kind → Facts → ℕ → Bool
leads laid kid index = if is_led_by_its_base laid then nat_eq index 0 else not kid.space_like

-- the form of a child that is an operator with this core: that of its attribute, else its parent's
-- where it leads to the parent's core, else that of its place
abbrev pub form_of_core : Seen → Kid → Core → ℕ → Form → Form
form_of_core parent kid core index own =
    unwrap_or core.form
    (if is_some parent.facts.core && leads parent.facts.laid kid.facts index then own
    else form_by_place parent.facts.laid parent.kids index)

-- the form of a child in flow, where the parent's own is given: infix where it is no operator
abbrev pub form_of_kid : Seen → Kid → ℕ → Form → Form
form_of_kid parent kid index own =
    option_map_or (λ core. form_of_core parent kid core index own) kid.facts.core Infix

unfoldable pub form_at : Seen → ℕ → Form → Form
form_at parent index own =
    option_map_or (λ kid. form_of_kid parent kid index own) (slice_get parent.kids index) Infix

-- ---- properties

-- those of the dictionary; attributes of the core come first
unfoldable pub properties_at : Core → Form → List OperatorLine → Properties
properties_at core form lines =
    let listed = properties_of (category_of core.text form (is_some core.form) lines) in
    record {
      lspace = listed.lspace;
      rspace = listed.rspace;
      stretchy = unwrap_or core.stretchy listed.stretchy;
      symmetric = unwrap_or core.symmetric listed.symmetric;
      largeop = unwrap_or core.largeop listed.largeop;
      movablelimits = unwrap_or core.movablelimits listed.movablelimits;
    }

-- ---- stretching

-- the axis along which an operator with this core stretches, where it does
abbrev pub core_axis : Form → List OperatorLine → Core → Option Axis
core_axis form lines core =
    if (properties_at core form lines).stretchy then Some (axis_of core.text lines) else None

-- the axis along which an element with these facts stretches in a form
unfoldable pub stretch_axis : Facts → Form → List OperatorLine → Option Axis
stretch_axis facts form lines = option_and_then (core_axis form lines) facts.core

-- an element stretches along an axis: it is embellished, its core's `stretchy` is true in its form,
-- and the axis is that of its core's text
pub record StretchesAlong (facts : Facts) (form : Form) (lines : List OperatorLine) (axis : Axis) :
    Type 0 where
  pub core : Core
  pub embellished : facts.core ≡ Some core
  pub stretchy : (properties_at core form lines).stretchy ≡ true
  pub along : axis_of core.text lines ≡ axis
