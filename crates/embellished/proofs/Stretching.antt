-- The axis along which an element stretches.
use Rattle.std.proofs.Common.{◌≡◌, ◌∙◌, refl, ap, Bool, true, false, cond, List, Option, Some, None}
use Rattle.std.proofs.lemmas.Option.{none-some, same_Some}
use Rattle.std.specs.Option.{option_and_then}
use Rattle.op_dictionary.specs.Dictionary.{axis_of}
use Rattle.op_dictionary.specs.declared.extra.OperatorLine.{OperatorLine}
use Rattle.op_dictionary.specs.declared.operator.Axis.{Axis}
use Rattle.op_dictionary.specs.declared.operator.Form.{Form}
use Rattle.embellished.specs.Forms.{StretchesAlong, core_axis, properties_at, stretch_axis}
use Rattle.embellished.specs.declared.facts.Core.{Core}
use Rattle.embellished.specs.declared.facts.Facts.{Facts}

module _ (facts : Facts) (form : Form) (lines : List OperatorLine) (axis : Axis) where
  by_test : (core : Core) (stretchy : Bool) → facts.core ≡ Some core → (properties_at core form lines).stretchy ≡ stretchy
      → cond stretchy (Some (axis_of core.text lines)) None ≡ Some axis → StretchesAlong facts form lines axis
  by_test core true is s e = record { core = core; embellished = is; stretchy = s; along = same_Some (axis_of core.text lines) axis e }
  by_test core false is s e = absurd (none-some axis e)

  by_core : (core : Option Core) → facts.core ≡ core → option_and_then (core_axis form lines) core ≡ Some axis → StretchesAlong facts form lines axis
  by_core None is e = absurd (none-some axis e)
  by_core (Some core) is e = by_test core (properties_at core form lines).stretchy is refl e

  from : StretchesAlong facts form lines axis → option_and_then (core_axis form lines) facts.core ≡ Some axis
  from along =
      ap (option_and_then (core_axis form lines)) along.embellished
      ∙ ap (λ b. cond b (Some (axis_of along.core.text lines)) None) along.stretchy ∙ ap Some along.along

  pub stretches : (stretch_axis facts form lines ≡ Some axis → StretchesAlong facts form lines axis)
      × (StretchesAlong facts form lines axis → stretch_axis facts form lines ≡ Some axis)
  unfolding stretch_axis
  stretches = (by_core facts.core refl, from)
