use Rattle.std.proofs.Common.{◌∙◌, ℕ, ℤ, ◌+◌, ◌^◌, ◌%◌, ◌<◌, ap, subst, w64, of_z}
use Rattle.std.proofs.lemmas.Int.{to_z-of_z}
use Rattle.layout_model.proofs.Raised.{raised_stored}
use Rattle.layout_model.proofs.range.raised.Goals as goal

pub returns : goal.returns
returns c = λ h.
    let number = c.args.number in
    let bits = c.cast_unsigned.ensures ∙ ap (λ (z : ℤ). of_z w64 z) (to_z-of_z w64 number c.ranges.number) in
    raised_stored number c.ranges.number (subst (λ (n : ℕ). (n + 2 ^ 30) % 2 ^ 64 < 2 ^ 31) bits h)
