use Rattle.std.proofs.Common.{arith}
use Rattle.std.proofs.lemmas.Int.{to_z-of_z}
use Rattle.std.proofs.lemmas.Nat.{le_or_l, le_or_r}
use Rattle.layout_model.specs.Range.{offset_fits}
use Rattle.layout_model.proofs.range.bits_of.Goals as goal

pub returns : goal.returns
unfolding offset_fits
returns c = λ h.
    let x = c.raised.ensures (omega (arith, h, le_or_l c.raised.result c.raised-2.result)) in
    let y = c.raised-2.ensures (omega (arith, h, le_or_r c.raised.result c.raised-2.result)) in
    grind (arith, to_z-of_z)
