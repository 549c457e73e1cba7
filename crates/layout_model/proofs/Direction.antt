-- Mirroring twice is nothing.
use Rattle.std.proofs.Common.{arith}
use Rattle.fixed_units.proofs.Signed.{signed}
use Rattle.layout_model.specs.Direction.{TwiceLaw, mirrored}

pub twice : TwiceLaw
unfolding mirrored
twice whole part x = omega (arith, signed)
