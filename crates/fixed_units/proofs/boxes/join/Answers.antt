use Rattle.std.proofs.Common.{arith}
use Rattle.std.proofs.lemmas.Int.{to_z-of_z}
use Rattle.fixed_units.specs.Boxes.{joined}
use Rattle.fixed_units.proofs.boxes.join.Goals as goal

pub returns : goal.returns
unfolding joined
returns c = grind (arith, to_z-of_z)
