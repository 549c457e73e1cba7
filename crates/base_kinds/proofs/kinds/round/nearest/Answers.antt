use Rattle.std.proofs.lemmas.Int.{to_z-of_z}
use Rattle.fixed_units.proofs.Within.{rounded_in}
use Rattle.base_kinds.proofs.kinds.round.nearest.Goals as goal

pub round-requires-clause-result_in : goal.round-requires-clause-result_in
round-requires-clause-result_in c =
    let num_fits = c.ranges.num in
    let den_fits = c.ranges.den in
    simp to_z-of_z (rounded_in c.args.den c.requires.positive c.requires.num_in)
