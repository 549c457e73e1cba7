use Rattle.std.proofs.Common.{arith, lit<}
use Rattle.std.proofs.lemmas.Int.{to_z-of_z}
use Rattle.fixed_units.proofs.Within.{fits_i64}
use Rattle.scripts.specs.Shifts.{pair_shifts_of}
use Rattle.scripts.proofs.shifts.pair_shifts.Goals as goal

pub returns-clause-value : goal.returns-clause-value
unfolding pair_shifts_of
returns-clause-value c =
    let f = fits_i64 c.sub_shift-down.ensures.within (lit< tt) in
    let g = fits_i64 c.sup_shift-up.ensures.within (lit< tt) in
    grind (arith, to_z-of_z)
