use Rattle.std.proofs.Common.{◌≡◌, ◌^◌, pos, ◌*ℤ◌, to_z, of_z, arith, lit<, lit≤, sym, subst}
use Rattle.std.proofs.lemmas.Int.{to_z-of_z}
use Rattle.std.specs.Int.{w128}
use Rattle.fixed_units.specs.Numbers.{IsWithin, rounded}
use Rattle.fixed_units.proofs.Signed.{signed}
use Rattle.fixed_units.proofs.Within.{rounded_in, widened, fits_i64, fits_i128}
use Rattle.math_tables.specs.Cells.{cell_start_of}
use Rattle.math_tables.proofs.Places.{double_size_in}
use Rattle.math_tables.proofs.cells.cell_start.Goals as goal
use Rattle.math_tables.proofs.cells.cell_start.Goals.{After-from}

numerator : (c : After-from) → to_z w128 (of_z w128 c.from.result) ≡ pos 2 *ℤ c.args.size
numerator c =
    let double = double_size_in c.args.size c.requires.size_low c.requires.size_high in
    let f = fits_i64 double (lit< tt) in
    let g = fits_i128 double (lit< tt) in
    grind (arith, to_z-of_z)

pub round-requires-clause-result_in : goal.round-requires-clause-result_in
round-requires-clause-result_in c =
    let double = double_size_in c.args.size c.requires.size_low c.requires.size_high in
    subst (λ num. IsWithin (2 ^ 62) (rounded num (pos 5))) (sym (numerator (goal.at.round-requires-clause-result_in c).After-from))
    (widened (2 ^ 62) (rounded_in (pos 5) (omega (arith, signed)) double) (lit≤ tt))

pub returns-clause-value : goal.returns-clause-value
unfolding cell_start_of
returns-clause-value c =
    let num = numerator (goal.at.returns-clause-value c).After-from in
    let double = double_size_in c.args.size c.requires.size_low c.requires.size_high in
    let f = fits_i64 (rounded_in (pos 5) (omega (arith, signed)) double) (lit< tt) in
    grind (arith, to_z-of_z)
