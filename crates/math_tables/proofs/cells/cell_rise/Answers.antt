use Rattle.std.proofs.Common.{◌≡◌, ◌^◌, pos, to_z, of_z, arith, lit<, lit≤, sym, subst}
use Rattle.std.proofs.lemmas.Int.{to_z-of_z}
use Rattle.std.specs.Int.{w128}
use Rattle.fixed_units.specs.Numbers.{IsWithin, rounded}
use Rattle.fixed_units.proofs.Signed.{signed}
use Rattle.fixed_units.proofs.Within.{rounded_in, widened, fits_i64, fits_i128}
use Rattle.math_tables.specs.Cells.{cell_rise_of}
use Rattle.math_tables.proofs.cells.cell_rise.Goals as goal
use Rattle.math_tables.proofs.cells.cell_rise.Goals.{After-from}

numerator : (c : After-from) → to_z w128 (of_z w128 c.from.result) ≡ c.args.ex
numerator c = let f = fits_i128 c.requires.ex_in (lit< tt) in grind (arith, to_z-of_z)

pub round-requires-clause-result_in : goal.round-requires-clause-result_in
round-requires-clause-result_in c =
    subst (λ num. IsWithin (2 ^ 62) (rounded num (pos 2))) (sym (numerator (goal.at.round-requires-clause-result_in c).After-from))
    (widened (2 ^ 62) (rounded_in (pos 2) (omega (arith, signed)) c.requires.ex_in) (lit≤ tt))

pub returns-clause-value : goal.returns-clause-value
unfolding cell_rise_of
returns-clause-value c =
    let num = numerator (goal.at.returns-clause-value c).After-from in
    let f = fits_i64 (rounded_in (pos 2) (omega (arith, signed)) c.requires.ex_in) (lit< tt) in
    grind (arith, to_z-of_z)
