use Rattle.std.proofs.Common.{arith, lit<}
use Rattle.std.proofs.lemmas.Int.{to_z-of_z}
use Rattle.fixed_units.proofs.Within.{natural_in, sum_in, product_in, fits_i64}
use Rattle.math_tables.specs.Cells.{cell_of}
use Rattle.math_tables.proofs.cells.cell.Goals as goal

pub returns : goal.returns
unfolding cell_of
returns c =
    let row = c.requires.row_in in
    let rise = c.cell_rise-rise.ensures.within in
    let ends = product_in (natural_in 2) c.cell_start.ensures.within in
    let f = fits_i64 ends (lit< tt) in
    let g = fits_i64 (sum_in row.width ends) (lit< tt) in
    let h = fits_i64 (sum_in row.ascent rise) (lit< tt) in
    let i = fits_i64 (sum_in row.descent rise) (lit< tt) in
    grind (arith, to_z-of_z)
