use Rattle.std.proofs.Common.{◌^◌, arith, lit<, lit≤}
use Rattle.std.proofs.lemmas.Int.{to_z-of_z}
use Rattle.fixed_units.proofs.Within.{widened, sum_in, fits_i64}
use Rattle.scripts.specs.Beside.{sup_x_of}
use Rattle.scripts.proofs.beside.sup_x.Goals as goal

pub overflow_add-result : goal.overflow_add-result
overflow_add-result c =
    let f = fits_i64 c.requires.width (lit< tt) in
    let g = fits_i64 c.requires.italic (lit< tt) in
    let h = fits_i64 (sum_in c.requires.width c.requires.italic) (lit< tt) in
    grind (arith, to_z-of_z)

pub returns-then-large-clause-value : goal.returns-then-large-clause-value
unfolding sup_x_of
returns-then-large-clause-value c = let f = fits_i64 c.requires.width (lit< tt) in grind (arith, to_z-of_z)

pub returns-then-large-clause-within : goal.returns-then-large-clause-within
returns-then-large-clause-within c =
    let f = fits_i64 c.requires.width (lit< tt) in
    let w = widened (2 ^ 31) c.requires.width (lit≤ tt) in
    grind (arith, to_z-of_z)

pub returns-else-large-clause-value : goal.returns-else-large-clause-value
unfolding sup_x_of
returns-else-large-clause-value c =
    let f = fits_i64 c.requires.width (lit< tt) in
    let g = fits_i64 c.requires.italic (lit< tt) in
    let h = fits_i64 (sum_in c.requires.width c.requires.italic) (lit< tt) in
    grind (arith, to_z-of_z)

pub returns-else-large-clause-within : goal.returns-else-large-clause-within
returns-else-large-clause-within c =
    let f = fits_i64 c.requires.width (lit< tt) in
    let g = fits_i64 c.requires.italic (lit< tt) in
    let h = fits_i64 (sum_in c.requires.width c.requires.italic) (lit< tt) in
    let w = widened (2 ^ 31) (sum_in c.requires.width c.requires.italic) (lit≤ tt) in
    grind (arith, to_z-of_z)
