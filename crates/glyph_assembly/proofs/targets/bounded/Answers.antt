use Rattle.std.proofs.Common.{arith, lit<}
use Rattle.std.proofs.lemmas.Int.{to_z-of_z}
use Rattle.fixed_units.proofs.Within.{sum_in, fits_i64}
use Rattle.glyph_assembly.specs.Targets.{bounded}
use Rattle.glyph_assembly.proofs.targets.bounded.Goals as goal

pub overflow_add-total : goal.overflow_add-total
overflow_add-total c =
    let e = fits_i64 c.requires.ascent_in (lit< tt) in
    let f = fits_i64 c.requires.descent_in (lit< tt) in
    let g = fits_i64 (sum_in c.requires.ascent_in c.requires.descent_in) (lit< tt) in
    grind (arith, to_z-of_z)

pub returns-then-total-le0 : goal.returns-then-total-le0
unfolding bounded
returns-then-total-le0 c =
    let f = fits_i64 (sum_in c.requires.ascent_in c.requires.descent_in) (lit< tt) in
    grind (arith, to_z-of_z)

pub returns-then-total-least : goal.returns-then-total-least
unfolding bounded
returns-then-total-least c =
    let f = fits_i64 (sum_in c.requires.ascent_in c.requires.descent_in) (lit< tt) in
    grind (arith, to_z-of_z)

pub returns-in-Some : goal.returns-in-Some
unfolding bounded
returns-in-Some c =
    let f = fits_i64 (sum_in c.requires.ascent_in c.requires.descent_in) (lit< tt) in
    grind (arith, to_z-of_z)

pub returns-in_default : goal.returns-in_default
unfolding bounded
returns-in_default c =
    let f = fits_i64 (sum_in c.requires.ascent_in c.requires.descent_in) (lit< tt) in
    grind (arith, to_z-of_z)

pub returns-in_default-2 : goal.returns-in_default-2
unfolding bounded
returns-in_default-2 c =
    let f = fits_i64 (sum_in c.requires.ascent_in c.requires.descent_in) (lit< tt) in
    grind (arith, to_z-of_z)
