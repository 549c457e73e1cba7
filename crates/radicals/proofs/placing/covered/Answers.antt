use Rattle.std.proofs.Common.{arith, lit<}
use Rattle.std.proofs.lemmas.Int.{to_z-of_z}
use Rattle.fixed_units.proofs.Within.{natural_in, sum_in, difference_in, fits_i64}
use Rattle.radicals.specs.Placing.{covered_of}
use Rattle.radicals.proofs.Bounds.{top_in}
use Rattle.radicals.proofs.placing.covered.Goals as goal

pub returns-clause-value : goal.returns-clause-value
unfolding covered_of
returns-clause-value c =
    let top = top_in c.args.font.now c.args.base.now c.requires.font_in c.requires.base_in in
    let surd = c.requires.surd_in in
    let f1 = fits_i64 top (lit< tt) in
    let f2 = fits_i64 (difference_in surd.ink_ascent top) (lit< tt) in
    let f3 = fits_i64 (sum_in c.requires.start_in surd.width) (lit< tt) in
    let f4 = fits_i64 (difference_in (natural_in 0) top) (lit< tt) in
    grind (arith, to_z-of_z)
