use Rattle.std.proofs.Common.{arith, lit<}
use Rattle.std.proofs.lemmas.Int.{to_z-of_z}
use Rattle.fixed_units.proofs.Within.{natural_in, sum_in, difference_in, half_in, fits_i64}
use Rattle.radicals.specs.Placing.{with_index_of}
use Rattle.radicals.proofs.Bounds.{index_height_in}
use Rattle.radicals.proofs.placing.with_index.Goals as goal

pub returns : goal.returns
unfolding with_index_of
returns c =
    let height = index_height_in c.args.font.now c.args.root.frame c.args.index.now c.requires.font_in c.requires.root_in c.requires.index_fits in
    let width = sum_in c.requires.start_in c.requires.root_in.width in
    let f1 = fits_i64 height (lit< tt) in
    let f2 = fits_i64 (difference_in (natural_in 0) height) (lit< tt) in
    let f3 = fits_i64 width (lit< tt) in
    let f4 = fits_i64 (half_in width) (lit< tt) in
    grind (arith, to_z-of_z)
