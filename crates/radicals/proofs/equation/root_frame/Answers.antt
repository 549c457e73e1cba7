use Rattle.std.proofs.Common.{arith, lit<, subst, sym}
use Rattle.std.proofs.lemmas.Int.{to_z-of_z}
use Rattle.fixed_units.proofs.Within.{sum_in, difference_in, half_in, fits_i64}
use Rattle.radicals.specs.Equation.{IsRootBox, root_frame_of}
use Rattle.radicals.proofs.Bounds.{top_in, root_frame_in}
use Rattle.radicals.proofs.equation.root_frame.Goals as goal

pub returns-clause-value : goal.returns-clause-value
unfolding root_frame_of
returns-clause-value c =
    let surd = c.requires.surd_in in
    let base = c.requires.base_in in
    let top = top_in c.args.font.now c.args.base.now c.requires.font_in base in
    let ink = sum_in surd.ink_ascent surd.ink_descent in
    let f1 = fits_i64 ink (lit< tt) in
    let f2 = fits_i64 (difference_in ink top) (lit< tt) in
    let f3 = fits_i64 (sum_in surd.width base.width) (lit< tt) in
    let f4 = fits_i64 (sum_in top c.requires.font_in.extra) (lit< tt) in
    let f5 = fits_i64 (half_in (sum_in surd.width base.width)) (lit< tt) in
    let f6 = fits_i64 top (lit< tt) in
    grind (arith, to_z-of_z)

pub returns-clause-within : goal.returns-clause-within
returns-clause-within c =
    subst IsRootBox (sym (returns-clause-value c)) (root_frame_in _ _ _ c.requires.font_in c.requires.base_in c.requires.surd_in)
