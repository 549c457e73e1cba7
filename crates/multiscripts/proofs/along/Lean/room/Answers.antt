use Rattle.std.proofs.Common.{◌^◌, arith, lit<, sym, subst}
use Rattle.std.proofs.lemmas.Int.{to_z-of_z}
use Rattle.fixed_units.specs.Numbers.{IsWithin}
use Rattle.fixed_units.proofs.Within.{sum_in, max_in, fits_i64}
use Rattle.multiscripts.specs.Along.{room_of}
use Rattle.multiscripts.proofs.Pairs.{room_in}
use Rattle.multiscripts.proofs.along.Lean.room.Goals as goal

pub returns-clause-value : goal.returns-clause-value
unfolding room_of
returns-clause-value c =
    let sub = sum_in c.sub_start.ensures.within c.requires.fits.sub.width in
    let sup = sum_in c.sup_start.ensures.within c.requires.fits.sup.width in
    let f = fits_i64 sub (lit< tt) in
    let g = fits_i64 sup (lit< tt) in
    let h = fits_i64 (max_in sub sup) (lit< tt) in
    let i = fits_i64 c.sub_start.ensures.within (lit< tt) in
    let j = fits_i64 c.sup_start.ensures.within (lit< tt) in
    grind (arith, to_z-of_z)

pub returns-clause-within : goal.returns-clause-within
returns-clause-within c =
    subst (IsWithin (2 ^ 32)) (sym (returns-clause-value c)) (room_in _ _ c.requires.lean_in c.requires.fits)
