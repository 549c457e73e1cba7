use Rattle.std.proofs.Common.{◌≡◌, ◌^◌, pos, ◌-ℤ◌, arith, lit<, subst, ap, IfSome}
use Rattle.std.proofs.lemmas.Int.{to_z-of_z}
use Rattle.fixed_units.proofs.Within.{natural_in, difference_in, fits_i64}
use Rattle.scripts.specs.Beside.{spot}
use Rattle.scripts.specs.Limits.{spot_in_of, IsPlacedWithin}
use Rattle.scripts.proofs.limits.spot_in.Goals as goal

pub overflow_sub-result : goal.overflow_sub-result
overflow_sub-result c =
    let part : IsPlacedWithin (2 ^ 36) c.in-Some.part = subst (λ next. IfSome next (IsPlacedWithin (2 ^ 36))) c.in-Some.is c.requires.part_in in
    let f = fits_i64 part.x (lit< tt) in
    let h = fits_i64 (difference_in part.x c.requires.start_in) (lit< tt) in
    grind (arith, to_z-of_z)

pub overflow_sub-result-in-Some : goal.overflow_sub-result-in-Some
overflow_sub-result-in-Some c =
    let part : IsPlacedWithin (2 ^ 36) c.in-Some.part = subst (λ next. IfSome next (IsPlacedWithin (2 ^ 36))) c.in-Some.is c.requires.part_in in
    let g = fits_i64 part.height (lit< tt) in
    let i = fits_i64 (difference_in (natural_in 0) part.height) (lit< tt) in
    grind (arith, to_z-of_z)

pub returns-in-Some : goal.returns-in-Some
unfolding spot_in_of
returns-in-Some c =
    let part : IsPlacedWithin (2 ^ 36) c.in-Some.part = subst (λ next. IfSome next (IsPlacedWithin (2 ^ 36))) c.in-Some.is c.requires.part_in in
    let same : spot_in_of c.args.start c.args.part ≡ spot (c.in-Some.part.x -ℤ c.args.start) (pos 0 -ℤ c.in-Some.part.height)
    = ap (spot_in_of c.args.start) c.in-Some.is in
    let f = fits_i64 part.x (lit< tt) in
    let g = fits_i64 part.height (lit< tt) in
    let h = fits_i64 (difference_in part.x c.requires.start_in) (lit< tt) in
    let i = fits_i64 (difference_in (natural_in 0) part.height) (lit< tt) in
    grind (arith, to_z-of_z)
