use Rattle.std.proofs.Common.{◌≡◌, ◌^◌, ◌+ℤ◌, arith, lit<, sym, subst, ap, IfSome}
use Rattle.std.proofs.lemmas.Int.{to_z-of_z}
use Rattle.std.specs.Int.{int_max, int_min}
use Rattle.fixed_units.specs.Boxes.{joined}
use Rattle.fixed_units.proofs.Within.{sum_in, min_in, max_in, fits_i64}
use Rattle.scripts.specs.Limits.{attached_of, IsPlacedWithin, IsExtentWithin}
use Rattle.scripts.proofs.LimitBounds.{attached_in}
use Rattle.scripts.proofs.limits.attached.Goals as goal

pub overflow_add-part : goal.overflow_add-part
overflow_add-part c =
    let part : IsPlacedWithin (2 ^ 36) c.in-Some.part = subst (λ next. IfSome next (IsPlacedWithin (2 ^ 36))) c.in-Some.is c.requires.part_in in
    let f = fits_i64 part.x (lit< tt) in
    let g = fits_i64 part.width (lit< tt) in
    let h = fits_i64 (sum_in part.x part.width) (lit< tt) in
    grind (arith, to_z-of_z)

pub returns-in-Some-clause-value : goal.returns-in-Some-clause-value
unfolding attached_of
returns-in-Some-clause-value c =
    let part : IsPlacedWithin (2 ^ 36) c.in-Some.part = subst (λ next. IfSome next (IsPlacedWithin (2 ^ 36))) c.in-Some.is c.requires.part_in in
    let same : attached_of c.args.extent c.args.part ≡ record {
      start = int_min c.args.extent.start c.in-Some.part.x;
      end = int_max c.args.extent.end (c.in-Some.part.x +ℤ c.in-Some.part.frame.width);
      union = joined c.args.extent.union c.in-Some.part.frame;
    } = ap (attached_of c.args.extent) c.in-Some.is in
    let end = sum_in part.x part.width in
    let f = fits_i64 part.x (lit< tt) in
    let g = fits_i64 part.width (lit< tt) in
    let h = fits_i64 end (lit< tt) in
    let i = fits_i64 c.requires.extent_in.start (lit< tt) in
    let j = fits_i64 c.requires.extent_in.end (lit< tt) in
    let k = fits_i64 (min_in c.requires.extent_in.start part.x) (lit< tt) in
    let l = fits_i64 (max_in c.requires.extent_in.end end) (lit< tt) in
    grind (arith, to_z-of_z)

pub returns-in-Some-clause-within : goal.returns-in-Some-clause-within
returns-in-Some-clause-within c =
    subst (IsExtentWithin (2 ^ 37)) (sym (returns-in-Some-clause-value c))
    (attached_in _ _ c.requires.extent_in c.requires.part_in)
