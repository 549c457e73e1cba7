-- Numbers whose bits tell that they can be stored.
use Rattle.std.proofs.Common.{◌≡◌, refl, ◌+◌, ◌^◌, ◌%◌, ◌<◌, ◌≤◌, arith, ℤ, pos, negsuc, neg_ℤ, Bool, true, false, w64, of_z, FitsSigned}
use Rattle.std.proofs.lemmas.Bool.{and_from}
use Rattle.std.specs.Prelude.{int_le}
use borrow.Author.Differences.{up, down, le-false}
use Rattle.fixed_units.specs.Boxes.{farthest, is_stored}
use Rattle.fixed_units.proofs.Signed.{signed}

at_most : (a b : ℤ) → up a + down b ≤ up b + down a → int_le a b ≡ true
at_most a b h = by (int_le a b) refl
  where
    by : (t : Bool) → int_le a b ≡ t → t ≡ true
    by true e = refl
    by false e = absurd (omega (arith, le-false a b e))

-- raised by 2^30, it has no bit above the lowest 31
pub raised_stored : (z : ℤ) → FitsSigned w64 z → (of_z w64 z + 2 ^ 30) % 2 ^ 64 < 2 ^ 31 → is_stored z ≡ true
unfolding is_stored
raised_stored (pos n) f h =
    and_from _ _ (at_most (neg_ℤ (pos farthest)) (pos n) (omega (arith, signed)))
    (at_most (pos n) (pos farthest) (omega (arith, signed, f, h)))
raised_stored (negsuc n) f h =
    and_from _ _ (at_most (neg_ℤ (pos farthest)) (negsuc n) (omega (arith, signed, f, h)))
    (at_most (negsuc n) (pos farthest) (omega (arith, signed)))
