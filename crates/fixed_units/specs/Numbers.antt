-- Whole numbers without bound: how ratios are rounded, how numbers are halved, how far they reach.
use Rattle.std.specs.Prelude.{ℕ, ℤ, pos, neg_ℤ, ◌+ℤ◌, ◌-ℤ◌, ◌*ℤ◌, ◌≤ℤ◌, ◌<ℤ◌}
use Rattle.std.specs.Int.{int_div_euclid}

-- n is the whole number nearest to a / b, and of two such numbers the larger one
pub record IsRound (a b n : ℤ) : Type 0 where
  pub low : (pos 2 *ℤ a -ℤ b) <ℤ (pos 2 *ℤ b *ℤ n)
  pub high : (pos 2 *ℤ b *ℤ n) ≤ℤ (pos 2 *ℤ a +ℤ b)

-- h is half of n, rounded down
pub record IsHalf (n h : ℤ) : Type 0 where
  pub low : (pos 2 *ℤ h) ≤ℤ n
  pub high : n ≤ℤ (pos 2 *ℤ h +ℤ pos 1)

-- that nearest number, for a positive b: a / b and one half more, rounded down
unfoldable pub rounded : ℤ → ℤ → ℤ
rounded a b = int_div_euclid (pos 2 *ℤ a +ℤ b) (pos 2 *ℤ b)

-- that half
unfoldable pub halved : ℤ → ℤ
halved n = int_div_euclid n (pos 2)

-- z lies from -m to m
pub record IsWithin (m : ℕ) (z : ℤ) : Type 0 where
  pub low : neg_ℤ (pos m) ≤ℤ z
  pub high : z ≤ℤ pos m
