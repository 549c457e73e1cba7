-- How often an assembly repeats its extenders, and how far its pieces overlap: the least count and
-- the greatest overlap with which it reaches a target.
use Rattle.std.specs.Prelude.{ℕ, zero, suc, ◌+◌, ◌-◌, ◌*◌, ◌<◌, ◌≤◌, ◌^◌, ℤ, pos, ◌-ℤ◌, ◌≤ℤ◌, int_le, Bool, ◌&&◌, nat_lt, nat_le, if◌then◌else◌, Option, Some, None, unsigned_abs}
use Rattle.glyph_assembly.specs.declared.sums.Sums.{Sums}

-- how many pieces stand in a row where each extender is repeated so often
abbrev pub pieces : Sums → ℕ → ℕ
pieces sums count = sums.fixed_count + count * sums.extender_count

-- how long they are, where each overlaps the one before it so far
unfoldable pub length_of : Sums → ℕ → ℕ → ℤ
length_of sums count overlap =
    pos (sums.fixed_length + count * sums.extender_length)
    -ℤ pos (overlap * (pieces sums count - 1))

-- an assembly is valid where it has extenders, and is longer with one more of each
abbrev pub grows : Sums → Bool
grows sums =
    nat_lt 0 sums.extender_count && nat_lt (sums.overlap * sums.extender_count) sums.extender_length

pub record Grows (sums : Sums) : Type 0 where
  pub some : 0 < sums.extender_count
  pub longer : sums.overlap * sums.extender_count < sums.extender_length

-- ---- the least count

-- so many repeats make a piece at all and, overlapping no more than they must, reach the target
pub record IsEnough (sums : Sums) (target : ℤ) (count : ℕ) : Type 0 where
  pub some : 1 ≤ pieces sums count
  pub reaches : target ≤ℤ length_of sums count sums.overlap

pub record IsLeastCount (sums : Sums) (target : ℤ) (count : ℕ) : Type 0 where
  pub enough : IsEnough sums target count
  pub least : (other : ℕ) → IsEnough sums target other → count ≤ other

abbrev pub is_enough : Sums → ℤ → ℕ → Bool
is_enough sums target count =
    nat_le 1 (pieces sums count) && int_le target (length_of sums count sums.overlap)

-- the first of the n numbers from k on that passes, else the one behind them
unfoldable pub first_from : ℕ → ℕ → (ℕ → Bool) → ℕ
first_from zero k passes = k
first_from (suc n) k passes = if passes k then k else first_from n (suc k) passes

-- each repeat adds one unit at least, so that so many always suffice
abbrev pub enough_repeats : Sums → ℤ → ℕ
enough_repeats sums target = unsigned_abs target + sums.overlap * sums.fixed_count + 1

-- the first count that is enough
unfoldable pub least_count : Sums → ℤ → ℕ
least_count sums target = first_from (enough_repeats sums target) 0 (is_enough sums target)

-- ---- the greatest overlap

-- from the least overlap to the widest that the connectors allow, none above it reaches the target
pub record IsGreatestOverlap (sums : Sums) (target : ℤ) (count widest overlap : ℕ) : Type 0 where
  pub low : sums.overlap ≤ overlap
  pub high : overlap ≤ widest
  pub reaches : target ≤ℤ length_of sums count overlap
  pub greatest : (other : ℕ) → other ≤ widest → target ≤ℤ length_of sums count other
      → other ≤ overlap

-- the first overlap that reaches the target, from the widest one down; the least overlap where
-- there is no joint, or the connectors allow less than it
unfoldable pub greatest_overlap : Sums → ℤ → ℕ → Option ℕ → ℕ
greatest_overlap sums target count None = sums.overlap
greatest_overlap sums target count (Some widest) =
    if nat_lt widest sums.overlap then sums.overlap
    else widest - first_from (widest - sums.overlap) 0
    (λ less. int_le target (length_of sums count (widest - less)))

-- ---- how large the numbers of a font at a size are

pub record IsSmall (sums : Sums) : Type 0 where
  pub fixed_length : sums.fixed_length ≤ 2 ^ 36
  pub fixed_count : sums.fixed_count ≤ 16
  pub extender_length : sums.extender_length ≤ 2 ^ 36
  pub extender_count : sums.extender_count ≤ 16
  pub overlap : sums.overlap ≤ 2 ^ 32
