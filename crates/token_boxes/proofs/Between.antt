-- A largest size lies between the least one and the largest of all.
use Rattle.std.proofs.Common.{ℤ, ◌≤ℤ◌, arith}
use Rattle.std.specs.Int.{int_max, int_min}
use Rattle.fixed_units.proofs.Signed.{signed}
use Rattle.token_boxes.specs.Operator.{largest_size}

pub between : (most least : ℤ) → least ≤ℤ largest_size
    → (least ≤ℤ int_min (int_max most least) largest_size) × (int_min (int_max most least) largest_size ≤ℤ largest_size)
between most least h = (omega (arith, signed, h), omega (arith, signed, h))
