-- A number of a glyph at a font size.
use Rattle.std.proofs.Common.{subst, sym, lit<, ◌^◌, ℤ, w64, to_z, of_z}
use Rattle.fixed_units.specs.Numbers.{IsWithin}
use Rattle.font_metrics.proofs.Scaling.{back64, within64}

-- one within 2^16 design units lies within 2^32 units at every size
pub scaled_within : (value scaled : ℤ) → IsWithin (2 ^ 16) value → (IsWithin (2 ^ 16) (to_z w64 (of_z w64 value)) → IsWithin (2 ^ 32) scaled)
    → IsWithin (2 ^ 32) (to_z w64 (of_z w64 scaled))
scaled_within value scaled within narrow =
    within64 (narrow (subst (IsWithin (2 ^ 16)) (sym (back64 within (lit< tt))) within)) (lit< tt)
