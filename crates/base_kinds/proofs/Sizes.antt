-- Which font sizes are in range.
use Rattle.std.proofs.Common.{◌≡◌, refl, sym, ℤ, pos, ◌^◌, ◌≤ℤ◌, Bool, true, false, arith, Some, None, cond}
use Rattle.std.specs.Prelude.{int_le}
use Rattle.std.proofs.lemmas.Option.{none-some}
use Rattle.fixed_units.proofs.Signed.{signed}
use Rattle.style_scope.specs.Sizes.{font_size_of, in_range_of, size_of}
use Rattle.style_scope.specs.declared.style.Style.{Style}
use Rattle.font_metrics.specs.Metrics.{MetricsValue}

found_small : (size found : ℤ) → Some found ≡ in_range_of size → size ≤ℤ pos (2 ^ 20)
unfolding in_range_of
found_small size found e = by (int_le size (pos (2 ^ 20))) refl e
  where
    by : (small : Bool) → int_le size (pos (2 ^ 20)) ≡ small → Some found ≡ cond small (Some size) None → size ≤ℤ pos (2 ^ 20)
    by true t e = omega (arith, signed, t)
    by false t e = absurd (none-some found (sym e))

-- a font size that is found is at most the largest
pub small_if_found : (m : MetricsValue) (style : Style) (found : ℤ) → Some found ≡ font_size_of m style → size_of m style ≤ℤ pos (2 ^ 20)
unfolding font_size_of
small_if_found m style found e = found_small (size_of m style) found e
