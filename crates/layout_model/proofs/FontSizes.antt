-- Which font sizes are in range.
use Rattle.std.proofs.Common.{◌≡◌, ◌∙◌, refl, ap, subst, ℤ, pos, ◌^◌, Bool, true, false, ◌&&◌, arith, Option, Some, None, cond}
use Rattle.std.proofs.lemmas.Bool.{and_parts}
use Rattle.std.specs.Prelude.{IfSome, int_le, is_some}
use borrow.Author.Differences.{le-false}
use Rattle.fixed_units.proofs.Signed.{signed}
use Rattle.style_scope.specs.Sizes.{IsSize, font_size_of, in_range_of, size_of}
use Rattle.style_scope.specs.declared.style.Style.{Style}
use Rattle.font_metrics.specs.Metrics.{MetricsValue}
use Rattle.layout_model.specs.Range.{is_font_size}

pub font_size_in : (size : ℤ) → is_font_size size ≡ true → IsSize size
font_size_in size e =
    let parts = and_parts (int_le (pos 0) size) (int_le size (pos (2 ^ 20))) e in
    record { low = omega (arith, signed, parts.0); high = omega (arith, signed, parts.1) }

-- a size that is never negative is in range where there is one
pub font_size_tested : (size : ℤ) → IfSome (in_range_of size) IsSize → is_some (in_range_of size) ≡ is_font_size size
unfolding in_range_of
font_size_tested size h = by (int_le (pos 0) size) (int_le size (pos (2 ^ 20))) refl h
  where
    by : (low high : Bool) → int_le (pos 0) size ≡ low → IfSome (cond high (Some size) None) IsSize → is_some (cond high (Some size) None) ≡ (low && high)
    by true true e g = refl
    by true false e g = refl
    by false false e g = refl
    by false true e g = absurd (omega (arith, signed, le-false (pos 0) size e, g.low))

pub font_size_found : (m : MetricsValue) (style : Style) (found : Option ℤ) → found ≡ font_size_of m style → IfSome found IsSize
    → is_some found ≡ is_font_size (size_of m style)
unfolding font_size_of
font_size_found m style found e h =
    ap (λ (f : Option ℤ). is_some f) e ∙ font_size_tested (size_of m style) (subst (λ (f : Option ℤ). IfSome f IsSize) e h)
