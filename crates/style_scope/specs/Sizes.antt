-- Font sizes, from a base size and two depths.
--
-- The scale of a depth is what CSS calls the scale factor of `math-depth`, with the font's own two
-- percents for the first two levels. Own choice: each level below the second is 71 hundredths of
-- the one above it.
use Rattle.std.specs.Prelude.{◌≡◌, ℕ, zero, suc, ◌-◌, ◌*◌, ◌^◌, ◌≤◌, ℤ, pos, ◌*ℤ◌, ◌≤ℤ◌, int_le, if◌then◌else◌, Option, Some, None}
use Rattle.css_lengths.specs.Lengths.{ratio}
use Rattle.fixed_units.specs.Numbers.{IsWithin, rounded}
use Rattle.fixed_units.specs.declared.numbers.Ratio.{Ratio}
use Rattle.font_metrics.specs.Metrics.{MetricsValue, percent_of}
use Rattle.font_metrics.specs.declared.constants.ConstName.TheVariants.{ScriptPercentScaleDown, ScriptScriptPercentScaleDown}
use Rattle.style_scope.specs.declared.style.Style.{Style}

-- what styles keep: a base size that isn't negative, and depths of at most 15
pub record IsStyle (style : Style) : Type 0 where
  pub base_low : pos 0 ≤ℤ style.base
  pub base_high : style.base ≤ℤ pos (2 ^ 62)
  pub base_depth : style.base_depth ≤ 15
  pub depth : style.depth ≤ 15

-- the percent of the first two levels, and of all below them
abbrev pub percent_at : MetricsValue → ℕ → ℤ
percent_at m zero = pos 100
percent_at m (suc zero) = percent_of m ScriptPercentScaleDown
percent_at m (suc (suc depth)) = percent_of m ScriptScriptPercentScaleDown

-- a percent, so many levels of 71 hundredths further down
abbrev pub scale_from : ℤ → ℕ → Ratio
scale_from percent levels = ratio (percent *ℤ pos (71 ^ levels)) (pos (100 * 100 ^ levels))

-- how large a font is at a depth, where it is 1 at depth 0
abbrev pub scale_at : MetricsValue → ℕ → Ratio
scale_at m depth = scale_from (percent_at m depth) (depth - 2)

-- the font size: the base size at the style's depth, where it is given at the base depth
unfoldable pub size_of : MetricsValue → Style → ℤ
size_of m style =
    let at = scale_at m style.depth in
    let given = scale_at m style.base_depth in
    rounded (style.base *ℤ (at.num *ℤ given.den)) (at.den *ℤ given.num)

-- a font size in units: up to 1024 px
pub record IsSize (size : ℤ) : Type 0 where
  pub low : pos 0 ≤ℤ size
  pub high : size ≤ℤ pos (2 ^ 20)

unfoldable pub in_range_of : ℤ → Option ℤ
in_range_of size = if int_le size (pos (2 ^ 20)) then Some size else None

unfoldable pub font_size_of : MetricsValue → Style → Option ℤ
font_size_of m style = in_range_of (size_of m style)

-- ---- how the code computes it

-- a percent of the first levels
pub record IsPercent (percent : ℤ) : Type 0 where
  pub low : pos 1 ≤ℤ percent
  pub high : percent ≤ℤ pos 200

-- the quotient of two scales, in small positive numbers
pub record IsScale (at given scale : Ratio) : Type 0 where
  pub same : (scale.num *ℤ (at.den *ℤ given.num)) ≡ ((at.num *ℤ given.den) *ℤ scale.den)
  pub given_low : pos 1 ≤ℤ (at.den *ℤ given.num)
  pub num_low : pos 1 ≤ℤ scale.num
  pub num_in : IsWithin (2 ^ 95) scale.num
  pub den_low : pos 1 ≤ℤ scale.den
  pub den_in : IsWithin (2 ^ 95) scale.den
