-- Worked look-ups: what metrics answer at a font size, computed.
use Rattle.std.proofs.Common.{◌≡◌, refl, ℕ, ℤ, pos, negsuc, List, [], ◌∷◌, codes, None}
use Rattle.fixed_units.specs.Numbers.{rounded}
use Rattle.font_metrics.specs.Metrics.{MetricsValue, NamedGlyph, missing_place, place_of_letter, glyph_at, name_at, variants_of, scale_of, constant_of, percent_of, overlap_of, line_ascent_of, ex_of}
use Rattle.font_metrics.specs.Tables.{no_tables}
use Rattle.font_metrics.specs.declared.constants.ConstName.TheVariants.{ScriptPercentScaleDown, ScriptScriptPercentScaleDown, RadicalDegreeBottomRaisePercent, MathLeading, AxisHeight, RadicalKernAfterDegree}
use Rattle.font_metrics.specs.declared.growth.Variant.{Variant}
use Rattle.op_dictionary.specs.declared.operator.Axis.TheVariants.{Block, Inline}
use Rattle.metrics_file.proofs.Worked.{bare}

abbrev named : List ℕ → ℤ → NamedGlyph
named name advance = record {
  name = name;
  glyph = record { advance = advance; ink_ascent = pos 680; ink_descent = pos 0; italic = pos 0; accent = None };
}

abbrev measured : ℕ → ℤ → Variant
measured glyph measure = record { glyph = record { 0 = glyph }; measure = measure }

-- two glyphs, of which the second shows `1` and has two larger ones; the first percent is 0
abbrev small : MetricsValue
small = record bare {
  constants = (0, pos 0) ∷ (5, pos 256) ∷ (54, negsuc 599) ∷ [];
  glyphs = named (codes "missing") (pos 500) ∷ named (codes "one") (pos 512) ∷ [];
  characters = (0x31, 1) ∷ [];
  tables = record no_tables { variants = ((1, measured 0 (pos 9) ∷ measured 1 (pos 3) ∷ []) ∷ [], []) };
}

-- ---- lengths

line-at-16_px : line_ascent_of small (pos 16384) ≡ pos 14400
unfolding scale_of rounded
line-at-16_px = refl

ex-at-16_px : ex_of small (pos 16384) ≡ pos 8192
unfolding scale_of rounded
ex-at-16_px = refl

-- half a unit goes to the larger number
half-up : scale_of small (pos 1) (pos 512) ≡ pos 1
unfolding scale_of rounded
half-up = refl

half-up-below_zero : scale_of small (negsuc 0) (pos 512) ≡ pos 0
unfolding scale_of rounded
half-up-below_zero = refl

no-overlap : overlap_of small ≡ pos 0
no-overlap = refl

-- ---- constants

axis-at-16_px : constant_of small AxisHeight (pos 16384) ≡ pos 4096
unfolding constant_of scale_of rounded
axis-at-16_px = refl

kern-below_zero : constant_of small RadicalKernAfterDegree (pos 512) ≡ negsuc 299
unfolding constant_of scale_of rounded
kern-below_zero = refl

absent-is_zero : constant_of small MathLeading (pos 16384) ≡ pos 0
unfolding constant_of scale_of rounded
absent-is_zero = refl

-- a scale-down of 0 counts as absent
zero-percent : percent_of small ScriptPercentScaleDown ≡ pos 70
unfolding percent_of
zero-percent = refl

absent-percent : percent_of small ScriptScriptPercentScaleDown ≡ pos 50
unfolding percent_of
absent-percent = refl

absent-raise : percent_of small RadicalDegreeBottomRaisePercent ≡ pos 60
unfolding percent_of
absent-raise = refl

-- ---- glyphs

place-of_one : place_of_letter small 0x31 ≡ 1
unfolding place_of_letter missing_place
place-of_one = refl

-- a character without a glyph is shown as `missing`
place-of_two : place_of_letter small 0x32 ≡ 0
unfolding place_of_letter missing_place
place-of_two = refl

name-of_one : name_at small 1 ≡ codes "one"
unfolding name_at
name-of_one = refl

advance-of_one : (glyph_at small 1).advance ≡ pos 512
unfolding glyph_at
advance-of_one = refl

-- in file order, whatever they measure
variants-of_one : variants_of small 1 Block ≡ measured 0 (pos 9) ∷ measured 1 (pos 3) ∷ []
unfolding variants_of
variants-of_one = refl

inline-of_one : variants_of small 1 Inline ≡ []
unfolding variants_of
inline-of_one = refl
