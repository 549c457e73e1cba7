-- How far what metrics give reaches: in design units, and at a font size from 0 to 2^20.
--
-- Each bound follows from `IsTaken`, which `Metrics::is_taken` gives. Those in design units are the
-- ranges of the file's numbers; those at a size are for `Within` of fixed_units.
use Rattle.std.proofs.Common.{subst, ℕ, ◌≤◌, ◌<◌, ◌^◌, arith, ℤ, pos, negsuc, ◌≤ℤ◌, ◌<ℤ◌, ◌*ℤ◌, length}
use Rattle.std.specs.List.{All}
use Rattle.std.specs.Option.{unwrap_or, IfSome}
use Rattle.std.specs.Prelude.{Option, Some, None}
use Rattle.op_dictionary.specs.declared.operator.Axis.{Axis}
use Rattle.fixed_units.specs.Numbers.{IsWithin, rounded}
use Rattle.fixed_units.proofs.Rounding.{rounded_at_most, rounded-*ℤ}
use Rattle.fixed_units.proofs.Signed.{signed}
use Rattle.fixed_units.proofs.Within.{product_in}
use Rattle.font_metrics.specs.declared.constants.ConstName.{ConstName}
use Rattle.font_metrics.specs.declared.glyph.Glyph.{Glyph}
use Rattle.font_metrics.specs.Constants.{place_of_constant}
use Rattle.font_metrics.specs.Metrics.{MetricsValue, nameless, glyph_at, variants_of, parts_of, given_constant, constant_of, percent_of, scale_of, line_ascent_of, line_descent_of, ex_of, overlap_of, IsScaleDown}
use Rattle.font_metrics.specs.Taken.{IsTaken, IsLength, IsReach, IsConstant, IsInDesign, IsMeasured, IsVariant, IsPart}
use Rattle.font_metrics.proofs.Scaling.{scale_in, size_in, line_in}
use Rattle.font_metrics.proofs.Values.{given_in, in_reach, reach_within, variants_in, variants_few, parts_in, parts_few, scale_down_in}

-- ---- numbers in design units

pub length_within : (z : ℤ) → IsLength z → IsWithin (2 ^ 16) z
length_within z h =
    let low = h.0 in
    let high = h.1 in
    record { low = omega (arith, signed, low); high = omega (arith, signed, high) }

pub reach_is_within : (z : ℤ) → IsReach z → IsWithin (2 ^ 16) z
reach_is_within z h = reach_within z h

-- a glyph: its advance from 0 to 65535, the rest from -32768 to 65535
pub glyph_measured : (m : MetricsValue) (place : ℕ) → IsTaken m → place < length m.glyphs
    → IsMeasured (glyph_at m place)
unfolding glyph_at
glyph_measured m place h low = (h.glyphs place nameless low).measures

pub measured_in_design : (g : Glyph) → IsMeasured g → IsInDesign g
measured_in_design g h = record {
  advance = length_within g.advance h.advance;
  ink_ascent = reach_within g.ink_ascent h.ink_ascent;
  ink_descent = reach_within g.ink_descent h.ink_descent;
  italic = reach_within g.italic h.italic;
  accent = accent g.accent h.accent;
}
  where
    accent : (o : Option ℤ) → IfSome o IsReach → IfSome o (IsWithin (2 ^ 16))
    accent None k = tt
    accent (Some z) k = reach_within z k

pub glyph_in_design : (m : MetricsValue) (place : ℕ) → IsTaken m → place < length m.glyphs
    → IsInDesign (glyph_at m place)
glyph_in_design m place h low = measured_in_design (glyph_at m place) (glyph_measured m place h low)

-- the variants of a glyph along an axis: at most 64, each of a glyph of the font
pub variants_are_variants : (m : MetricsValue) (place : ℕ) (axis : Axis) → IsTaken m
    → All (IsVariant (length m.glyphs)) (variants_of m place axis)
variants_are_variants m place axis h = variants_in m place axis h

pub variants_are_few : (m : MetricsValue) (place : ℕ) (axis : Axis) → IsTaken m
    → length (variants_of m place axis) ≤ 64
variants_are_few m place axis h = variants_few m place axis h

-- the parts of its assembly: at most 16
pub parts_are_parts : (m : MetricsValue) (place : ℕ) (axis : Axis) → IsTaken m
    → All (IsPart (length m.glyphs)) (parts_of m place axis)
parts_are_parts m place axis h = parts_in m place axis h

pub parts_are_few : (m : MetricsValue) (place : ℕ) (axis : Axis) → IsTaken m
    → length (parts_of m place axis) ≤ 16
parts_are_few m place axis h = parts_few m place axis h

-- a constant, where the file gives it, and 0 where it doesn't
pub constant_given : (m : MetricsValue) (name : ConstName) → IsTaken m
    → IfSome (given_constant m name) (λ v. IsConstant (place_of_constant name, v))
constant_given m name h = given_in m name h

pub constant_reaches : (m : MetricsValue) (name : ConstName) → IsTaken m
    → IsReach (unwrap_or (given_constant m name) (pos 0))
constant_reaches m name h = by (given_constant m name) (given_in m name h)
  where
    by : (o : Option ℤ) → IfSome o (λ v. IsConstant (place_of_constant name, v)) → IsReach (unwrap_or o (pos 0))
    by None k = (omega (arith, signed), omega (arith, signed))
    by (Some v) k = in_reach (place_of_constant name) v k

-- a percent by which scripts are scaled down
pub scale_down_lies : (m : MetricsValue) (name : ConstName) → IsTaken m → IsScaleDown name
    → (pos 1 ≤ℤ percent_of m name) × (percent_of m name ≤ℤ pos 200)
scale_down_lies m name h k = scale_down_in m name (given_in m name h) k

-- the least overlap of connectors
pub overlap_lies : (m : MetricsValue) → IsTaken m → IsLength (overlap_of m)
overlap_lies m h = by m.overlap h.overlap
  where
    by : (o : Option ℕ) → IfSome o (λ n. n ≤ 65535) → IsLength (pos (unwrap_or o 0))
    by None k = (omega (arith, signed), omega (arith, signed))
    by (Some n) k = (omega (arith, signed), omega (arith, signed, k))

-- ---- values at a font size

-- of a number of the file
pub scale_within : (m : MetricsValue) (value size : ℤ) → IsTaken m → IsWithin (2 ^ 16) value
    → pos 0 ≤ℤ size → size ≤ℤ pos (2 ^ 20) → IsWithin (2 ^ 32) (scale_of m value size)
scale_within m value size h v low high =
    scale_in m (2 ^ 32) value size h.upem_low (product_in v (size_in size low high))

-- of a sum of such numbers
pub wide_scale_within : (m : MetricsValue) (value size : ℤ) → IsTaken m → IsWithin (2 ^ 20) value
    → pos 0 ≤ℤ size → size ≤ℤ pos (2 ^ 20) → IsWithin (2 ^ 36) (scale_of m value size)
wide_scale_within m value size h v low high =
    scale_in m (2 ^ 36) value size h.upem_low (product_in v (size_in size low high))

pub length_scale_within : (m : MetricsValue) (value size : ℤ) → IsTaken m → IsLength value
    → pos 0 ≤ℤ size → size ≤ℤ pos (2 ^ 20) → IsWithin (2 ^ 32) (scale_of m value size)
length_scale_within m value size h v low high = scale_within m value size h (length_within value v) low high

pub reach_scale_within : (m : MetricsValue) (value size : ℤ) → IsTaken m → IsReach value
    → pos 0 ≤ℤ size → size ≤ℤ pos (2 ^ 20) → IsWithin (2 ^ 32) (scale_of m value size)
reach_scale_within m value size h v low high = scale_within m value size h (reach_within value v) low high

rounded-natural : (a b : ℤ) → pos 0 <ℤ b → pos 0 ≤ℤ a → pos 0 ≤ℤ rounded a b
rounded-natural a b h low =
    subst (λ z. z ≤ℤ rounded a b) (rounded-*ℤ (pos 0) b h)
    (rounded_at_most (pos 0 *ℤ b) a b h (omega (arith, signed)))

-- what isn't negative isn't at a size
pub scale_not_negative : (m : MetricsValue) (value size : ℤ) → IsTaken m → pos 0 ≤ℤ value → pos 0 ≤ℤ size
    → pos 0 ≤ℤ scale_of m value size
unfolding scale_of
scale_not_negative m (pos n) (pos k) h v low =
    rounded-natural (pos n *ℤ pos k) (pos m.upem) (let least = h.upem_low in omega (arith, signed, least)) (omega (arith, signed))
scale_not_negative m (negsuc n) size h v low = absurd (omega (arith, signed, v))
scale_not_negative m value (negsuc k) h v low = absurd (omega (arith, signed, low))

pub constant_within : (m : MetricsValue) (name : ConstName) (size : ℤ) → IsTaken m
    → pos 0 ≤ℤ size → size ≤ℤ pos (2 ^ 20) → IsWithin (2 ^ 32) (constant_of m name size)
unfolding constant_of
constant_within m name size h low high =
    reach_scale_within m _ size h (constant_reaches m name h) low high

pub line_ascent_within : (m : MetricsValue) (size : ℤ) → IsTaken m → pos 0 ≤ℤ size → size ≤ℤ pos (2 ^ 20)
    → IsWithin (2 ^ 32) (line_ascent_of m size)
line_ascent_within m size h low high = line_in m m.line_ascent size h.upem_low h.line_ascent low high

pub line_descent_within : (m : MetricsValue) (size : ℤ) → IsTaken m → pos 0 ≤ℤ size → size ≤ℤ pos (2 ^ 20)
    → IsWithin (2 ^ 32) (line_descent_of m size)
line_descent_within m size h low high = line_in m m.line_descent size h.upem_low h.line_descent low high

pub ex_within : (m : MetricsValue) (size : ℤ) → IsTaken m → pos 0 ≤ℤ size → size ≤ℤ pos (2 ^ 20)
    → IsWithin (2 ^ 32) (ex_of m size)
ex_within m size h low high = line_in m m.x_height size h.upem_low h.x_height low high
