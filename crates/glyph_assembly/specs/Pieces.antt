-- The parts of an assembly at a font size: their sums, the joints of a sequence of pieces, the box.
use Rattle.std.specs.Prelude.{ℕ, min, ℤ, pos, not, if◌then◌else◌, List, [], ◌∷◌, map, replicate, Option, sum_by, count_by, fold}
use Rattle.std.specs.Int.{int_max}
use Rattle.std.specs.List.{flat_map, reduce}
use Rattle.fixed_units.specs.Numbers.{halved}
use Rattle.fixed_units.specs.declared.boxes.MathBox.{MathBox}
use Rattle.font_metrics.specs.Metrics.{MetricsValue, scale_of, glyph_at, overlap_of}
use Rattle.font_metrics.specs.declared.growth.Part.{Part}
use Rattle.op_dictionary.specs.declared.operator.Axis.{Axis}
use Rattle.op_dictionary.specs.declared.operator.Axis.TheVariants.{Block, Inline}
use Rattle.glyph_assembly.specs.declared.assembly.Measure.{Measure}
use Rattle.glyph_assembly.specs.declared.assembly.Measure.TheVariants.{Advance, InkAscent, InkDescent}
use Rattle.glyph_assembly.specs.declared.sums.Sums.{Sums}
use Rattle.glyph_assembly.specs.Glyphs.{length_at}

-- ---- sums, over the fixed parts and over the extenders

abbrev pub full_at : MetricsValue → ℤ → Part → ℕ
full_at metrics size part = length_at metrics size part.full

abbrev pub fixed_full : MetricsValue → ℤ → Part → ℕ
fixed_full metrics size part = if part.extender then 0 else full_at metrics size part

abbrev pub extender_full : MetricsValue → ℤ → Part → ℕ
extender_full metrics size part = if part.extender then full_at metrics size part else 0

abbrev pub sums_of : MetricsValue → ℤ → List Part → Sums
sums_of metrics size parts = record {
  fixed_length = sum_by (fixed_full metrics size) parts;
  fixed_count = count_by (λ part. not part.extender) parts;
  extender_length = sum_by (extender_full metrics size) parts;
  extender_count = count_by (λ part. part.extender) parts;
  overlap = length_at metrics size (overlap_of metrics);
}

-- ---- joints

-- the pieces in a row: each fixed part once, each extender repeated so often
abbrev pub repeats : ℕ → Part → ℕ
repeats count part = if part.extender then count else 1

abbrev pub sequence : ℕ → List Part → List Part
sequence count parts = flat_map (λ part. replicate (repeats count part) part) parts

-- how far two neighbours may overlap: no more than the connector at the end of the first and the
-- one at the start of the second
abbrev pub joint : MetricsValue → ℤ → Part → Part → ℕ
joint metrics size before after =
    min (length_at metrics size before.end) (length_at metrics size after.start)

abbrev pub joints_behind : MetricsValue → ℤ → Part → List Part → List ℕ
joints_behind metrics size piece [] = []
joints_behind metrics size piece (next ∷ pieces) =
    joint metrics size piece next ∷ joints_behind metrics size next pieces

-- at each piece of a row with the next one
abbrev pub joints : MetricsValue → ℤ → List Part → List ℕ
joints metrics size [] = []
joints metrics size (piece ∷ pieces) = joints_behind metrics size piece pieces

-- the widest overlap that all joints allow; none where there is no joint
unfoldable pub widest_overlap : MetricsValue → ℤ → ℕ → List Part → Option ℕ
widest_overlap metrics size count parts = reduce min (joints metrics size (sequence count parts))

-- ---- the box

-- the largest of some numbers; 0 without any
abbrev pub largest : List ℤ → ℤ
largest [] = pos 0
largest (number ∷ numbers) = fold int_max number numbers

-- a measure of the glyph at a place, and of a part's glyph
abbrev pub measure_at : Measure → MetricsValue → ℤ → ℕ → ℤ
measure_at Advance metrics size place = scale_of metrics (glyph_at metrics place).advance size
measure_at InkAscent metrics size place = scale_of metrics (glyph_at metrics place).ink_ascent size
measure_at InkDescent metrics size place = scale_of metrics (glyph_at metrics place).ink_descent
    size

abbrev pub measure_of : Measure → MetricsValue → ℤ → Part → ℤ
measure_of measure metrics size part = measure_at measure metrics size part.glyph.0

-- An assembly has no italic correction, and its accent over its middle. One along the block axis
-- stands on the baseline, as high as it is long and as wide as the widest of all its parts; one
-- along the inline axis is as wide as it is long, and has the largest ink of all its parts.
unfoldable pub built_frame : Axis → MetricsValue → List Part → ℤ → ℤ → MathBox
built_frame Block metrics parts length size =
    let width = largest (map (measure_of Advance metrics size) parts) in
    record {
      width = width;
      ascent = length;
      descent = pos 0;
      ink_ascent = length;
      ink_descent = pos 0;
      italic = pos 0;
      accent = halved width;
    }
built_frame Inline metrics parts length size =
    let ink_ascent = largest (map (measure_of InkAscent metrics size) parts) in
    let ink_descent = largest (map (measure_of InkDescent metrics size) parts) in
    record {
      width = length;
      ascent = ink_ascent;
      descent = ink_descent;
      ink_ascent = ink_ascent;
      ink_descent = ink_descent;
      italic = pos 0;
      accent = halved length;
    }
