-- Which glyph, or which assembly of glyphs, is taken to reach a target (MathML Core 5.3).
use Rattle.std.specs.Prelude.{ℕ, ◌-◌, ℤ, pos, int_le, Bool, if◌then◌else◌, List, length, find, slice_get, Option}
use Rattle.std.specs.Option.{option_map, option_map_or}
use Rattle.font_metrics.specs.Metrics.{MetricsValue, scale_of, constant_of, variants_of, parts_of}
use Rattle.font_metrics.specs.declared.constants.ConstName.TheVariants.{DisplayOperatorMinHeight}
use Rattle.font_metrics.specs.declared.glyph.GlyphId.{GlyphId}
use Rattle.font_metrics.specs.declared.growth.Part.{Part}
use Rattle.font_metrics.specs.declared.growth.Variant.{Variant as LargerGlyph}
use Rattle.font_metrics.specs.declared.mark.Mark.{Mark}
use Rattle.font_metrics.specs.declared.mark.Mark.TheVariants.{Glyph, Built as Composed}
use Rattle.op_dictionary.specs.declared.operator.Axis.{Axis}
use Rattle.op_dictionary.specs.declared.operator.Axis.TheVariants.{Block}
use Rattle.glyph_assembly.specs.declared.shapes.Shape.{Shape}
use Rattle.glyph_assembly.specs.declared.shapes.Shape.TheVariants.{Base, Variant, Built}
use Rattle.glyph_assembly.specs.declared.shapes.Shaped.{Shaped}
use Rattle.glyph_assembly.specs.Glyphs.{frame_at, reach_at}
use Rattle.glyph_assembly.specs.Counts.{grows, length_of, least_count, greatest_overlap}
use Rattle.glyph_assembly.specs.Pieces.{sums_of, widest_overlap, built_frame}

-- ---- one glyph

abbrev pub base : MetricsValue → ℕ → ℤ → Shaped
base metrics place size = record { shape = Base; frame = frame_at metrics place size }

abbrev pub larger : MetricsValue → ℤ → GlyphId → Shaped
larger metrics size variant = record {
  shape = Variant variant;
  frame = frame_at metrics variant.0 size;
}

abbrev pub reaches : MetricsValue → ℤ → ℤ → LargerGlyph → Bool
reaches metrics size target variant = int_le target (scale_of metrics variant.measure size)

-- the first of the variants, in the order of the file, whose measure reaches the target
abbrev pub first_reaching : MetricsValue → ℤ → ℤ → List LargerGlyph → Option GlyphId
first_reaching metrics size target variants =
    option_map (λ variant. variant.glyph) (find (reaches metrics size target) variants)

-- the last of the variants, or the base glyph without any
abbrev pub largest_glyph : MetricsValue → ℕ → ℤ → List LargerGlyph → Shaped
largest_glyph metrics place size variants =
    option_map_or (λ variant. larger metrics size variant.glyph)
    (slice_get variants (length variants - 1))
    (base metrics place size)

-- ---- an assembly

abbrev pub built : MetricsValue → List Part → Axis → ℤ → ℤ → ℕ → ℕ → Shaped
built metrics parts axis target size count overlap = record {
  shape = Built (pos count) (pos overlap);
  frame = built_frame axis metrics parts (length_of (sums_of metrics size parts) count overlap)
      size;
}

-- with the least count and the greatest overlap that reach the target
unfoldable pub assembly_of : MetricsValue → List Part → Axis → ℤ → ℤ → Shaped
assembly_of metrics parts axis target size =
    let sums = sums_of metrics size parts in
    let count = least_count sums target in
    let widest = widest_overlap metrics size count parts in
    built metrics parts axis target size count (greatest_overlap sums target count widest)

-- ---- the choice: the first of these that there is

-- the assembly, where it is valid, else the largest glyph
abbrev pub assembly_or_glyph : MetricsValue → ℕ → Axis → ℤ → ℤ → Shaped
assembly_or_glyph metrics place axis target size =
    let parts = parts_of metrics place axis in
    if grows (sums_of metrics size parts) then assembly_of metrics parts axis target size
    else largest_glyph metrics place size (variants_of metrics place axis)

-- the base glyph where it reaches the target, else the first variant that does, else what is larger
unfoldable pub shaped_of : MetricsValue → ℕ → Axis → ℤ → ℤ → Shaped
shaped_of metrics place axis target size =
    if int_le target (reach_at metrics place axis size) then base metrics place size
    else option_map_or (larger metrics size)
    (first_reaching metrics size target (variants_of metrics place axis))
    (assembly_or_glyph metrics place axis target size)

-- of a large operator in display style: the first variant along the block axis that reaches the
-- least height of one, else the largest glyph
unfoldable pub display_of : MetricsValue → ℕ → ℤ → Shaped
display_of metrics place size =
    let variants = variants_of metrics place Block in
    let least = constant_of metrics DisplayOperatorMinHeight size in
    option_map_or (larger metrics size) (first_reaching metrics size least variants)
    (largest_glyph metrics place size variants)

-- ---- what is drawn

abbrev pub mark_of : Shape → GlyphId → Axis → ℤ → ℤ → ℤ → Mark
mark_of Base glyph axis x y size = Glyph x y size glyph
mark_of (Variant larger) glyph axis x y size = Glyph x y size larger
mark_of (Built count overlap) glyph axis x y size = Composed x y size axis glyph count overlap
