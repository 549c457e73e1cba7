-- What holds of every shape, in other words than those by which it is chosen.
use Rattle.std.specs.Prelude.{◌≡◌, ℕ, ℤ, pos, ◌≤ℤ◌, ◌<ℤ◌, ◌⊎◌, IsFalse, List, ◌∷◌, ◌++◌}
use Rattle.std.specs.List.{All}
use Rattle.font_metrics.specs.Metrics.{MetricsValue, scale_of, variants_of, parts_of}
use Rattle.font_metrics.specs.declared.glyph.GlyphId.{GlyphId}
use Rattle.font_metrics.specs.declared.growth.Variant.{Variant as LargerGlyph}
use Rattle.op_dictionary.specs.declared.operator.Axis.{Axis}
use Rattle.glyph_assembly.specs.declared.shapes.Shape.{Shape}
use Rattle.glyph_assembly.specs.declared.shapes.Shape.TheVariants.{Base, Variant, Built}
use Rattle.glyph_assembly.specs.Counts.{grows, length_of, IsLeastCount}
use Rattle.glyph_assembly.specs.Glyphs.{reach_at}
use Rattle.glyph_assembly.specs.Pieces.{sums_of}

-- the variant falls short of the target
abbrev pub IsShort : MetricsValue → ℤ → ℤ → LargerGlyph → Type 0
IsShort metrics size target variant = scale_of metrics variant.measure size <ℤ target

-- one of the variants is that glyph and reaches the target, and those before it fall short
pub record IsFirstReaching (metrics : MetricsValue) (size target : ℤ) (variants : List LargerGlyph)
    (glyph : GlyphId) : Type 0 where
  pub before : List LargerGlyph
  pub variant : LargerGlyph
  pub behind : List LargerGlyph
  pub stands : variants ≡ before ++ variant ∷ behind
  pub named : variant.glyph ≡ glyph
  pub reaches : target ≤ℤ scale_of metrics variant.measure size
  pub short : All (IsShort metrics size target) before

-- neither the glyph itself nor a variant reaches the target
pub record FallsShort (metrics : MetricsValue) (place : ℕ) (axis : Axis) (target size : ℤ) : Type 0
  where
    pub glyph : reach_at metrics place axis size <ℤ target
    pub variants : All (IsShort metrics size target) (variants_of metrics place axis)

-- an assembly is made only where nothing else reaches the target, and it does, with the least count
pub record IsAssembled (metrics : MetricsValue) (place : ℕ) (axis : Axis)
    (target size count overlap : ℤ) : Type 0 where
  pub short : FallsShort metrics place axis target size
  pub times : ℕ
  pub over : ℕ
  pub count_is : count ≡ pos times
  pub overlap_is : overlap ≡ pos over
  pub least : IsLeastCount (sums_of metrics size (parts_of metrics place axis)) target times
  pub reaches : target ≤ℤ length_of (sums_of metrics size (parts_of metrics place axis)) times over

-- nothing reaches it, and there is no valid assembly
pub record NothingReaches (metrics : MetricsValue) (place : ℕ) (axis : Axis) (target size : ℤ) :
    Type 0 where
  pub short : FallsShort metrics place axis target size
  pub assembly : IsFalse (grows (sums_of metrics size (parts_of metrics place axis)))

-- what is taken reaches the target, unless nothing does
abbrev pub IsChosen : MetricsValue → ℕ → Axis → ℤ → ℤ → Shape → Type 0
IsChosen metrics place axis target size Base =
    (target ≤ℤ reach_at metrics place axis size) ⊎ NothingReaches metrics place axis target size
IsChosen metrics place axis target size (Variant glyph) =
    IsFirstReaching metrics size target (variants_of metrics place axis) glyph
    ⊎ NothingReaches metrics place axis target size
IsChosen metrics place axis target size (Built count overlap) =
    IsAssembled metrics place axis target size count overlap
