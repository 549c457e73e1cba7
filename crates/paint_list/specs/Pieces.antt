-- The pieces of an assembly of glyphs, and where each stands (OpenType MATH, "GlyphAssembly").
use Rattle.std.specs.Prelude.{ℕ, ◌^◌, ℤ, pos, negsuc, ◌+ℤ◌, ◌-ℤ◌, ◌≤ℤ◌, if◌then◌else◌, List, [], ◌∷◌, ◌++◌, map, replicate}
use Rattle.std.specs.List.{flat_map}
use Rattle.fixed_units.specs.Numbers.{IsWithin}
use Rattle.op_dictionary.specs.declared.operator.Axis.{Axis}
use Rattle.op_dictionary.specs.declared.operator.Axis.TheVariants.{Block, Inline}
use Rattle.font_metrics.specs.Metrics.{MetricsValue, glyph_at, parts_of, scale_of}
use Rattle.font_metrics.specs.declared.growth.Part.{Part}
use Rattle.box_writer.specs.Items.{IsKnown}
use Rattle.paint_list.specs.declared.paints.Paint.{Paint}
use Rattle.paint_list.specs.declared.paints.Paint.TheVariants.{Glyph}
use Rattle.paint_list.specs.declared.pieces.Assembly.{Assembly}

-- ---- which pieces there are

-- how often an extender is repeated; no assembly is given fewer repeats than none
abbrev pub repeats : ℤ → ℕ
repeats (pos count) = count
repeats (negsuc less) = 0

-- how often a part stands in an assembly: an extender so often, any other part once
abbrev pub times : ℤ → Part → ℕ
times count part = if part.extender then repeats count else 1

-- the parts in the order of the file, each as often as it stands there, in its place
unfoldable pub pieces_of : ℤ → List Part → List Part
pieces_of count parts = flat_map (λ part. replicate (times count part) part) parts

-- those of an assembly
abbrev pub pieces_in : MetricsValue → Assembly → List Part
pieces_in m built = pieces_of built.count (parts_of m built.glyph.0 built.axis)

-- ---- where they begin

-- how far along the axis the piece behind this one begins: its full length less the overlap
unfoldable pub step_of : MetricsValue → Assembly → Part → ℤ
step_of m built part = scale_of m part.full built.size -ℤ built.overlap

abbrev pub total : List ℤ → ℤ
total [] = pos 0
total (z ∷ zs) = z +ℤ total zs

-- a piece begins at the sum of that over the pieces before it
abbrev pub start_behind : MetricsValue → Assembly → List Part → ℤ
start_behind m built before = total (map (step_of m built) before)

-- ---- what is painted

-- how far a glyph's ink reaches below its baseline
abbrev pub ink_below : MetricsValue → Assembly → Part → ℤ
ink_below m built part = scale_of m (glyph_at m part.glyph.0).ink_descent built.size

-- a piece that begins so far from the mark's place: to the right of it; or above it, where the ink
-- begins there
abbrev pub piece_along : Axis → MetricsValue → Assembly → Part → ℤ → Paint
piece_along Inline m built part start = Glyph (built.x +ℤ start) built.y built.size part.glyph
piece_along Block m built part start =
    Glyph built.x (built.y -ℤ start -ℤ ink_below m built part) built.size part.glyph

unfoldable pub piece_at : MetricsValue → Assembly → Part → ℤ → Paint
piece_at m built part start = piece_along built.axis m built part start

-- something of each item, which may look back at those before it
abbrev pub each_behind : {A B : Type 0} → (List A → A → B) → List A → List A → List B
each_behind f before [] = []
each_behind f before (item ∷ items) = f before item ∷ each_behind f (before ++ item ∷ []) items

-- the pieces of an assembly, in order
unfoldable pub built_paints : MetricsValue → Assembly → List Paint
built_paints m built =
    each_behind (λ before part. piece_at m built part (start_behind m built before)) []
    (pieces_in m built)

-- ---- which assemblies are painted

-- its glyph is one of the font's, its size is a font size, and no number of it is so large that a
-- piece stands out of reach
pub record IsAssembly (m : MetricsValue) (built : Assembly) : Type 0 where
  pub known : IsKnown m built.glyph
  pub size_low : pos 0 ≤ℤ built.size
  pub size_high : built.size ≤ℤ pos (2 ^ 20)
  pub right : IsWithin (2 ^ 37) built.x
  pub down : IsWithin (2 ^ 37) built.y
  pub overlap : IsWithin (2 ^ 33) built.overlap
