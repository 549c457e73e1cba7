-- What a metrics file says, and what is read off it at a font size.
use Rattle.std.specs.Prelude.{ℕ, ℤ, pos, ◌*ℤ◌, if◌then◌else◌, List, [], codes, Option, Some, None, unwrap_or, nat_eq, slice_index_or, position, Bool, nat_le, int_le, ◌∷◌, ◌++◌, length, map, count_by}
use Rattle.std.specs.BTreeMap.{insert_entry}
use Rattle.std.specs.Map.{lookup}
use Rattle.std.specs.Ordering.{nat_cmp, int_eq}
use Rattle.std.specs.Str.{bytes_eq}
use Rattle.fixed_units.specs.Numbers.{rounded}
use Rattle.op_dictionary.specs.declared.extra.OperatorLine.{OperatorLine}
use Rattle.op_dictionary.specs.declared.operator.Axis.{Axis}
use Rattle.op_dictionary.specs.declared.operator.Axis.TheVariants.{Block, Inline}
use Rattle.font_metrics.specs.declared.constants.ConstName.{ConstName}
use Rattle.font_metrics.specs.declared.constants.ConstName.TheVariants.{ScriptPercentScaleDown, ScriptScriptPercentScaleDown, RadicalDegreeBottomRaisePercent}
use Rattle.font_metrics.specs.declared.corner.Corner.{Corner}
use Rattle.font_metrics.specs.declared.corner.Corner.TheVariants.{TopRight, TopLeft, BottomRight, BottomLeft}
use Rattle.font_metrics.specs.declared.kern.Kern.{Kern}
use Rattle.font_metrics.specs.declared.kern.KernStep.{KernStep}
use Rattle.font_metrics.specs.declared.kern_tables.KernTables.{KernTables}
use Rattle.font_metrics.specs.declared.glyph.Glyph.{Glyph}
use Rattle.font_metrics.specs.declared.growth.Variant.{Variant}
use Rattle.font_metrics.specs.declared.growth.Part.{Part}
use Rattle.font_metrics.specs.declared.table.Tables.{Tables}
use Rattle.font_metrics.specs.Constants.{place_of_constant}

-- a glyph with the name that the file gives it
pub record NamedGlyph : Type 0 where
  pub name : List ℕ
  pub glyph : Glyph

-- a table by the places of glyphs, which increase; each list in file order
abbrev pub ByGlyph : Type 0 → Type 0
ByGlyph X = List (ℕ × List X)

-- a table for each axis: first for block, then for inline
abbrev pub ByAxis : Type 0 → Type 0
ByAxis X = ByGlyph X × ByGlyph X

abbrev pub along : {X : Type 0} → Axis → ByAxis X → ByGlyph X
along Block tables = tables.0
along Inline tables = tables.1

-- the tables with this one along the axis
abbrev pub with_along : {X : Type 0} → Axis → ByAxis X → ByGlyph X → ByAxis X
with_along Block tables table = (table, tables.1)
with_along Inline tables table = (tables.0, table)

-- the table of the kerns at a corner
abbrev pub kerns_at : Corner → KernTables → ByGlyph Kern
kerns_at TopRight kerns = kerns.top_right
kerns_at TopLeft kerns = kerns.top_left
kerns_at BottomRight kerns = kerns.bottom_right
kerns_at BottomLeft kerns = kerns.bottom_left

-- the kerns with this table at the corner
abbrev pub with_kerns_at : Corner → KernTables → ByGlyph Kern → KernTables
with_kerns_at TopRight kerns table = record kerns { top_right = table }
with_kerns_at TopLeft kerns table = record kerns { top_left = table }
with_kerns_at BottomRight kerns table = record kerns { bottom_right = table }
with_kerns_at BottomLeft kerns table = record kerns { bottom_left = table }

-- The numbers of a metrics file in design units; what may lack is an option. Glyphs and operator
-- lines stand in file order. Constants are pairs of a place in the table of constants and a value,
-- by that place; characters are pairs of a code and the place of a glyph, by that code.
pub record MetricsValue : Type 0 where
  pub version : ℕ
  pub upem : ℕ
  pub line_ascent : ℕ
  pub line_descent : ℕ
  pub x_height : ℕ
  pub overlap : Option ℕ
  pub constants : List (ℕ × ℤ)
  pub glyphs : List NamedGlyph
  pub characters : List (ℕ × ℕ)
  pub tables : Tables
  pub operators : List OperatorLine

-- ---- what is looked up

-- the place of the glyph of that name
abbrev pub place_of_name : List NamedGlyph → List ℕ → Option ℕ
place_of_name glyphs name = position (λ g. bytes_eq name g.name) glyphs

-- the place that the character of that code was given
abbrev pub place_of_code : List (ℕ × ℕ) → ℕ → Option ℕ
place_of_code characters code = lookup (nat_eq code) characters

-- what a table has at a glyph
abbrev pub items_of : {X : Type 0} → ByGlyph X → ℕ → List X
items_of table place = unwrap_or (lookup (nat_eq place) table) []

-- a table with one more item of a glyph, behind those that it has
abbrev pub with_item : {X : Type 0} → ByGlyph X → ℕ → X → ByGlyph X
with_item table place item = insert_entry nat_cmp table place (items_of table place ++ item ∷ [])

abbrev pub with_item_along : {X : Type 0} → Axis → ByAxis X → ℕ → X → ByAxis X
with_item_along axis tables place item = with_along axis tables
    (with_item (along axis tables) place item)

-- the glyph has as many items as it may have
abbrev pub is_full : {X : Type 0} → ℕ → ByGlyph X → ℕ → Bool
is_full most table place = nat_le most (length (items_of table place))

-- the place of the glyph that stands for what a font lacks
unfoldable pub missing_place : MetricsValue → ℕ
missing_place m = unwrap_or (place_of_name m.glyphs (codes "missing")) 0

-- the place of the glyph that shows a character: its own, or that of `missing`
unfoldable pub place_of_letter : MetricsValue → ℕ → ℕ
place_of_letter m code = unwrap_or (place_of_code m.characters code) (missing_place m)

abbrev pub nameless : NamedGlyph
nameless = record {
  name = [];
  glyph = record {
    advance = pos 0;
    ink_ascent = pos 0;
    ink_descent = pos 0;
    italic = pos 0;
    accent = None;
  };
}

-- the glyph at a place, and its name
abbrev pub glyph_in_list : List NamedGlyph → ℕ → Glyph
glyph_in_list glyphs place = (slice_index_or glyphs place nameless).glyph

abbrev pub name_in_list : List NamedGlyph → ℕ → List ℕ
name_in_list glyphs place = (slice_index_or glyphs place nameless).name

unfoldable pub glyph_at : MetricsValue → ℕ → Glyph
glyph_at m place = glyph_in_list m.glyphs place

unfoldable pub name_at : MetricsValue → ℕ → List ℕ
name_at m place = name_in_list m.glyphs place

-- the variants of a glyph along an axis, in file order
unfoldable pub variants_of : MetricsValue → ℕ → Axis → List Variant
variants_of m place axis = items_of (along axis m.tables.variants) place

-- the parts of a glyph's assembly along an axis, in file order
unfoldable pub parts_of : MetricsValue → ℕ → Axis → List Part
parts_of m place axis = items_of (along axis m.tables.parts) place

-- what a glyph has at a corner: its kern, where it has one
unfoldable pub kerns_of : MetricsValue → ℕ → Corner → List Kern
kerns_of m place corner = items_of (kerns_at corner m.tables.kerns) place

-- ---- values at a font size

-- a value in design units at a font size: value * size / upem, rounded
unfoldable pub scale_of : MetricsValue → ℤ → ℤ → ℤ
scale_of m value size = rounded (value *ℤ size) (pos m.upem)

abbrev pub line_ascent_of : MetricsValue → ℤ → ℤ
line_ascent_of m size = scale_of m (pos m.line_ascent) size

abbrev pub line_descent_of : MetricsValue → ℤ → ℤ
line_descent_of m size = scale_of m (pos m.line_descent) size

-- one ex
abbrev pub ex_of : MetricsValue → ℤ → ℤ
ex_of m size = scale_of m (pos m.x_height) size

-- the least connector overlap, 0 where absent
abbrev pub overlap_of : MetricsValue → ℤ
overlap_of m = pos (unwrap_or m.overlap 0)

-- a constant that the file gives
abbrev pub given_constant : MetricsValue → ConstName → Option ℤ
given_constant m name = lookup (nat_eq (place_of_constant name)) m.constants

-- a constant at a size; an absent one is 0
unfoldable pub constant_of : MetricsValue → ConstName → ℤ → ℤ
constant_of m name size = scale_of m (unwrap_or (given_constant m name) (pos 0)) size

-- how many heights of a kern are at most a height, each at a font size
abbrev pub reached_of : MetricsValue → List KernStep → ℤ → ℤ → ℕ
reached_of m steps height size = count_by (λ step. int_le (scale_of m step.height size) height)
    steps

-- the values of a kern, of which there is one more than heights
abbrev pub values_of : Kern → List ℤ
values_of kern = kern.lowest ∷ map (λ step. step.value) kern.steps

-- the value of a kern at a height and a size: the one in the place of so many heights
unfoldable pub kern_value : MetricsValue → Kern → ℤ → ℤ → ℤ
kern_value m kern height size =
    scale_of m (slice_index_or (values_of kern) (reached_of m kern.steps height size) (pos 0)) size

abbrev pub first_value : MetricsValue → List Kern → ℤ → ℤ → ℤ
first_value m [] height size = pos 0
first_value m (kern ∷ kerns) height size = kern_value m kern height size

-- how far a glyph is moved in at a corner and a height: 0 where it has no kern there
unfoldable pub kern_of : MetricsValue → ℕ → Corner → ℤ → ℤ → ℤ
kern_of m place corner height size = first_value m (kerns_of m place corner) height size

-- a percent that counts as absent where it is 0
abbrev pub or_default : ℤ → Option ℤ → ℤ
or_default default None = default
or_default default (Some given) = if int_eq given (pos 0) then default else given

-- the percents: 70 and 50 where a scale-down is absent or 0, and 60 where the degree raise is
-- absent
unfoldable pub percent_of : MetricsValue → ConstName → ℤ
percent_of m ScriptPercentScaleDown = or_default (pos 70) (given_constant m ScriptPercentScaleDown)
percent_of m ScriptScriptPercentScaleDown = or_default (pos 50)
    (given_constant m ScriptScriptPercentScaleDown)
percent_of m name = unwrap_or (given_constant m name) (pos 60)

-- the constants that are percents
abbrev pub IsPercent : ConstName → Type 0
IsPercent ScriptPercentScaleDown = Unit {0}
IsPercent ScriptScriptPercentScaleDown = Unit {0}
IsPercent RadicalDegreeBottomRaisePercent = Unit {0}
IsPercent name = ⊥

-- those of them that scale scripts down
abbrev pub IsScaleDown : ConstName → Type 0
IsScaleDown ScriptPercentScaleDown = Unit {0}
IsScaleDown ScriptScriptPercentScaleDown = Unit {0}
IsScaleDown name = ⊥
