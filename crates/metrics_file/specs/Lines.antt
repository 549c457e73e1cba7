-- What a line of a metrics file says: by its first word, and then by its fields from left to right.
use Rattle.std.specs.Prelude.{ℕ, ℤ, nat_le, if◌then◌else◌, List, codes, Err}
use Rattle.std.specs.Str.{bytes_eq}
use Rattle.op_dictionary.specs.declared.extra.OperatorLine.{OperatorLine}
use Rattle.op_dictionary.specs.declared.operator.Axis.TheVariants.{Block, Inline}
use Rattle.font_metrics.specs.declared.corner.Corner.{Corner}
use Rattle.font_metrics.specs.declared.kern.Kern.{Kern}
use Rattle.font_metrics.specs.declared.fault.LineFault.TheVariants.{UnknownWord}
use Rattle.metrics_file.specs.declared.keyword.Keyword.{Keyword}
use Rattle.metrics_file.specs.declared.keyword.Keyword.TheVariants.{Upem, Line, XHeight, Overlap, Constant, Glyph, Char, Variants as VariantsOf, Parts as PartsOf, Kern as KernOf, Operator, Unknown}
use Rattle.font_metrics.specs.declared.table.Table.{Table}
use Rattle.font_metrics.specs.declared.table.Table.TheVariants.{Variants, Parts, Kerns}
use Rattle.font_metrics.specs.Faults.{Step, step_map}
use Rattle.font_metrics.specs.Metrics.{NamedGlyph}
use Rattle.font_metrics.specs.Tables.{EntryOf}
use Rattle.font_metrics.specs.Slot.{Words}
pub use Rattle.metrics_file.specs.Fields.{lent, word_at, length_in, reach_in, reach_if_given, named_in, upem_in, line_with, line_in, one_length_in, constant_with, constant_in, glyph_with, glyph_in, character_with, character_in, variant_with, variant_in, part_with, based_on, part_in, steps_in, are_pairs, kern_with, kern_in, operator_with, operator_in}

-- what the first word of a line says of the fields behind it; words are compared exactly
unfoldable pub keyword_of : List ℕ → Keyword
keyword_of word =
    if bytes_eq word (codes "upem") then Upem
    else if bytes_eq word (codes "line") then Line
    else if bytes_eq word (codes "xheight") then XHeight
    else if bytes_eq word (codes "overlap") then Overlap
    else if bytes_eq word (codes "const") then Constant
    else if bytes_eq word (codes "glyph") then Glyph
    else if bytes_eq word (codes "char") then Char
    else if bytes_eq word (codes "vvariant") then VariantsOf Block
    else if bytes_eq word (codes "hvariant") then VariantsOf Inline
    else if bytes_eq word (codes "vassembly") then PartsOf Block
    else if bytes_eq word (codes "hassembly") then PartsOf Inline
    else if bytes_eq word (codes "kern") then KernOf
    else if bytes_eq word (codes "operator") then Operator
    else Unknown

-- a file of version 1 knows no kerns
abbrev pub known_in : ℕ → Keyword → Keyword
known_in version KernOf = if nat_le 2 version then KernOf else Unknown
known_in version keyword = keyword

-- ---- what a line says

-- a line behind the first, whose fields are read: a base glyph's place stands before its entry in
-- a table, and a constant's place before its value
pub data Item : Type 0 where
  SaysUpem : ℕ → Item
  SaysLine : ℕ × ℕ → Item
  SaysXHeight : ℕ → Item
  SaysOverlap : ℕ → Item
  SaysConstant : ℕ × ℤ → Item
  SaysGlyph : NamedGlyph → Item
  SaysCharacter : ℕ × ℕ → Item
  SaysEntry : (t : Table) → ℕ × EntryOf t → Item
  SaysOperator : OperatorLine → Item

abbrev pub says_kern : Corner × (ℕ × Kern) → Item
says_kern kern = SaysEntry (Kerns kern.0) kern.1

-- by the first word and the fields, where lines before have named these glyphs
abbrev pub item_in : List NamedGlyph → Keyword → Words → Step Item
item_in glyphs Upem fields = step_map SaysUpem (upem_in fields)
item_in glyphs Line fields = step_map SaysLine (line_in fields)
item_in glyphs XHeight fields = step_map SaysXHeight (one_length_in fields)
item_in glyphs Overlap fields = step_map SaysOverlap (one_length_in fields)
item_in glyphs Constant fields = step_map SaysConstant (constant_in fields)
item_in glyphs Glyph fields = step_map SaysGlyph (glyph_in fields)
item_in glyphs Char fields = step_map SaysCharacter (character_in glyphs fields)
item_in glyphs (VariantsOf axis) fields = step_map (SaysEntry (Variants axis))
    (variant_in glyphs fields)
item_in glyphs (PartsOf axis) fields = step_map (SaysEntry (Parts axis)) (part_in glyphs fields)
item_in glyphs KernOf fields = step_map says_kern (kern_in glyphs fields)
item_in glyphs Operator fields = step_map SaysOperator (operator_in fields)
item_in glyphs Unknown fields = Err UnknownWord
