-- What the reader makes of a line of no table, and what the line says.
use Rattle.std.specs.Prelude.{⊤}
use Rattle.op_dictionary.specs.Pairs.{IsLineText}
use Rattle.metrics_file.specs.declared.keyword.Keyword.{Keyword}
use Rattle.metrics_file.specs.declared.keyword.Keyword.TheVariants.{Variants as VariantsOf, Parts as PartsOf, Kern as KernOf}
use Rattle.metrics_file.specs.declared.said.Said.{Said}
use Rattle.metrics_file.specs.declared.said.Said.TheVariants.{Upem, Line, XHeight, Overlap, Constant, Glyph, Character, Operator}
use Rattle.font_metrics.specs.Kept.{named_glyph}
use Rattle.metrics_file.specs.Lines.{Item, SaysUpem, SaysLine, SaysXHeight, SaysOverlap, SaysConstant, SaysGlyph, SaysCharacter, SaysOperator}

-- the first word of a line that is no entry of a table
abbrev pub IsOfNoTable : Keyword → Type 0
IsOfNoTable (VariantsOf axis) = ⊥
IsOfNoTable (PartsOf axis) = ⊥
IsOfNoTable KernOf = ⊥
IsOfNoTable keyword = ⊤

abbrev pub item_of : Said → Item
item_of (Upem n) = SaysUpem n
item_of (Line n) = SaysLine n
item_of (XHeight n) = SaysXHeight n
item_of (Overlap n) = SaysOverlap n
item_of (Constant c) = SaysConstant c
item_of (Glyph g) = SaysGlyph (named_glyph g.0.now g.1)
item_of (Character c) = SaysCharacter c
item_of (Operator line) = SaysOperator line

-- the text of an operator is one that the dictionary takes
abbrev pub HasLineText : Said → Type 0
HasLineText (Operator line) = IsLineText line.text
HasLineText said = ⊤
