-- The canonical print of metrics: what a file says, in one form and one order.
use Rattle.std.specs.Prelude.{◌≡◌, ℕ, ◌-◌, ℤ, true, List, [], ◌∷◌, ◌++◌, length, replicate, map, flat_map, codes, Option, Some, None, Ok}
use Rattle.std.specs.Fmt.{digits, decimal, signed_decimal}
use Rattle.std.specs.List.{join_with_byte, range_with_len}
use Rattle.op_dictionary.specs.declared.extra.OperatorLine.{OperatorLine}
use Rattle.op_dictionary.specs.declared.text.OpText.{OpText}
use Rattle.op_dictionary.specs.declared.text.OpText.TheVariants.{Empty, One, Two, Other}
use Rattle.font_metrics.specs.declared.glyph.Glyph.{Glyph}
use Rattle.metrics_file.specs.declared.printed.Word.{Word}
use Rattle.metrics_file.specs.declared.printed.Word.TheVariants.{Text, Natural, Number, Code, Codes}
use Rattle.font_metrics.specs.declared.table.Table.{Table}
use Rattle.font_metrics.specs.Slot.{Words}
use Rattle.font_metrics.specs.Metrics.{NamedGlyph, MetricsValue, name_in_list, items_of}
use Rattle.metrics_file.specs.Reading.{metrics_of}
use Rattle.font_metrics.specs.Tables.{EntryOf, slot, entries, all_tables}
use Rattle.font_metrics.specs.Taken.{IsTaken}
use Rattle.metrics_file.specs.Words.{plus}
use Rattle.font_metrics.specs.Texts.{constant_text, form_text, category_text, axis_text}

-- ---- the texts of characters

-- upper case hexadecimal digits, and zeros before them where they are fewer than 4
abbrev pub code_text : ℕ → List ℕ
code_text code = let numeral = digits 16 true code in replicate (4 - length numeral) 48 ++ numeral

-- the code of an operator's character, or its two codes, which a plus joins
abbrev pub operator_text : OpText → List ℕ
operator_text Empty = []
operator_text (One letter) = code_text letter
operator_text (Two first second) = code_text first ++ plus ∷ code_text second
operator_text Other = []

-- ---- the words of each kind of line

abbrev pub version_words : ℕ → Words
version_words version = codes "mathlay-metrics" ∷ decimal version ∷ []

abbrev pub upem_words : ℕ → Words
upem_words units = codes "upem" ∷ decimal units ∷ []

abbrev pub line_words : ℕ → ℕ → Words
line_words ascent descent = codes "line" ∷ decimal ascent ∷ decimal descent ∷ []

abbrev pub x_height_words : ℕ → Words
x_height_words height = codes "xheight" ∷ decimal height ∷ []

-- the overlap's line, where it is given
abbrev pub overlap_lines : Option ℕ → List Words
overlap_lines None = []
overlap_lines (Some least) = (codes "overlap" ∷ decimal least ∷ []) ∷ []

abbrev pub constant_words : ℕ × ℤ → Words
constant_words constant =
    codes "const" ∷ constant_text constant.0 ∷ signed_decimal constant.1 ∷ []

-- the accent's place, where it is given
abbrev pub accent_words : Option ℤ → Words
accent_words None = []
accent_words (Some accent) = signed_decimal accent ∷ []

-- a glyph's name and what is known of it, with its italics correction always
abbrev pub measures_words : List ℕ → Glyph → Words
measures_words name glyph =
    codes "glyph" ∷ name ∷ signed_decimal glyph.advance
    ∷ signed_decimal glyph.ink_ascent ∷ signed_decimal glyph.ink_descent
    ∷ signed_decimal glyph.italic ∷ accent_words glyph.accent

abbrev pub glyph_words : NamedGlyph → Words
glyph_words g = measures_words g.name g.glyph

abbrev pub character_words : List NamedGlyph → ℕ × ℕ → Words
character_words glyphs character =
    codes "char" ∷ code_text character.0 ∷ name_in_list glyphs character.1 ∷ []

-- an entry of the glyph at a place in a table
abbrev pub entry_words : (t : Table) → List NamedGlyph → ℕ → EntryOf t → Words
entry_words t glyphs place x = (slot t).keyword ∷ name_in_list glyphs place
    ∷ (slot t).fields glyphs x

-- the lines of what the glyph at a place has in a table, in file order
abbrev pub table_lines : MetricsValue → ℕ → Table → List Words
table_lines m place t =
    map (entry_words t m.glyphs place) (items_of (entries t m.tables) place)

-- the lines of what the glyph at a place has in all tables
abbrev pub growth_lines : MetricsValue → ℕ → List Words
growth_lines m place = flat_map (table_lines m place) all_tables

abbrev pub operator_words : OperatorLine → Words
operator_words line =
    codes "operator" ∷ operator_text line.text ∷ form_text line.form
    ∷ category_text line.category ∷ axis_text line.axis ∷ []

-- ---- the whole print

-- what stands first: the version, and what is given once
abbrev pub header_lines : MetricsValue → List Words
header_lines m =
    (version_words m.version ∷ upem_words m.upem ∷ line_words m.line_ascent m.line_descent
    ∷ x_height_words m.x_height ∷ [])
    ++ overlap_lines m.overlap

-- all lines, in order
abbrev pub printed_lines : MetricsValue → List Words
printed_lines m =
    header_lines m
    ++ map constant_words m.constants
    ++ map glyph_words m.glyphs
    ++ map (character_words m.glyphs) m.characters
    ++ flat_map (growth_lines m) (range_with_len 0 (length m.glyphs))
    ++ map operator_words m.operators

-- a word as it is printed
abbrev pub word_text : Word → List ℕ
word_text (Text text) = text.now
word_text (Natural number) = decimal number
word_text (Number number) = signed_decimal number
word_text (Code letter) = code_text letter
word_text (Codes text) = operator_text text

-- the words of a line stand one space apart, and a line feed ends it
abbrev pub line_text : Words → List ℕ
line_text words = join_with_byte 32 words ++ 10 ∷ []

-- the canonical print
unfoldable pub print_of : MetricsValue → List ℕ
print_of m = flat_map line_text (printed_lines m)

-- reading the print of metrics that a file may give gives the same metrics
abbrev pub PrintReadsBack : Type 0
PrintReadsBack = (m : MetricsValue) → IsTaken m → metrics_of (print_of m) ≡ Ok m
