-- What a metrics file says: the first fault of its lines, or what all of them give.
use Rattle.std.specs.Prelude.{ℕ, ◌+◌, Bool, true, false, not, ◌&&◌, ◌||◌, nat_eq, nat_le, if◌then◌else◌, List, [], ◌∷◌, ◌++◌, length, codes, Option, Some, None, is_some, Result, Ok, Err}
use Rattle.std.specs.List.{slice_split, list_any, filter}
use Rattle.std.specs.Map.{lookup}
use Rattle.std.specs.BTreeMap.{insert_entry}
use Rattle.std.specs.Ordering.{nat_cmp}
use Rattle.std.specs.Str.{bytes_eq}
use Rattle.std.specs.Str.Lines.{lines}
use Rattle.op_dictionary.specs.declared.operator.Axis.{Axis}
use Rattle.op_dictionary.specs.Dictionary.{is_named}
use Rattle.font_metrics.specs.declared.fault.LineFault.{LineFault}
use Rattle.font_metrics.specs.declared.fault.LineFault.TheVariants.{ForeignByte, WrongFirstLine, Repeated, TooMany, NotRising}
use Rattle.font_metrics.specs.declared.corner.Corner.{Corner}
use Rattle.font_metrics.specs.declared.kern.Kern.{Kern}
use Rattle.font_metrics.specs.declared.kern_tables.KernTables.{KernTables}
use Rattle.metrics_file.specs.declared.keyword.Keyword.{Keyword}
use Rattle.font_metrics.specs.Faults.{Step, ◌>>=◌, step_map, or_fault, fault_if}
use Rattle.font_metrics.specs.Heights.{do_rise, heights_of}
use Rattle.font_metrics.specs.Slot.{Words}
use Rattle.metrics_file.specs.Lines.{Item, SaysUpem, SaysLine, SaysXHeight, SaysOverlap, SaysConstant, SaysGlyph, SaysCharacter, SaysEntry, SaysOperator, keyword_of, item_in, known_in}
use Rattle.font_metrics.specs.Metrics.{MetricsValue, ByGlyph, ByAxis, along, kerns_at, with_kerns_at, with_item, with_item_along, is_full, place_of_name}
use Rattle.font_metrics.specs.Tables.{slot, entries, with_entry, no_tables}
use Rattle.font_metrics.specs.Taken.{most_glyphs}
use Rattle.font_metrics.specs.Whole.{Given, needed, metrics_with}

-- the most bytes that a file may have: 8 MiB
abbrev pub most_file_bytes : ℕ
most_file_bytes = 8388608

-- ---- lines and words

-- The lines of a file. A line feed ends a line, with a carriage return just before it if there is
-- one; the last line may lack its line feed. A file of no bytes has one empty line.
abbrev pub lines_of : List ℕ → List (List ℕ)
lines_of [] = [] ∷ []
lines_of (b ∷ bs) = lines (b ∷ bs)

abbrev pub is_blank : ℕ → Bool
is_blank b = nat_eq b 32 || nat_eq b 9

abbrev pub is_empty : List ℕ → Bool
is_empty [] = true
is_empty (b ∷ bs) = false

-- the words of a line, which blanks part
unfoldable pub words_of : List ℕ → Words
words_of line = filter (λ word. not (is_empty word)) (slice_split is_blank line)

-- more words than a line of any kind has: what stands behind so many makes no difference
unfoldable pub most_words : ℕ
most_words = 38

-- a line that begins with `#`
abbrev pub is_comment : List ℕ → Bool
is_comment [] = false
is_comment (b ∷ bs) = nat_eq b 35

-- a tab, or a byte from space to tilde
abbrev pub is_plain : ℕ → Bool
is_plain b = nat_eq b 9 || (nat_le 32 b && nat_le b 126)

-- a byte that only a comment may have stands in a line that is none
unfoldable pub is_foreign : List ℕ → Bool
is_foreign line = not (is_comment line) && list_any (λ b. not (is_plain b)) line

-- ---- what lines give

-- before any line, in a file of this version
abbrev pub nothing : ℕ → Given
nothing version = record {
  version = version;
  upem = None;
  line = None;
  x_height = None;
  overlap = None;
  constants = [];
  glyphs = [];
  characters = [];
  tables = no_tables;
  operators = [];
}

-- whether an item may follow what is given: what is repeated, then what is too many, then what else
-- is wrong with it
abbrev pub allowed : Given → Item → Step (Unit {0})
allowed given (SaysUpem n) = fault_if (is_some given.upem) Repeated
allowed given (SaysLine n) = fault_if (is_some given.line) Repeated
allowed given (SaysXHeight n) = fault_if (is_some given.x_height) Repeated
allowed given (SaysOverlap n) = fault_if (is_some given.overlap) Repeated
allowed given (SaysConstant c) = fault_if (is_some (lookup (nat_eq c.0) given.constants)) Repeated
allowed given (SaysGlyph g) = do
  new ← fault_if (is_some (place_of_name given.glyphs g.name)) Repeated
  fault_if (nat_le most_glyphs (length given.glyphs)) TooMany
allowed given (SaysCharacter c) = fault_if (is_some (lookup (nat_eq c.0) given.characters)) Repeated
allowed given (SaysEntry t x) = do
  free ← fault_if (is_full (slot t).most (entries t given.tables) x.0) (slot t).full
  (slot t).check x.1
allowed given (SaysOperator line) = fault_if (is_named given.operators line.text line.form) Repeated

-- what is given with one item more
abbrev pub put : Given → Item → Given
put given (SaysUpem n) = record given { upem = Some n }
put given (SaysLine n) = record given { line = Some n }
put given (SaysXHeight n) = record given { x_height = Some n }
put given (SaysOverlap n) = record given { overlap = Some n }
put given (SaysConstant c) =
    record given { constants = insert_entry nat_cmp given.constants c.0 c.1 }
put given (SaysGlyph g) = record given { glyphs = given.glyphs ++ g ∷ [] }
put given (SaysCharacter c) =
    record given { characters = insert_entry nat_cmp given.characters c.0 c.1 }
put given (SaysEntry t x) = record given { tables = with_entry t given.tables x.0 x.1 }
put given (SaysOperator line) = record given { operators = given.operators ++ line ∷ [] }

-- a table with one more entry of a glyph, or that the glyph has as many as it may have
abbrev pub taken_into : {X : Type 0} → ℕ → ByGlyph X → ℕ → X → Step (ByGlyph X)
taken_into most table place item = do
  free ← fault_if (is_full most table place) TooMany
  Ok (with_item table place item)

-- tables along each axis with one more entry of a glyph
abbrev pub taken_along : {X : Type 0} → Axis → ℕ → ByAxis X → ℕ → X → Step (ByAxis X)
taken_along axis most tables place item = do
  free ← fault_if (is_full most (along axis tables) place) TooMany
  Ok (with_item_along axis tables place item)

-- the kerns with one more of a glyph at a corner; or that it has one there, or that its heights
-- don't rise
abbrev pub taken_kern : Corner → KernTables → ℕ → Kern → Step KernTables
taken_kern corner kerns place kern = do
  free ← fault_if (is_full 1 (kerns_at corner kerns) place) Repeated
  sound ← fault_if (not (do_rise (heights_of kern))) NotRising
  Ok (with_kerns_at corner kerns (with_item (kerns_at corner kerns) place kern))

-- what is given after the fields of a line: what they say, whether it may follow, and then with it
abbrev pub after_fields : Given → Keyword → Words → Step Given
after_fields given keyword fields = do
  item ← item_in given.glyphs keyword fields
  free ← allowed given item
  Ok (put given item)

abbrev pub after_words : Given → Words → Step Given
after_words given [] = Ok given
after_words given (word ∷ fields) = after_fields given (known_in given.version (keyword_of word))
    fields

-- what is given after a line behind the first, or the first fault of that line
unfoldable pub after : Given → List ℕ → Step Given
after given line = do
  plain ← fault_if (is_foreign line) ForeignByte
  if is_comment line then Ok given else after_words given (words_of line)

-- the version of a file
abbrev pub version_of : List ℕ → Option ℕ
version_of word =
    if bytes_eq word (codes "1") then Some 1
    else if bytes_eq word (codes "2") then Some 2
    else None

-- the words of the first line
abbrev pub first_of : List ℕ → List ℕ → Option ℕ
first_of name version = if bytes_eq name (codes "mathlay-metrics") then version_of version else None

abbrev pub version_in : Words → Option ℕ
version_in (name ∷ version ∷ []) = first_of name version
version_in words = None

-- the version that the first line names, or what is wrong with the line
abbrev pub first_in : List ℕ → Step ℕ
first_in line = do
  plain ← fault_if (is_foreign line) ForeignByte
  or_fault WrongFirstLine (version_in (words_of line))

-- what the other lines begin from
unfoldable pub after_first : List ℕ → Step Given
after_first line = do
  version ← first_in line
  Ok (nothing version)

-- ---- looking back

-- what a step gives, where a faulty one leaves all as it was
abbrev pub kept : Given → Step Given → Given
kept given (Ok next) = next
kept given (Err fault) = given

abbrev pub given_from : Given → List (List ℕ) → Given
given_from given [] = given
given_from given (line ∷ lines) = given_from (kept given (after given line)) lines

-- what lines from the first one on have given
abbrev pub given_by : List (List ℕ) → Given
given_by [] = nothing 1
given_by (first ∷ lines) = given_from (kept (nothing 1) (after_first first)) lines

-- the fault of a line with these lines before it
abbrev pub step_behind : List (List ℕ) → List ℕ → Step Given
step_behind [] line = after_first line
step_behind (first ∷ before) line = after (given_by (first ∷ before)) line

-- where a fault is: the line's number, counted from 1
pub record Fault : Type 0 where
  pub line : ℕ
  pub fault : LineFault

abbrev pub fault_at : ℕ → LineFault → Fault
fault_at line fault = record { line = line; fault = fault }

abbrev pub fault_or : ℕ → Step Given → Option Fault → Option Fault
fault_or number (Ok next) later = later
fault_or number (Err fault) later = Some (fault_at number fault)

-- the first faulty line of those that follow these lines
abbrev pub first_fault_behind : List (List ℕ) → List (List ℕ) → Option Fault
first_fault_behind before [] = None
first_fault_behind before (line ∷ lines) =
    fault_or (length before + 1) (step_behind before line)
    (first_fault_behind (before ++ line ∷ []) lines)

-- ---- the whole file

unfoldable pub finished : Given → Step MetricsValue
finished given = step_map (λ needs. metrics_with needs given) (needed given)

abbrev pub numbered : ℕ → Step MetricsValue → Result MetricsValue Fault
numbered number (Ok metrics) = Ok metrics
numbered number (Err fault) = Err (fault_at number fault)

-- the first faulty line, else what all lines give; what lacks is a fault of the line after the last
abbrev pub metrics_or : Option Fault → List (List ℕ) → Result MetricsValue Fault
metrics_or (Some fault) lines = Err fault
metrics_or None lines = numbered (length lines + 1) (finished (given_by lines))

-- what a metrics file says
unfoldable pub metrics_of : List ℕ → Result MetricsValue Fault
metrics_of bytes = metrics_or (first_fault_behind [] (lines_of bytes)) (lines_of bytes)
