-- What a metrics file says, looked back at: each line with all that the lines before it say.
use Rattle.std.specs.Prelude.{◌≡◌, ℕ, ◌+◌, ℤ, Bool, true, false, nat_eq, nat_le, not, if◌then◌else◌, List, [], ◌∷◌, ◌++◌, length, flat_map, codes, Option, Some, None, is_some, Ok, Err, ◌⊎◌}
use Rattle.std.specs.Map.{lookup}
use Rattle.op_dictionary.specs.declared.extra.OperatorLine.{OperatorLine}
use Rattle.op_dictionary.specs.declared.operator.Axis.{Axis}
use Rattle.op_dictionary.specs.declared.operator.Axis.TheVariants.{Block, Inline}
use Rattle.op_dictionary.specs.Dictionary.{is_named}
use Rattle.font_metrics.specs.declared.constants.ConstName.{ConstName}
use Rattle.font_metrics.specs.declared.corner.Corner.{Corner}
use Rattle.font_metrics.specs.declared.corner.Corner.TheVariants.{TopRight, TopLeft, BottomRight, BottomLeft}
use Rattle.font_metrics.specs.declared.fault.LineFault.{LineFault}
use Rattle.font_metrics.specs.declared.fault.LineFault.TheVariants.{ForeignByte, Repeated, TooMany, NoUpem, NoLine, NoXHeight, NoMissing}
use Rattle.font_metrics.specs.declared.table.Table.{Table}
use Rattle.font_metrics.specs.declared.table.Table.TheVariants.{Variants, Parts, Kerns}
use Rattle.font_metrics.specs.Constants.{place_of_constant, place_of_text}
use Rattle.font_metrics.specs.Faults.{Step, ◌>>=◌, fault_if}
use Rattle.font_metrics.specs.Slot.{Words}
use Rattle.metrics_file.specs.Lines.{Item, SaysUpem, SaysLine, SaysXHeight, SaysOverlap, SaysConstant, SaysGlyph, SaysCharacter, SaysEntry, SaysOperator, keyword_of, known_in, item_in}
use Rattle.font_metrics.specs.Metrics.{NamedGlyph, MetricsValue, place_of_name, place_of_code, items_of}
use Rattle.font_metrics.specs.Texts.{constant_text}
use Rattle.metrics_file.specs.Reading.{Fault, is_foreign, is_comment, first_in, words_of, lines_of, metrics_of}
use Rattle.font_metrics.specs.Tables.{slot, EntryOf, entries}
use Rattle.font_metrics.specs.Taken.{IsTaken, most_glyphs}

-- ---- what items say of one matter, in file order

abbrev pub upem_said : Item → List ℕ
upem_said (SaysUpem n) = n ∷ []
upem_said item = []

abbrev pub line_said : Item → List (ℕ × ℕ)
line_said (SaysLine n) = n ∷ []
line_said item = []

abbrev pub x_height_said : Item → List ℕ
x_height_said (SaysXHeight n) = n ∷ []
x_height_said item = []

abbrev pub overlap_said : Item → List ℕ
overlap_said (SaysOverlap n) = n ∷ []
overlap_said item = []

abbrev pub one_if : {X : Type 0} → Bool → X → List X
one_if true x = x ∷ []
one_if false x = []

-- the values of the constant at a place
abbrev pub constant_said : ℕ → Item → List ℤ
constant_said place (SaysConstant c) = one_if (nat_eq place c.0) c.1
constant_said place item = []

abbrev pub glyph_said : Item → List NamedGlyph
glyph_said (SaysGlyph g) = g ∷ []
glyph_said item = []

-- the glyphs of a character
abbrev pub character_said : ℕ → Item → List ℕ
character_said code (SaysCharacter c) = one_if (nat_eq code c.0) c.1
character_said code item = []

abbrev pub same_axis : Axis → Axis → Bool
same_axis Block Block = true
same_axis Inline Inline = true
same_axis _ _ = false

abbrev pub same_corner : Corner → Corner → Bool
same_corner TopRight TopRight = true
same_corner TopLeft TopLeft = true
same_corner BottomRight BottomRight = true
same_corner BottomLeft BottomLeft = true
same_corner _ _ = false

-- entries of another table aren't this one's
abbrev pub of_table : (t other : Table) → List (EntryOf other) → List (EntryOf t)
of_table (Variants axis) (Variants other) xs = if same_axis axis other then xs else []
of_table (Parts axis) (Parts other) xs = if same_axis axis other then xs else []
of_table (Kerns corner) (Kerns other) xs = if same_corner corner other then xs else []
of_table t other xs = []

-- the entries of the glyph at a place in a table
abbrev pub entry_said : (t : Table) → ℕ → Item → List (EntryOf t)
entry_said t place (SaysEntry other x) = of_table t other (one_if (nat_eq place x.0) x.1)
entry_said t place item = []

abbrev pub operator_said : Item → List OperatorLine
operator_said (SaysOperator line) = line ∷ []
operator_said item = []

-- all that items say of a matter
abbrev pub said : {X : Type 0} → (Item → List X) → List Item → List X
said matter items = flat_map matter items

-- ---- what is wrong with a line, by what the lines before it say

abbrev pub is_said : {X : Type 0} → List X → Bool
is_said [] = false
is_said (x ∷ xs) = true

-- an item behind others: what one of them gives already, what is one too many, and what else is
-- wrong with it
abbrev pub allowed_behind : List Item → Item → Step (Unit {0})
allowed_behind before (SaysUpem n) = fault_if (is_said (said upem_said before)) Repeated
allowed_behind before (SaysLine n) = fault_if (is_said (said line_said before)) Repeated
allowed_behind before (SaysXHeight n) = fault_if (is_said (said x_height_said before)) Repeated
allowed_behind before (SaysOverlap n) = fault_if (is_said (said overlap_said before)) Repeated
allowed_behind before (SaysConstant c) = fault_if (is_said (said (constant_said c.0) before))
    Repeated
allowed_behind before (SaysGlyph g) = do
  new ← fault_if (is_some (place_of_name (said glyph_said before) g.name)) Repeated
  fault_if (nat_le most_glyphs (length (said glyph_said before))) TooMany
allowed_behind before (SaysCharacter c) = fault_if (is_said (said (character_said c.0) before))
    Repeated
allowed_behind before (SaysEntry t x) = do
  free ← fault_if (nat_le (slot t).most (length (said (entry_said t x.0) before))) (slot t).full
  (slot t).check x.1
allowed_behind before (SaysOperator line) =
    fault_if (is_named (said operator_said before) line.text line.form) Repeated

-- what words say behind these items in a file of a version, or the first fault: a name is that of a
-- glyph said before
abbrev pub words_say : ℕ → List Item → Words → Step (List Item)
words_say version before [] = Ok []
words_say version before (word ∷ fields) = do
  item ← item_in (said glyph_said before) (known_in version (keyword_of word)) fields
  free ← allowed_behind before item
  Ok (item ∷ [])

-- what a line says, or its first fault: a comment says nothing
abbrev pub line_says : ℕ → List Item → List ℕ → Step (List Item)
line_says version before line = do
  plain ← fault_if (is_foreign line) ForeignByte
  if is_comment line then Ok [] else words_say version before (words_of line)

-- ---- lines without a fault

-- these lines, one behind the other, have no fault, and take what is said to this
abbrev pub Say : ℕ → List Item → List (List ℕ) → List Item → Type 0
Say version before [] items = before ≡ items
Say version before (line ∷ lines) items =
    (more : List Item) × (line_says version before line ≡ Ok more)
    × Say version (before ++ more) lines items

-- the same, from the first line on, which names the version
abbrev pub SayAll : ℕ → List (List ℕ) → List Item → Type 0
SayAll version [] items = items ≡ []
SayAll version (first ∷ lines) items = (first_in first ≡ Ok version) × Say version [] lines items

abbrev pub listed : {X : Type 0} → Option X → List X
listed None = []
listed (Some x) = x ∷ []

-- metrics are what items say: what is given once is said once
pub record AreSaid (items : List Item) (m : MetricsValue) : Type 0 where
  pub upem : m.upem ∷ [] ≡ said upem_said items
  pub line : (m.line_ascent, m.line_descent) ∷ [] ≡ said line_said items
  pub x_height : m.x_height ∷ [] ≡ said x_height_said items
  pub overlap : listed m.overlap ≡ said overlap_said items
  pub constants : (place : ℕ)
      → listed (lookup (nat_eq place) m.constants) ≡ said (constant_said place) items
  pub glyphs : m.glyphs ≡ said glyph_said items
  pub characters : (code : ℕ)
      → listed (place_of_code m.characters code) ≡ said (character_said code) items
  pub tables : (t : Table) (place : ℕ)
      → items_of (entries t m.tables) place ≡ said (entry_said t place) items
  pub operators : m.operators ≡ said operator_said items

-- a file that gives metrics has no faulty line, and they are what its lines say
abbrev pub MetricsLaw : Type 0
MetricsLaw = (bytes : List ℕ) (m : MetricsValue) → metrics_of bytes ≡ Ok m
    → (items : List Item) × SayAll m.version (lines_of bytes) items × AreSaid items m

-- ---- the fault of a file

-- the fault of a line behind others
abbrev pub IsFaultBehind : ℕ → List (List ℕ) → List Item → List ℕ → LineFault → Type 0
IsFaultBehind version [] items line fault = first_in line ≡ Err fault
IsFaultBehind version (first ∷ before) items line fault = line_says version items line ≡ Err fault

-- a faulty line before which no line is faulty
pub record IsFirstFault (lines : List (List ℕ)) (f : Fault) : Type 0 where
  pub version : ℕ
  pub before : List (List ℕ)
  pub line : List ℕ
  pub after : List (List ℕ)
  pub items : List Item
  pub cut : lines ≡ before ++ line ∷ after
  pub faultless : SayAll version before items
  pub fault : IsFaultBehind version before items line f.fault
  pub number : f.line ≡ length before + 1

-- what a file has to say and doesn't, in this order
abbrev pub lacking : List Item → Step (Unit {0})
lacking items = do
  upem ← fault_if (not (is_said (said upem_said items))) NoUpem
  line ← fault_if (not (is_said (said line_said items))) NoLine
  x_height ← fault_if (not (is_said (said x_height_said items))) NoXHeight
  fault_if (not (is_some (place_of_name (said glyph_said items) (codes "missing")))) NoMissing

-- no line is faulty, and the file ends without something
pub record EndsWithout (lines : List (List ℕ)) (f : Fault) : Type 0 where
  pub version : ℕ
  pub items : List Item
  pub faultless : SayAll version lines items
  pub fault : lacking items ≡ Err f.fault
  pub number : f.line ≡ length lines + 1

abbrev pub FaultLaw : Type 0
FaultLaw = (bytes : List ℕ) (f : Fault) → metrics_of bytes ≡ Err f
    → IsFirstFault (lines_of bytes) f ⊎ EndsWithout (lines_of bytes) f

-- ---- what any file gives

abbrev pub TakenLaw : Type 0
TakenLaw = (bytes : List ℕ) (m : MetricsValue) → metrics_of bytes ≡ Ok m → IsTaken m

-- a constant's own name is read as its place
abbrev pub ConstantLaw : Type 0
ConstantLaw = (name : ConstName)
    → place_of_text (constant_text (place_of_constant name)) ≡ Some (place_of_constant name)
