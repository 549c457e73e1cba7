-- What holds of all that lines give, and of the metrics that are kept.
use Rattle.std.specs.Prelude.{◌≡◌, ℕ, ℤ, ◌<◌, ◌≤◌, List, [], length, codes, Option, IfSome, Ok}
use Rattle.std.specs.List.{All, IsDistinct}
use Rattle.std.specs.List.Sorted.{IsStrictlySortedBy}
use Rattle.std.specs.Map.{keys_of}
use Rattle.std.specs.Ordering.{nat_cmp}
use Rattle.std.specs.Str.{bytes_eq}
use Rattle.op_dictionary.specs.declared.extra.OperatorLine.{OperatorLine}
use Rattle.op_dictionary.specs.Dictionary.{AreDistinct}
use Rattle.font_metrics.specs.declared.fault.LineFault.TheVariants.{NoUpem, NoLine, NoXHeight, NoMissing}
use Rattle.font_metrics.specs.declared.given.Given.{Given as GivenOver}
use Rattle.font_metrics.specs.declared.given.Needed.{Needed}
use Rattle.font_metrics.specs.declared.metrics.Metrics.TheInside.{Inside}
use Rattle.font_metrics.specs.Faults.{Step, ◌>>=◌, or_fault}
use Rattle.font_metrics.specs.Metrics.{NamedGlyph, MetricsValue, place_of_name}
use Rattle.font_metrics.specs.declared.table.Table.{Table}
use Rattle.font_metrics.specs.Tables.{AreFilled, slot, entries}
use Rattle.font_metrics.specs.Taken.{IsVersion, IsGlyph, IsConstant, IsCharacter, IsOperatorText, names_of, most_glyphs}

-- what lines have given, with the glyphs in file order
abbrev pub Given : Type 0
Given = GivenOver (List NamedGlyph)

-- ---- what holds of all that lines have given: `IsTaken`, where they have given it

abbrev pub IsUpem : ℕ → Type 0
IsUpem n = (16 ≤ n) × (n ≤ 16384)

abbrev pub IsLine : ℕ × ℕ → Type 0
IsLine n = (n.0 ≤ 65535) × (n.1 ≤ 65535)

pub record AreConstants (constants : List (ℕ × ℤ)) : Type 0 where
  pub ranges : All IsConstant constants
  pub ordered : IsStrictlySortedBy nat_cmp (keys_of constants)

pub record AreGlyphs (glyphs : List NamedGlyph) : Type 0 where
  pub count : length glyphs ≤ most_glyphs
  pub ranges : All IsGlyph glyphs
  pub names : IsDistinct bytes_eq (names_of glyphs)

pub record AreCharacters (count : ℕ) (characters : List (ℕ × ℕ)) : Type 0 where
  pub ranges : All (IsCharacter count) characters
  pub ordered : IsStrictlySortedBy nat_cmp (keys_of characters)

pub record AreOperators (lines : List OperatorLine) : Type 0 where
  pub texts : All (λ line. IsOperatorText line.text) lines
  pub distinct : AreDistinct lines

pub record IsGiven (given : Given) : Type 0 where
  pub version : IsVersion given.version
  pub upem : IfSome given.upem IsUpem
  pub line : IfSome given.line IsLine
  pub x_height : IfSome given.x_height (λ n. n ≤ 65535)
  pub overlap : IfSome given.overlap (λ n. n ≤ 65535)
  pub constants : AreConstants given.constants
  pub glyphs : AreGlyphs given.glyphs
  pub characters : AreCharacters (length given.glyphs) given.characters
  pub tables : AreFilled (length given.glyphs) given.tables
  pub known : (t : Table) → given.version < (slot t).since → entries t given.tables ≡ []
  pub operators : AreOperators given.operators

-- ---- the metrics that are kept: what lines have given, and what of it had to be there

-- what a file has to give, or what it ended without
abbrev pub needed_of : Option ℕ → Option (ℕ × ℕ) → Option ℕ → Option ℕ → Step Needed
needed_of upem line x_height missing = do
  units ← or_fault NoUpem upem
  extent ← or_fault NoLine line
  height ← or_fault NoXHeight x_height
  place ← or_fault NoMissing missing
  Ok (record { upem = units; line = extent; x_height = height; missing = place })

abbrev pub needed : Given → Step Needed
needed given =
    needed_of given.upem given.line given.x_height (place_of_name given.glyphs (codes "missing"))

-- the metrics of what is given
abbrev pub metrics_with : Needed → Given → MetricsValue
metrics_with needs given = record {
  version = given.version;
  upem = needs.upem;
  line_ascent = needs.line.0;
  line_descent = needs.line.1;
  x_height = needs.x_height;
  overlap = given.overlap;
  constants = given.constants;
  glyphs = given.glyphs;
  characters = given.characters;
  tables = given.tables;
  operators = given.operators;
}

abbrev pub value_of : Inside → MetricsValue
value_of m = metrics_with m.needs m.given

pub record IsWhole (m : Inside) : Type 0 where
  pub given : IsGiven m.given
  pub needs : needed m.given ≡ Ok m.needs
