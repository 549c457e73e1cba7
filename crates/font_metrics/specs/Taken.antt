-- What holds of all metrics that a file gives.
use Rattle.std.specs.Prelude.{◌≡◌, ◌<◌, ◌≤◌, [], length, codes, IfSome, IsSome}
use Rattle.std.specs.List.{All, IsDistinct}
use Rattle.std.specs.List.Sorted.{IsStrictlySortedBy}
use Rattle.std.specs.Map.{keys_of}
use Rattle.std.specs.Ordering.{nat_cmp}
use Rattle.std.specs.Str.{bytes_eq}
use Rattle.op_dictionary.specs.Dictionary.{AreDistinct}
use Rattle.font_metrics.specs.Metrics.{MetricsValue, place_of_name}
use Rattle.font_metrics.specs.declared.table.Table.{Table}
use Rattle.font_metrics.specs.Tables.{AreFilled, slot, entries}
pub use Rattle.font_metrics.specs.Ranges.{most_glyphs, most_variants, most_parts, IsVersion, IsLength, IsReach, IsInDesign, IsMeasured, IsGlyph, IsConstant, IsCharacter, IsVariant, IsPart, IsKern, IsKernStep, IsEntry, IsTable, IsOperatorText, names_of}

-- Every number is in its range, every place is that of a glyph, what may be given once is, and no
-- table has entries that a later version of a file gave it.
pub record IsTaken (m : MetricsValue) : Type 0 where
  pub version : IsVersion m.version
  pub upem_low : 16 ≤ m.upem
  pub upem_high : m.upem ≤ 16384
  pub line_ascent : m.line_ascent ≤ 65535
  pub line_descent : m.line_descent ≤ 65535
  pub x_height : m.x_height ≤ 65535
  pub overlap : IfSome m.overlap (λ n. n ≤ 65535)
  pub constants : All IsConstant m.constants
  pub constants_ordered : IsStrictlySortedBy nat_cmp (keys_of m.constants)
  pub count : length m.glyphs ≤ most_glyphs
  pub glyphs : All IsGlyph m.glyphs
  pub names : IsDistinct bytes_eq (names_of m.glyphs)
  pub missing : IsSome (place_of_name m.glyphs (codes "missing"))
  pub characters : All (IsCharacter (length m.glyphs)) m.characters
  pub characters_ordered : IsStrictlySortedBy nat_cmp (keys_of m.characters)
  pub tables : AreFilled (length m.glyphs) m.tables
  pub known : (t : Table) → m.version < (slot t).since → entries t m.tables ≡ []
  pub operators : All (λ line. IsOperatorText line.text) m.operators
  pub operators_distinct : AreDistinct m.operators
