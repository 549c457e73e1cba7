-- The one form of the tables by glyph of a metrics file.
use Rattle.std.specs.Prelude.{ℕ, List}
use Rattle.font_metrics.specs.declared.fault.LineFault.{LineFault}
use Rattle.font_metrics.specs.declared.table.Tables.{Tables}
use Rattle.font_metrics.specs.Faults.{Step}
use Rattle.font_metrics.specs.Metrics.{NamedGlyph, ByGlyph}

-- the words of a line
abbrev pub Words : Type 0
Words = List (List ℕ)

-- a table: the first version of a file that has it, how many entries a glyph may have and the fault
-- of one more, which they are where there are so many glyphs, what else is looked for in one, their
-- lines, printed behind the base glyph, and where the table stands
pub record Slot : Type 1 where
  pub Entry : Type 0
  pub since : ℕ
  pub most : ℕ
  pub full : LineFault
  pub Is : ℕ → Entry → Type 0
  pub check : Entry → Step (Unit {0})
  pub keyword : List ℕ
  pub fields : List NamedGlyph → Entry → Words
  pub at : Tables → ByGlyph Entry
  pub put : Tables → ByGlyph Entry → Tables
