-- Tables in which no cell spans, as all were before cells could.
use Rattle.std.specs.Prelude.{◌≡◌, ℕ, List, [], map}
use Rattle.std.specs.List.{All}
use Rattle.layout_model.specs.Tables.{columns_at, columns_over, stretch_at, table_columns, table_rows}
use Rattle.layout_model.specs.declared.outcome.Answer.{Answer}

-- a row tells of no cell what it spans
abbrev pub TellsNone : Answer → Type 0
TellsNone row = row.spans ≡ []

-- a table of which no row tells what a cell spans is a plain one: its columns, its rows, and what
-- these are asked with
abbrev pub PlainTablesLaw : Type 0
PlainTablesLaw = (rows : List Answer) → All TellsNone rows →
    (table_columns rows ≡ columns_over rows)
    × (table_rows rows ≡ map (λ row. row.frame) rows)
    × ((index : ℕ) → stretch_at rows index ≡ columns_at rows index)
