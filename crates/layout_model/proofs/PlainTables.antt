-- A table of which no row tells what a cell spans is a plain one.
use Rattle.std.proofs.Common.{◌≡◌, refl, ℕ, Bool, false, ◌||◌, cond, List, [], ◌∷◌, length, map, nat_lt, All}
use Rattle.std.proofs.lemmas.List.Elements.{All-head, All-tail}
use Rattle.fixed_units.specs.Sums.{list_to}
use Rattle.layout_model.specs.PlainTables.{PlainTablesLaw, TellsNone}
use Rattle.layout_model.specs.Tables.{cells_of_rows, columns_at, columns_over, has_spans, spanned_columns, spanned_row, stretch_at, table_columns, table_rows}
use Rattle.layout_model.specs.declared.context.Stretch.TheVariants.{Slots}
use Rattle.layout_model.specs.declared.outcome.Answer.{Answer}
use Rattle.span_tables.specs.Laws.{slots_at}

none_spans : (rows : List Answer) → All TellsNone rows → has_spans rows ≡ false
none_spans [] all = refl
none_spans (row ∷ rows) all =
    let first : row.spans ≡ [] = All-head TellsNone row rows all in
    let rest = none_spans rows (All-tail TellsNone row rows all) in
    λ i. nat_lt 0 (length (first i)) || rest i

plain_columns : (rows : List Answer) → All TellsNone rows → table_columns rows ≡ columns_over rows
unfolding table_columns
plain_columns rows all = λ i. cond (none_spans rows all i) (spanned_columns rows) (columns_over rows)

plain_rows : (rows : List Answer) → All TellsNone rows → table_rows rows ≡ map (λ row. row.frame) rows
unfolding table_rows
plain_rows rows all =
    λ i. cond (none_spans rows all i) (list_to (length rows) (spanned_row rows)) (map (λ (row : Answer). row.frame) rows)

plain_stretch : (rows : List Answer) → All TellsNone rows → (index : ℕ) → stretch_at rows index ≡ columns_at rows index
unfolding stretch_at
plain_stretch rows all index =
    λ i. cond (none_spans rows all i) (Slots (slots_at (cells_of_rows rows) index)) (columns_at rows index)

pub plain_tables : PlainTablesLaw
plain_tables rows all = (plain_columns rows all, plain_rows rows all, plain_stretch rows all)
