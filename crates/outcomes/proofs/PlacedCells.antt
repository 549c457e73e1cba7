-- The row of a table's cells, by what stretches it.
use Rattle.std.proofs.Common.{◌≡◌, ◌∙◌, refl, sym, ap, subst, arith, ℕ, ◌≤◌, List, [], ◌∷◌, length, All, ℤ}
use Rattle.std.proofs.lemmas.List.{length-map}
use Rattle.fixed_units.specs.Boxes.{farthest}
use Rattle.fixed_units.specs.Numbers.{IsWithin}
use Rattle.fixed_units.specs.declared.boxes.MathBox.{MathBox}
use Rattle.math_tables.specs.Placing.{row_of_cells_of, row_of_slots_of, table_width_of}
use Rattle.row_stretch.specs.declared.parts.Row.{Row}
use Rattle.layout_model.specs.Elements.{Element, frames_of}
use Rattle.layout_model.specs.Equations.{cells_in, cells_placed, widths_of}
use Rattle.layout_model.specs.Fits.{IsContext, IsStretch}
use Rattle.layout_model.specs.declared.context.Context.{Context}
use Rattle.layout_model.specs.declared.context.Stretch.{Stretch}
use Rattle.layout_model.specs.declared.context.Stretch.TheVariants.{Columns, Slots}
use Rattle.layout_model.specs.declared.outcome.Answer.{Answer}
use Rattle.outcomes.proofs.CellBounds.{width_of}

abbrev frame_of : Answer → MathBox
frame_of answer = answer.frame

pub few_cells : (e : Element) (cells : List MathBox) (count : ℕ) → cells ≡ frames_of e → count ≡ length e.kids → count ≤ 65535 → length cells ≤ 65536
few_cells e cells count are each few = omega (arith, ap length are, length-map e.kids frame_of, each, few)

pub few_widths : (e : Element) (widths : List ℤ) (count : ℕ) → widths ≡ widths_of e → count ≡ length e.kids → count ≤ 65535 → length widths ≤ 65536
few_widths e widths count are each few =
    omega (arith, ap length are, length-map (frames_of e) width_of, length-map e.kids frame_of, each, few)

no_items : (numbers : List ℤ) → length numbers ≡ 0 → numbers ≡ []
no_items [] e = refl
no_items (number ∷ numbers) e = absurd (omega (arith, e))

module _ (e : Element) (context : Context) (same : context ≡ e.context) (numbers told : List ℤ) (told_is : told ≡ numbers) where
  stretched : (stretch : Stretch) → context.stretch ≡ stretch → e.context.stretch ≡ stretch
  stretched stretch is = ap (λ (x : Context). x.stretch) (sym same) ∙ is

  -- columns behind the width of all of them
  pub columns_in : (total : ℤ) (columns : List ℤ) → IsContext e.context → context.stretch ≡ Columns numbers → told ≡ total ∷ columns
      → All (IsWithin farthest) columns
  columns_in total columns fits is split = subst IsStretch (stretched _ is ∙ ap Columns (sym told_is ∙ split)) fits.stretch

  pub in_columns_are : (total : ℤ) (columns : List ℤ) (cells : List MathBox) (row : Row) → context.stretch ≡ Columns numbers → told ≡ total ∷ columns
      → cells ≡ frames_of e → row ≡ row_of_cells_of cells columns total → row ≡ cells_placed e
  unfolding cells_placed
  in_columns_are total columns cells row is split are made =
      made
      ∙ ap (λ (l : List MathBox). row_of_cells_of l columns total) are
      ∙ ap (cells_in e) (sym (stretched _ is ∙ ap Columns (sym told_is ∙ split)))

  pub in_slots_are : (total : ℤ) (slots : List ℤ) (cells : List MathBox) (row : Row) → context.stretch ≡ Slots numbers → told ≡ total ∷ slots
      → cells ≡ frames_of e → row ≡ row_of_slots_of cells slots total → row ≡ cells_placed e
  unfolding cells_placed
  in_slots_are total slots cells row is split are made =
      made
      ∙ ap (λ (l : List MathBox). row_of_slots_of l slots total) are
      ∙ ap (cells_in e) (sym (stretched _ is ∙ ap Slots (sym told_is ∙ split)))

  alone_in : (stretch : Stretch) (cells : List MathBox) (widths : List ℤ) (row : Row) → e.context.stretch ≡ stretch
      → cells_in e stretch ≡ row_of_cells_of (frames_of e) (widths_of e) (table_width_of (widths_of e))
      → cells ≡ frames_of e → widths ≡ widths_of e → row ≡ row_of_cells_of cells widths (table_width_of widths) → row ≡ cells_placed e
  unfolding cells_placed
  alone_in stretch cells widths row is alone are widths_are made =
      made
      ∙ (λ i. row_of_cells_of (are i) (widths_are i) (table_width_of (widths_are i)))
      ∙ sym alone
      ∙ ap (cells_in e) (sym is)

  pub no_columns_are : (cells : List MathBox) (widths : List ℤ) (row : Row) → context.stretch ≡ Columns numbers → length told ≡ 0
      → cells ≡ frames_of e → widths ≡ widths_of e → row ≡ row_of_cells_of cells widths (table_width_of widths) → row ≡ cells_placed e
  no_columns_are cells widths row is none =
      alone_in (Columns []) cells widths row (stretched _ is ∙ ap Columns (sym told_is ∙ no_items told none)) refl

  pub no_slots_are : (cells : List MathBox) (widths : List ℤ) (row : Row) → context.stretch ≡ Slots numbers → length told ≡ 0
      → cells ≡ frames_of e → widths ≡ widths_of e → row ≡ row_of_cells_of cells widths (table_width_of widths) → row ≡ cells_placed e
  no_slots_are cells widths row is none =
      alone_in (Slots []) cells widths row (stretched _ is ∙ ap Slots (sym told_is ∙ no_items told none)) refl
