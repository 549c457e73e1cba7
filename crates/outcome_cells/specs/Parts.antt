-- An outcome as it is read from its cells, with the cells of its lists lent.
use Rattle.std.specs.Prelude.{◌≡◌, ℤ, List}
use Rattle.std.specs.List.{All, flat_map}
use Rattle.box_pool.specs.declared.cell.Cell.{Cell}
use Rattle.layout_model.specs.declared.outcome.Outcome.{Outcome}
use Rattle.outcome_cells.specs.Cells.{in_cells, mark_numbers, offset_numbers, own_number, span_numbers}
use Rattle.outcome_cells.specs.declared.parts.Parts.{Parts}

-- the cells of the items of a list, one item after another
abbrev pub item_cells : {X : Type 0} → (X → List ℤ) → List X → List Cell
item_cells of xs = in_cells (flat_map of xs)

-- these are the cells of some items, all of which fit
pub record AreItems {X : Type 0} (of : X → List ℤ) (Fits : X → Type 0) (cells : List Cell)
    : Type 0 where
  pub items : List X
  pub fits : All Fits items
  pub cells_are : cells ≡ item_cells of items

-- these are the items whose cells they are
abbrev pub AreItemsOf : {X : Type 0} → (X → List ℤ) → List Cell → List X → Type 0
AreItemsOf {X} of cells read = (xs : List X) → cells ≡ item_cells of xs → read ≡ xs

-- the parts are those of an outcome
pub record ArePartsOf (parts : Parts) (o : Outcome) : Type 0 where
  pub frame : parts.frame ≡ o.answer.frame
  pub before : parts.before ≡ o.answer.before
  pub after : parts.after ≡ o.answer.after
  pub widths : parts.widths.now ≡ item_cells own_number o.answer.cells
  pub spans : parts.spans.now ≡ item_cells span_numbers o.answer.spans
  pub offsets : parts.offsets.now ≡ item_cells offset_numbers o.offsets
  pub marks : parts.marks.now ≡ item_cells mark_numbers o.marks
