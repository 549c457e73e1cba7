-- Items that are read from lent cells, one after another, and what is placed of them.
use Rattle.std.proofs.Common.{◌≡◌, ◌∙◌, sym, ap, subst, ℕ, ◌+◌, ◌<◌, ◌≤◌, Bool, true, ℤ, ◌+ℤ◌, List, [], ◌∷◌, ◌++◌, append_assoc, length, map, drop, get_or, rules}
use Rattle.std.specs.List.{All, list_all}
use Rattle.std.proofs.lemmas.Bool.{and_parts}
use Rattle.std.proofs.lemmas.List.{drop_all, drop_more, map-append}
use Rattle.std.proofs.lemmas.List.Elements.{All-cons, All-head, All-nil, All-tail}
use Rattle.font_metrics.specs.declared.mark.Mark.{Mark}
use Rattle.box_pool.specs.declared.cell.Cell.{Cell}
use Rattle.layout_model.specs.Range.{mark_fits, offset_fits}
use Rattle.layout_model.specs.declared.laid.Laid.{Laid}
use Rattle.layout_model.specs.declared.laid.Laid.TheViews.{out-Laid}
use Rattle.layout_model.specs.declared.outcome.Offset.{Offset}
use Rattle.outcome_cells.specs.Cells.{IsMarkHeld, IsOffsetHeld, mark_numbers, offset_numbers}
use Rattle.outcome_cells.specs.Parts.{AreItems, item_cells}
use Rattle.outcome_cells.specs.Reading.{BeginsWith, IsFirst}
use Rattle.outcome_cells.proofs.Left.{Left, left_begins, left_end, left_next, left_smaller, left_start, marks_have_some}
use Rattle.box_writer.specs.Items.{moved}
use Rattle.box_writer.specs.declared.placed.PlacedItem.{PlacedItem}
use Rattle.box_writer.specs.declared.placed.PlacedItem.TheVariants.{Drawn}
use Rattle.placement.specs.Placing.{kids_at, marks_at, placed}
use Rattle.placement.proofs.Near.{IsMarkWithin, IsOffsetWithin, mark_fits_within, offset_within}
use Rattle.placement.proofs.Showing.{nothing_more, without_kids, without_offsets}

-- ---- items that fields can hold, and whose numbers fit

abbrev pub IsStored : {X : Type 0} → (X → Type 0) → (X → Bool) → X → Type 0
IsStored Held fits x = Held x × (fits x ≡ true)

pub all_stored : {X : Type 0} (Held : X → Type 0) (fits : X → Bool) (xs : List X) → All Held xs → list_all fits xs ≡ true → All (IsStored Held fits) xs
all_stored Held fits [] held e = All-nil (IsStored Held fits)
all_stored Held fits (x ∷ xs) held e =
    let parts = and_parts (fits x) (list_all fits xs) e in
    All-cons (IsStored Held fits) x xs (All-head Held x xs held, parts.0) (all_stored Held fits xs (All-tail Held x xs held) parts.1)

module _ {X : Type 0} (of : X → List ℤ) (Held : X → Type 0) (fits : X → Bool) (cells : List Cell) where
  pub held_begins : BeginsWith of (IsStored Held fits) cells → BeginsWith of Held cells
  held_begins begins = record { value = begins.value; rest = begins.rest; fits = begins.fits.0; cells_are = begins.cells_are }

  -- the item that is read first is such a one
  pub first_fits : BeginsWith of (IsStored Held fits) cells → (x : X) (after : List Cell) → IsFirst of cells x after → fits x ≡ true
  first_fits begins x after first = ap fits (first begins.value begins.rest begins.cells_are).0 ∙ begins.fits.1

-- ---- marks

abbrev pub IsMark : Mark → Type 0
IsMark = IsStored IsMarkHeld mark_fits

-- of some cells these marks are read and placed
pub record MarksPlaced (x y : ℤ) (cells rest : List Cell) (before items : List PlacedItem) : Type 0 where
  pub done : List Mark
  pub left : Left mark_numbers IsMark cells done rest
  pub shown : items ≡ before ++ marks_at x y done

pub no_mark : (x y : ℤ) (cells : List Cell) (items : List PlacedItem) → AreItems mark_numbers IsMark cells → MarksPlaced x y cells cells items items
no_mark x y cells items all = record { done = []; left = left_start mark_numbers IsMark cells all; shown = nothing_more items }

module _ (x y : ℤ) (cells rest : List Cell) (before items : List PlacedItem) (h : MarksPlaced x y cells rest before items) where
  begins : 0 < length rest → BeginsWith mark_numbers IsMark rest
  begins some = left_begins mark_numbers IsMark cells h.done rest h.left some

  pub mark_begins : 0 < length rest → BeginsWith mark_numbers IsMarkHeld rest
  mark_begins some = held_begins mark_numbers IsMarkHeld mark_fits rest (begins some)

  module _ (some : 0 < length rest) (mark : Mark) (after : List Cell) (first : IsFirst mark_numbers rest mark after) where
    pub mark_within : IsMarkWithin mark
    mark_within = mark_fits_within mark (first_fits mark_numbers IsMarkHeld mark_fits rest (begins some) mark after first)

    pub marks_smaller : length after < length rest
    marks_smaller = left_smaller mark_numbers IsMark marks_have_some rest mark after (begins some) first

    pub mark_more : (new : List PlacedItem) → new ≡ items ++ Drawn (moved x y mark) ∷ [] → MarksPlaced x y cells after before new
    mark_more new is = record {
      done = h.done ++ mark ∷ [];
      left = left_next mark_numbers IsMark cells h.done rest mark after h.left some first;
      shown =
          is ∙ ap (λ (front : List PlacedItem). front ++ Drawn (moved x y mark) ∷ []) h.shown
          ∙ append_assoc before (marks_at x y h.done) (Drawn (moved x y mark) ∷ [])
          ∙ ap (λ (back : List PlacedItem). before ++ back) (sym (map-append (λ (k : Mark). Drawn (moved x y k)) h.done (mark ∷ [])));
    }

  pub marks_all : length rest ≡ 0 → (marks : List Mark) → cells ≡ item_cells mark_numbers marks → items ≡ before ++ marks_at x y marks
  marks_all none marks is =
      h.shown ∙ ap (λ (done : List Mark). before ++ marks_at x y done) (left_end mark_numbers IsMark marks_have_some cells h.done rest h.left none marks is)

-- ---- children, each at the offset that is read

abbrev pub IsOffset : Offset → Type 0
IsOffset = IsStored IsOffsetHeld offset_fits

-- what the children show
abbrev pub kids_shown : ℤ → ℤ → Laid → List PlacedItem
kids_shown x y l = kids_at x y (out-Laid l).outcome.offsets (map placed (out-Laid l).kids)

-- what the children from a place on show, at the offsets in the cells that are left, completes what there is
pub record KidsPlaced (x y : ℤ) (l : Laid) (before : List PlacedItem) (rest : List Cell) (kids : List Laid) (i : ℕ) (items : List PlacedItem) : Type 0 where
  pub offsets : AreItems offset_numbers IsOffset rest
  pub shown : items ++ kids_at x y offsets.items (map placed (drop i kids)) ≡ before ++ kids_shown x y l

-- some items are the one that is read first and others, whose cells come after it
record OneRead {X : Type 0} (of : X → List ℤ) (Fits : X → Type 0) (items : List X) (x : X) (after : List Cell) : Type 0 where
  rest : AreItems of Fits after
  items_are : items ≡ x ∷ rest.items

one_read : {X : Type 0} (of : X → List ℤ) (Fits : X → Type 0) (cells : List Cell) (x : X) (after : List Cell) (all : AreItems of Fits cells) → 0 < length cells → IsFirst of cells x after
    → OneRead of Fits all.items x after
one_read of Fits cells x after all some first =
    let next = left_next of Fits cells [] cells x after (left_start of Fits cells all) some first in
    let so_far = next.so_far all.items all.cells_are in
    record {
      rest = record { items = so_far.0; fits = All-tail Fits x so_far.0 (subst (All Fits) so_far.1 all.fits); cells_are = so_far.2 };
      items_are = so_far.1;
    }

module _ (x y : ℤ) (l : Laid) (before : List PlacedItem) (rest : List Cell) (kids : List Laid) (i : ℕ) (items : List PlacedItem) (h : KidsPlaced x y l before rest kids i items) where
  start : Left offset_numbers IsOffset rest [] rest
  start = left_start offset_numbers IsOffset rest h.offsets

  offsets_begin : 0 < length rest → BeginsWith offset_numbers IsOffset rest
  offsets_begin some = left_begins offset_numbers IsOffset rest [] rest start some

  pub offset_begins : 0 < length rest → BeginsWith offset_numbers IsOffsetHeld rest
  offset_begins some = held_begins offset_numbers IsOffsetHeld offset_fits rest (offsets_begin some)

  module _ (some : 0 < length rest) (offset : Offset) (after : List Cell) (first : IsFirst offset_numbers rest offset after) where
    pub offset_read : IsOffsetWithin offset
    offset_read = offset_within offset (first_fits offset_numbers IsOffsetHeld offset_fits rest (offsets_begin some) offset after first)

    pub kid_more : (kid : Laid) (new : List PlacedItem) → i < length kids → kid ≡ get_or kids i kid → new ≡ items ++ placed kid (x +ℤ offset.x) (y +ℤ offset.y)
        → KidsPlaced x y l before after kids (i + 1) new
    kid_more kid new within is added =
        let one = one_read offset_numbers IsOffset rest offset after h.offsets some first in
        let here = placed kid (x +ℤ offset.x) (y +ℤ offset.y) in
        let others = kids_at x y one.rest.items (map placed (drop (i + 1) kids)) in
        let next : kids_at x y h.offsets.items (map placed (drop i kids)) ≡ here ++ others =
        ap (λ (some : List Offset). kids_at x y some (map placed (drop i kids))) one.items_are
        ∙ ap (λ (some : List Laid). kids_at x y (offset ∷ one.rest.items) (map placed some)) (drop_more kids i kid within ∙ ap (λ (k : Laid). k ∷ drop (i + 1) kids) (sym is)) in
        record {
          offsets = one.rest;
          shown = ap (λ (front : List PlacedItem). front ++ others) added ∙ append_assoc items here others ∙ ap (λ (back : List PlacedItem). items ++ back) (sym next) ∙ h.shown;
        }

  -- no offset is left, or no child
  pub no_offset_left : length rest ≡ 0 → items ≡ before ++ kids_shown x y l
  no_offset_left none =
      let empty = left_end offset_numbers IsOffset (λ o. search rules) rest [] rest start none h.offsets.items h.offsets.cells_are in
      nothing_more items ∙ ap (λ (back : List PlacedItem). items ++ back)
      (sym (without_offsets x y (map placed (drop i kids))) ∙ ap (λ (some : List Offset). kids_at x y some (map placed (drop i kids))) empty) ∙ h.shown

  pub no_kid_left : length kids ≤ i → items ≡ before ++ kids_shown x y l
  no_kid_left none =
      nothing_more items ∙ ap (λ (back : List PlacedItem). items ++ back)
      (sym (without_kids x y h.offsets.items) ∙ ap (λ (some : List Laid). kids_at x y h.offsets.items (map placed some)) (sym (drop_all i kids none))) ∙ h.shown
