-- A list of items that is read from cells, one after another.
use Rattle.std.proofs.Common.{◌≡◌, ℤ, ◌<◌, List, [], ◌∷◌, ◌++◌, length, refl, sym, ap, ◌∙◌, append_assoc, append-nil, arith, length-append, rules, subst}
use Rattle.std.specs.List.{All, flat_map}
use Rattle.std.proofs.lemmas.List.{length-map}
use Rattle.std.proofs.lemmas.List.Elements.{All-head, All-tail}
use Rattle.font_metrics.specs.declared.mark.Mark.TheVariants.{Built, Glyph, Rule}
use Rattle.box_pool.specs.declared.cell.Cell.{Cell}
use Rattle.outcome_cells.specs.Cells.{in_cells, mark_numbers}
use Rattle.outcome_cells.specs.Parts.{AreItems, AreItemsOf, item_cells}
use Rattle.outcome_cells.specs.Reading.{BeginsWith, IsFirst}
use Rattle.outcome_cells.proofs.Encoding.{cells-append}

-- each item has a number
abbrev pub HasSome : {X : Type 0} → (X → List ℤ) → Type 0
HasSome {X} of = (x : X) → 0 < length (of x)

-- of some cells these items are read, and those that are left are cells of items too; whatever items
-- the cells are of, they are the read ones and those of the cells that are left
pub record Left {X : Type 0} (of : X → List ℤ) (Fits : X → Type 0) (cells : List Cell) (done : List X) (rest : List Cell) : Type 0 where
  pub items : AreItems of Fits rest
  pub so_far : (xs : List X) → cells ≡ item_cells of xs → (left : List X) × (xs ≡ done ++ left) × (rest ≡ item_cells of left)

pub left_start : {X : Type 0} (of : X → List ℤ) (Fits : X → Type 0) (cells : List Cell) → AreItems of Fits cells → Left of Fits cells [] cells
left_start of Fits cells items = record { items = items; so_far = λ xs is. (xs, refl, is) }

one_more : {X : Type 0} (of : X → List ℤ) (x : X) (xs : List X) → item_cells of (x ∷ xs) ≡ in_cells (of x) ++ item_cells of xs
one_more of x xs = cells-append (of x) (flat_map of xs)

begins_from : {X : Type 0} (of : X → List ℤ) (Fits : X → Type 0) (xs : List X) (rest : List Cell) → All Fits xs → rest ≡ item_cells of xs → 0 < length rest → BeginsWith of Fits rest
begins_from of Fits [] rest fits is some = absurd (omega (arith, ap length is))
begins_from of Fits (x ∷ xs) rest fits is some = record {
  value = x;
  rest = item_cells of xs;
  fits = All-head Fits x xs fits;
  cells_are = is ∙ one_more of x xs;
}

pub left_begins : {X : Type 0} (of : X → List ℤ) (Fits : X → Type 0) (cells : List Cell) (done : List X) (rest : List Cell) → Left of Fits cells done rest → 0 < length rest → BeginsWith of Fits rest
left_begins of Fits cells done rest left some = begins_from of Fits left.items.items rest left.items.fits left.items.cells_are some

-- the items behind the one that was read
after_fits : {X : Type 0} (of : X → List ℤ) (Fits : X → Type 0) (xs : List X) (rest : List Cell) (x : X) (after : List Cell) → All Fits xs → rest ≡ item_cells of xs → 0 < length rest → IsFirst of rest x after → AreItems of Fits after
after_fits of Fits [] rest x after fits is some first = absurd (omega (arith, ap length is))
after_fits of Fits (y ∷ ys) rest x after fits is some first = record {
  items = ys;
  fits = All-tail Fits y ys fits;
  cells_are = (first y (item_cells of ys) (is ∙ one_more of y ys)).1;
}

after_left : {X : Type 0} (of : X → List ℤ) (left : List X) (rest : List Cell) (x : X) (after : List Cell) (xs done : List X) → xs ≡ done ++ left → rest ≡ item_cells of left → 0 < length rest → IsFirst of rest x after
    → (more : List X) × (xs ≡ (done ++ x ∷ []) ++ more) × (after ≡ item_cells of more)
after_left of [] rest x after xs done all is some first = absurd (omega (arith, ap length is))
after_left of (y ∷ ys) rest x after xs done all is some first =
    let read = first y (item_cells of ys) (is ∙ one_more of y ys) in
    (ys, all ∙ ap (λ (z : _). done ++ z ∷ ys) (sym read.0) ∙ sym (append_assoc done (x ∷ []) ys), read.1)

pub left_next : {X : Type 0} (of : X → List ℤ) (Fits : X → Type 0) (cells : List Cell) (done : List X) (rest : List Cell) (x : X) (after : List Cell) → Left of Fits cells done rest → 0 < length rest → IsFirst of rest x after
    → Left of Fits cells (done ++ x ∷ []) after
left_next of Fits cells done rest x after left some first = record {
  items = after_fits of Fits left.items.items rest x after left.items.fits left.items.cells_are some first;
  so_far = λ xs is.
      let so_far = left.so_far xs is in
      after_left of so_far.0 rest x after xs done so_far.1 so_far.2 some first;
}

none_left : {X : Type 0} (of : X → List ℤ) → HasSome of → (left : List X) → length (item_cells of left) ≡ 0 → left ≡ []
none_left of has [] none = refl
none_left of has (y ∷ ys) none =
    absurd (omega (arith, has y, none, length-map (of y ++ flat_map of ys) (λ (n : ℤ). let c : Cell = record { 0 = n } in c), length-append (of y) (flat_map of ys)))

pub left_end : {X : Type 0} (of : X → List ℤ) (Fits : X → Type 0) → HasSome of → (cells : List Cell) (done : List X) (rest : List Cell) → Left of Fits cells done rest → length rest ≡ 0 → AreItemsOf of cells done
left_end of Fits has cells done rest left none xs is =
    let so_far = left.so_far xs is in
    let empty = none_left of has so_far.0 (sym (ap length so_far.2) ∙ none) in
    sym (so_far.1 ∙ ap (λ (more : List _). done ++ more) empty ∙ append-nil done)

pub left_smaller : {X : Type 0} (of : X → List ℤ) (Fits : X → Type 0) → HasSome of → (rest : List Cell) (x : X) (after : List Cell) → BeginsWith of Fits rest → IsFirst of rest x after → length after < length rest
left_smaller of Fits has rest x after begins first =
    let read = first begins.value begins.rest begins.cells_are in
    let cells = in_cells (of begins.value) in
    omega (arith, has begins.value, ap length read.1, ap length begins.cells_are, length-append cells begins.rest, length-map (of begins.value) (λ (n : ℤ). let c : Cell = record { 0 = n } in c))

-- the same, of a list that is said in other words
pub left_is : {X : Type 0} (of : X → List ℤ) (Fits : X → Type 0) (cells : List Cell) (done said : List X) (rest : List Cell) → said ≡ done → Left of Fits cells done rest → Left of Fits cells said rest
left_is {X} of Fits cells done said rest same left =
    let Now : List X → Type 0 = λ xs. Left of Fits cells xs rest in
    subst Now (sym same) left

pub marks_have_some : HasSome mark_numbers
marks_have_some (Glyph x y size glyph) = search rules
marks_have_some (Rule x y width height) = search rules
marks_have_some (Built x y size axis glyph count overlap) = search rules
