-- Lists of items of one size, one after another.
use Rattle.std.proofs.Common.{◌≡◌, ℕ, ℤ, ◌*◌, List, [], ◌∷◌, ◌++◌, length, ◌∙◌, arith, length-append}
use Rattle.std.proofs.Math.Nat.{suc-mul}
use Rattle.std.specs.List.{flat_map}
use Rattle.box_pool.specs.declared.cell.Cell.{Cell}
use Rattle.outcome_cells.specs.Cells.{in_cells, list_numbers}
use Rattle.outcome_cells.specs.Parts.{item_cells}
use Rattle.outcome_cells.specs.Reading.{BeginsWithList, IsFirstList}
use Rattle.outcome_cells.proofs.Encoding.{cells-append}

-- each item has so many numbers
abbrev pub HasSize : {X : Type 0} → (X → List ℤ) → ℕ → Type 0
HasSize {X} of size = (x : X) → length (of x) ≡ size

numbers_sized : {X : Type 0} (of : X → List ℤ) (size : ℕ) → HasSize of size → (xs : List X) → length (flat_map of xs) ≡ length xs * size
numbers_sized of size sized [] = omega arith
numbers_sized of size sized (x ∷ xs) =
    length-append (of x) (flat_map of xs) ∙ omega (arith, suc-mul (length xs) size, sized x, numbers_sized of size sized xs)

pub list_begins : {X : Type 0} (of : X → List ℤ) (size : ℕ) → HasSize of size → (xs : List X) (tail : List ℤ) (cells : List Cell)
    → cells ≡ in_cells (list_numbers of xs ++ tail) → BeginsWithList size cells
list_begins of size sized xs tail cells is = record {
  count = length xs;
  numbers = flat_map of xs;
  rest = in_cells tail;
  length_is = numbers_sized of size sized xs;
  cells_are = is ∙ cells-append (list_numbers of xs) tail;
}

pub list_read : {X : Type 0} (of : X → List ℤ) (size : ℕ) → HasSize of size → (xs : List X) (tail : List ℤ) (cells read left : List Cell)
    → IsFirstList size cells read left → cells ≡ in_cells (list_numbers of xs ++ tail) → (read ≡ item_cells of xs) × (left ≡ in_cells tail)
list_read of size sized xs tail cells read left first is =
    first (length xs) (flat_map of xs) (in_cells tail) (numbers_sized of size sized xs) (is ∙ cells-append (list_numbers of xs) tail)
