-- Items that are put one after another.
use Rattle.std.proofs.Common.{◌≡◌, ℕ, ℤ, pos, ◌+◌, ◌<◌, List, [], ◌∷◌, ◌++◌, length, take, get_or, sym, ap, ◌∙◌, append_assoc, arith}
use Rattle.std.specs.List.{flat_map}
use Rattle.std.proofs.lemmas.List.{map-append, take_all, take_more, flat_map_more}
use Rattle.box_pool.specs.declared.cell.Cell.{Cell}
use Rattle.layout_model.specs.declared.outcome.Outcome.{Outcome}
use Rattle.outcome_cells.specs.Cells.{frame_numbers, in_cells, list_numbers, mark_numbers, offset_numbers, outcome_cells, own_number, span_numbers}

-- the cells of numbers one after others
pub cells-append : (first more : List ℤ) → in_cells (first ++ more) ≡ in_cells first ++ in_cells more
cells-append first more = map-append _ first more

-- what was put so far, and one item more
pub cells_more : {X : Type 0} (of : X → List ℤ) (xs : List X) (i : ℕ) (d : X) (old now new : List Cell) → i < length xs
    → now ≡ old ++ in_cells (flat_map of (take i xs)) → new ≡ now ++ in_cells (of (get_or xs i d))
    → new ≡ old ++ in_cells (flat_map of (take (i + 1) xs))
cells_more of xs i d old now new below so_far added =
    let items = take i xs in
    let x = get_or xs i d in
    let more : flat_map of items ++ of x ≡ flat_map of (take (i + 1) xs) = flat_map_more of [] items x ∙ ap (flat_map of) (sym (take_more xs i d below)) in
    added ∙ ap (λ (cells : List Cell). cells ++ in_cells (of x)) so_far ∙ append_assoc old (in_cells (flat_map of items)) (in_cells (of x))
    ∙ ap (λ (cells : List Cell). old ++ cells) (sym (cells-append (flat_map of items) (of x)) ∙ ap in_cells more)

-- all items of a list, behind their count
pub list_put : {X : Type 0} (of : X → List ℤ) (xs : List X) (old counted new : List Cell)
    → counted ≡ old ++ in_cells (pos (length xs) ∷ []) → new ≡ counted ++ in_cells (flat_map of (take (length xs) xs))
    → new ≡ old ++ in_cells (list_numbers of xs)
list_put of xs old counted new count all =
    all ∙ ap (λ (cells : List Cell). cells ++ in_cells (flat_map of (take (length xs) xs))) count
    ∙ append_assoc old (in_cells (pos (length xs) ∷ [])) (in_cells (flat_map of (take (length xs) xs)))
    ∙ ap (λ (items : List _). old ++ in_cells (pos (length xs) ∷ flat_map of items)) (take_all (length xs) xs (omega arith))

-- the same, of a list that is said in other words
pub put_is : {X : Type 0} (of : X → List ℤ) (xs said : List X) (old new : List Cell) → new ≡ old ++ in_cells (list_numbers of said) → said ≡ xs
    → new ≡ old ++ in_cells (list_numbers of xs)
put_is of xs said old new put same = put ∙ ap (λ (items : List _). old ++ in_cells (list_numbers of items)) same

-- six pieces that are put one after another
pub all_put : (old a b c d e f frame spaces cells spans offsets marks : List Cell)
    → a ≡ old ++ frame → b ≡ a ++ spaces → c ≡ b ++ cells → d ≡ c ++ spans → e ≡ d ++ offsets → f ≡ e ++ marks
    → f ≡ old ++ (frame ++ (spaces ++ (cells ++ (spans ++ (offsets ++ marks)))))
all_put old a b c d e f frame spaces cells spans offsets marks one two three four five six =
    let upto_spaces : b ≡ (old ++ frame) ++ spaces = two ∙ ap (λ (z : List Cell). z ++ spaces) one in
    let upto_cells : c ≡ ((old ++ frame) ++ spaces) ++ cells = three ∙ ap (λ (z : List Cell). z ++ cells) upto_spaces in
    let upto_spans : d ≡ (((old ++ frame) ++ spaces) ++ cells) ++ spans = four ∙ ap (λ (z : List Cell). z ++ spans) upto_cells in
    let upto_offsets : e ≡ ((((old ++ frame) ++ spaces) ++ cells) ++ spans) ++ offsets = five ∙ ap (λ (z : List Cell). z ++ offsets) upto_spans in
    six ∙ ap (λ (z : List Cell). z ++ marks) upto_offsets ∙ simp append_assoc

-- the cells of an outcome are such pieces
pub pieces_of : (o : Outcome) → in_cells (frame_numbers o.answer.frame) ++ (in_cells (o.answer.before ∷ o.answer.after ∷ [])
    ++ (in_cells (list_numbers own_number o.answer.cells) ++ (in_cells (list_numbers span_numbers o.answer.spans)
    ++ (in_cells (list_numbers offset_numbers o.offsets) ++ in_cells (list_numbers mark_numbers o.marks))))) ≡ outcome_cells o
pieces_of o =
    let cells = list_numbers own_number o.answer.cells in
    let spans = list_numbers span_numbers o.answer.spans in
    let offsets = list_numbers offset_numbers o.offsets in
    let marks = list_numbers mark_numbers o.marks in
    let head : List Cell → List Cell = λ rest. in_cells (frame_numbers o.answer.frame) ++ (in_cells (o.answer.before ∷ o.answer.after ∷ []) ++ rest) in
    let drawn : in_cells spans ++ (in_cells offsets ++ in_cells marks) ≡ in_cells (spans ++ (offsets ++ marks)) =
    ap (λ (z : List Cell). in_cells spans ++ z) (sym (cells-append offsets marks)) ∙ sym (cells-append spans (offsets ++ marks)) in
    ap (λ (z : List Cell). head (in_cells cells ++ z)) drawn ∙ ap head (sym (cells-append cells (spans ++ (offsets ++ marks))))
