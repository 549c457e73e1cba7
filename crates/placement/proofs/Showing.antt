-- What an element shows, from what its children show.
use Rattle.std.proofs.Common.{◌≡◌, ◌∙◌, inl, inr, refl, sym, ap, ℕ, ◌+◌, ◌<◌, ◌≤◌, min, arith, Bool, true, false, List, [], ◌∷◌, ◌++◌, append_assoc, length, map, drop, get_or, ℤ, ◌+ℤ◌}
use Rattle.std.specs.Prelude.{if◌then◌else◌}
use Rattle.std.proofs.lemmas.Bool.{cases_lt}
use Rattle.std.proofs.lemmas.List.{drop_all, drop_more}
use Rattle.layout_model.specs.declared.laid.Laid.{Laid}
use Rattle.layout_model.specs.declared.laid.Laid.TheFolds.{fold_out-Laid}
use Rattle.layout_model.specs.declared.laid.Laid.TheOpen.{Laid-F}
use Rattle.layout_model.specs.declared.laid.Laid.TheViews.{out-Laid, out-roll-Laid, roll-Laid}
use Rattle.layout_model.specs.declared.outcome.Offset.{Offset}
use Rattle.box_writer.specs.Items.{box_of}
use Rattle.box_writer.specs.declared.placed.PlacedItem.{PlacedItem}
use Rattle.placement.specs.Placing.{Shown, is_silent, kids_at, marks_at, placed, shown}

-- an element's own layer decides
abbrev pub layer_at : Laid-F Laid → Shown
layer_at layer x y =
    if is_silent layer.head.kind then []
    else box_of layer.head x y layer.outcome.answer.frame
    ∷ marks_at x y layer.outcome.marks ++ kids_at x y layer.outcome.offsets (map placed layer.kids)

abbrev pub from_layer : Laid → Shown
from_layer l x y = layer_at (out-Laid l) x y

pub placed_out : (l : Laid) (x y : ℤ) → placed l x y ≡ from_layer l x y
unfolding placed
placed_out l x y = ap (λ (s : Shown). s x y) (fold_out-Laid Shown shown l)

pub placed_made : (layer : Laid-F Laid) (x y : ℤ) → placed (roll-Laid layer) x y ≡ layer_at layer x y
placed_made layer x y = placed_out (roll-Laid layer) x y ∙ ap (λ (l : Laid-F Laid). layer_at l x y) (out-roll-Laid layer)

pub nothing_more : (items : List PlacedItem) → items ≡ items ++ []
nothing_more [] = refl
nothing_more (item ∷ items) = ap (λ (rest : List PlacedItem). item ∷ rest) (nothing_more items)

-- what is silent adds nothing
pub silent_shown : (l : Laid) (x y : ℤ) (items : List PlacedItem) → is_silent (out-Laid l).head.kind ≡ true → items ≡ items ++ placed l x y
silent_shown l x y items e =
    nothing_more items
    ∙ ap (λ (b : Bool). items ++ (if b then [] else box_of (out-Laid l).head x y (out-Laid l).outcome.answer.frame
    ∷ marks_at x y (out-Laid l).outcome.marks ++ kids_at x y (out-Laid l).outcome.offsets (map placed (out-Laid l).kids))) (sym e)
    ∙ ap (λ (more : List PlacedItem). items ++ more) (sym (placed_out l x y))

-- and what isn't adds its box, its marks, and what its children show
pub element_shown : (l : Laid) (x y : ℤ) (items boxed marked all : List PlacedItem) → is_silent (out-Laid l).head.kind ≡ false
    → boxed ≡ items ++ box_of (out-Laid l).head x y (out-Laid l).outcome.answer.frame ∷ []
    → marked ≡ boxed ++ marks_at x y (out-Laid l).outcome.marks
    → all ≡ marked ++ kids_at x y (out-Laid l).outcome.offsets (map placed (out-Laid l).kids)
    → all ≡ items ++ placed l x y
element_shown l x y items boxed marked all e b k a =
    let box = box_of (out-Laid l).head x y (out-Laid l).outcome.answer.frame in
    let marks = marks_at x y (out-Laid l).outcome.marks in
    let kids = kids_at x y (out-Laid l).outcome.offsets (map placed (out-Laid l).kids) in
    a ∙ ap (λ (front : List PlacedItem). front ++ kids) (k ∙ ap (λ (front : List PlacedItem). front ++ marks) b)
    ∙ ap (λ (front : List PlacedItem). front ++ kids) (append_assoc items (box ∷ []) marks)
    ∙ append_assoc items (box ∷ marks) kids
    ∙ ap (λ (c : Bool). items ++ (if c then [] else box ∷ marks ++ kids)) (sym e)
    ∙ ap (λ (more : List PlacedItem). items ++ more) (sym (placed_out l x y))

-- ---- children, each with its offset

-- what children show, of those from a place on
abbrev pub kids_from : ℤ → ℤ → List Offset → List Laid → ℕ → List PlacedItem
kids_from x y offsets kids i = kids_at x y (drop i offsets) (map placed (drop i kids))

pub kids_more : (x y : ℤ) (offsets : List Offset) (kids : List Laid) (i : ℕ) (default : Offset) (kid : Laid) (items new all : List PlacedItem)
    → i < length offsets → i < length kids → kid ≡ get_or kids i kid
    → items ++ kids_from x y offsets kids i ≡ all → new ≡ items ++ placed kid (x +ℤ (get_or offsets i default).x) (y +ℤ (get_or offsets i default).y)
    → new ++ kids_from x y offsets kids (i + 1) ≡ all
kids_more x y offsets kids i default kid items new all l k is so added =
    let offset = get_or offsets i default in
    let here = placed kid (x +ℤ offset.x) (y +ℤ offset.y) in
    let rest = kids_from x y offsets kids (i + 1) in
    let next : kids_from x y offsets kids i ≡ here ++ rest =
    ap (λ (some : List Offset). kids_at x y some (map placed (drop i kids))) (drop_more offsets i default l)
    ∙ ap (λ (some : List Laid). kids_at x y (offset ∷ drop (i + 1) offsets) (map placed some)) (drop_more kids i kid k ∙ ap (λ (c : Laid). c ∷ drop (i + 1) kids) (sym is)) in
    ap (λ (front : List PlacedItem). front ++ rest) added ∙ append_assoc items here rest ∙ ap (λ (back : List PlacedItem). items ++ back) (sym next) ∙ so

pub without_kids : (x y : ℤ) (offsets : List Offset) → kids_at x y offsets [] ≡ []
without_kids x y [] = refl
without_kids x y (offset ∷ offsets) = refl

pub without_offsets : (x y : ℤ) (kids : List Shown) → kids_at x y [] kids ≡ []
without_offsets x y [] = refl
without_offsets x y (kid ∷ kids) = refl

none_left : (x y : ℤ) (offsets : List Offset) (kids : List Laid) (i : ℕ) → min (length offsets) (length kids) ≤ i → kids_from x y offsets kids i ≡ []
none_left x y offsets kids i l = elim (cases_lt (length offsets) (length kids)) [
  | inl fewer ↦ ap (λ (some : List Offset). kids_at x y some (map placed (drop i kids))) (drop_all i offsets (omega (arith, l, fewer))) ∙ without_offsets x y (map placed (drop i kids))
  | inr more ↦ ap (λ (some : List Laid). kids_at x y (drop i offsets) (map placed some)) (drop_all i kids (omega (arith, l, more))) ∙ without_kids x y (drop i offsets)
]

pub kids_all : (x y : ℤ) (offsets : List Offset) (kids : List Laid) (i : ℕ) (items all : List PlacedItem)
    → min (length offsets) (length kids) ≤ i → items ++ kids_from x y offsets kids i ≡ all → items ≡ all
kids_all x y offsets kids i items all l so = nothing_more items ∙ ap (λ (back : List PlacedItem). items ++ back) (sym (none_left x y offsets kids i l)) ∙ so
