-- How much is painted of some of the items.
use Rattle.std.proofs.Common.{◌≡◌, ◌∙◌, sym, ap, ℕ, ◌+◌, ◌≤◌, ◌<◌, List, [], ◌∷◌, ◌++◌, length, take, drop, get_or, arith, append-nil}
use Rattle.std.specs.List.{flat_map}
use Rattle.std.proofs.lemmas.List.Concat.{flat_map-append}
use Rattle.std.proofs.lemmas.List.{length-append, take_more, take-append-drop}
use Rattle.font_metrics.specs.Metrics.{MetricsValue}
use Rattle.box_writer.specs.declared.placed.PlacedItem.{PlacedItem}
use Rattle.paint_list.specs.Paints.{painted, paints_of}

pub painted-append : (m : MetricsValue) (xs ys : List PlacedItem) → painted m (xs ++ ys) ≡ painted m xs ++ painted m ys
unfolding painted
painted-append m xs ys = flat_map-append (paints_of m) xs ys

painted-one : (m : MetricsValue) (item : PlacedItem) → painted m (item ∷ []) ≡ paints_of m item
unfolding painted
painted-one m item = append-nil (paints_of m item)

pub painted-more : (m : MetricsValue) (items : List PlacedItem) (i : ℕ) (d item : PlacedItem) → i < length items → item ≡ get_or items i d
    → painted m (take (i + 1) items) ≡ painted m (take i items) ++ paints_of m item
painted-more m items i d item below is =
    ap (painted m) (take_more items i d below)
    ∙ painted-append m (take i items) (get_or items i d ∷ [])
    ∙ ap (λ l. painted m (take i items) ++ l) (painted-one m (get_or items i d) ∙ ap (paints_of m) (sym is))

pub painted-length-more : (m : MetricsValue) (items : List PlacedItem) (i : ℕ) (d item : PlacedItem) → i < length items → item ≡ get_or items i d
    → length (painted m (take (i + 1) items)) ≡ length (painted m (take i items)) + length (paints_of m item)
painted-length-more m items i d item below is =
    ap length (painted-more m items i d item below is) ∙ length-append (painted m (take i items)) (paints_of m item)

-- one item paints no more than all do
pub painted-few : (m : MetricsValue) (items : List PlacedItem) (i : ℕ) (d item : PlacedItem) → i < length items → item ≡ get_or items i d
    → length (paints_of m item) ≤ length (painted m items)
painted-few m items i d item below is =
    let e : length (painted m items) ≡ length (painted m (take (i + 1) items)) + length (painted m (drop (i + 1) items)) =
    ap (λ l. length (painted m l)) (sym (take-append-drop (i + 1) items))
    ∙ ap length (painted-append m (take (i + 1) items) (drop (i + 1) items))
    ∙ length-append (painted m (take (i + 1) items)) (painted m (drop (i + 1) items)) in
    let f = painted-length-more m items i d item below is in
    omega arith
