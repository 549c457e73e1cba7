-- The items of an array, beside the values that hold them.
use Rattle.std.proofs.Common.{◌≡◌, ap, refl, ◌≤◌, List, [], ◌∷◌, length, map, arith, not}
use Rattle.serde_json.specs.View.{view, items_view}
use Rattle.serde_json.specs.declared.value.Value.{Value}
use Rattle.tree_json.specs.Elements.{listed_items, may_stand_below}
use Rattle.math_tree.specs.Kinds.{is_text_kind}
use Rattle.math_tree.specs.declared.kind.Kind.{Kind}

pub listed_view : (values : List Value) → listed_items (items_view values) ≡ map view values
listed_view [] = refl
listed_view (value ∷ values) = ap (◌∷◌ (view value)) (listed_view values)

-- where there is an item, it stands only below an element that isn't a text element
pub some_below : (kind : Kind) (values : List Value) → 1 ≤ length values
    → may_stand_below kind (items_view values) ≡ not (is_text_kind kind)
some_below kind [] h = absurd (omega arith)
some_below kind (value ∷ values) h = refl
