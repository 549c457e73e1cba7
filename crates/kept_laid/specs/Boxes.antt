-- The box of an element in a tree that is laid out.
use Rattle.std.specs.Prelude.{nat_eq, Bool, List, ◌∷◌, Option, option_map}
use Rattle.std.specs.List.{find, flat_map}
use Rattle.fixed_units.specs.declared.boxes.MathBox.{MathBox}
use Rattle.math_tree.specs.Trees.{Listed}
use Rattle.math_tree.specs.declared.node.NodeId.{NodeId}
use Rattle.layout_model.specs.declared.laid.Laid.{Laid}
use Rattle.layout_model.specs.declared.laid.Laid.TheFolds.{fold-Laid}
use Rattle.layout_model.specs.declared.laid.Laid.TheOpen.{Laid-F}

-- an element in flow, and its box
pub record ElementBox : Type 0 where
  pub id : NodeId
  pub frame : MathBox

abbrev pub boxes_over : Laid-F (List ElementBox) → List ElementBox
boxes_over layer = record { id = layer.head.id; frame = layer.outcome.answer.frame }
    ∷ flat_map (λ kid. kid) layer.kids

-- all elements in flow of a tree that is laid out, in document order
unfoldable pub boxes : Laid → List ElementBox
boxes laid = fold-Laid (List ElementBox) boxes_over laid

-- the box of the first of them with an id, where there is one
abbrev pub first_box : NodeId → List ElementBox → Option MathBox
first_box id elements =
    option_map (λ element. element.frame) (find (λ element. nat_eq element.id.0 id.0) elements)

abbrev pub box_in : NodeId → Laid → Option MathBox
box_in id laid = first_box id (boxes laid)

-- the same below an element, in what is laid out of its children
abbrev pub box_below : NodeId → List Laid → Option MathBox
box_below id kids = first_box id (flat_map boxes kids)

-- an element of a tree has an id
abbrev pub has_id : NodeId → Listed → Bool
has_id id element = nat_eq element.head.id.0 id.0
