-- What holds of the page of a tree that can be laid out.
use Rattle.std.specs.Prelude.{◌≡◌, true, List, pos}
use Rattle.std.specs.List.{All}
use Rattle.fixed_units.specs.Boxes.{IsStored}
use Rattle.font_metrics.specs.Metrics.{MetricsValue}
use Rattle.font_metrics.specs.Taken.{IsTaken}
use Rattle.math_tree.specs.Trees.{IsWhole, TreeValue}
use Rattle.layout_model.specs.Layout.{is_tree_in_range, laid_tree, lay_tree}
use Rattle.box_writer.specs.declared.placed.PlacedItem.{PlacedItem}
use Rattle.placement.specs.Placing.{placed}
use Rattle.paint_list.specs.Paints.{IsPaintable}
use Rattle.hit_test.specs.Elements.{flow_tree, inside_in}
use Rattle.hit_test.specs.Hits.{ComesFirst, boxes_of}
use Rattle.hit_test.specs.Selecting.{IsInReach}

-- the boxes and marks of a tree, from (0, 0)
abbrev pub page_of : MetricsValue → TreeValue → List PlacedItem
page_of m tree = placed (laid_tree m tree) (pos 0) (pos 0)

-- the metrics are those of a file, the tree is one, and all that is made of it can be stored
pub record HasPage (m : MetricsValue) (tree : TreeValue) : Type 0 where
  pub taken : IsTaken m
  pub whole : IsWhole tree
  pub fit : is_tree_in_range m tree ≡ true

-- ---- laws

-- no box is so large or so far away that a number of its area is out of reach
abbrev pub ReachLaw : Type 0
ReachLaw = (m : MetricsValue) (tree : TreeValue) → HasPage m tree → All IsInReach (page_of m tree)

-- what is drawn can be painted
abbrev pub PaintLaw : Type 0
PaintLaw = (m : MetricsValue) (tree : TreeValue) → HasPage m tree
    → All (IsPaintable m) (page_of m tree)

-- no element is inside itself, or inside one whose box comes later
abbrev pub OrderLaw : Type 0
OrderLaw = (m : MetricsValue) (tree : TreeValue) → HasPage m tree
    → ComesFirst (inside_in (flow_tree tree.root)) (boxes_of (page_of m tree))

abbrev pub RootLaw : Type 0
RootLaw = (m : MetricsValue) (tree : TreeValue) → HasPage m tree
    → IsStored (lay_tree m tree).answer.frame
