-- A tree of elements in flow: which elements there are, and which is inside which.
use Rattle.std.specs.Prelude.{ℕ, nat_eq, Bool, ◌&&◌, List, [], ◌∷◌, map}
use Rattle.std.specs.List.{flat_map, list_any}
use Rattle.math_tree.specs.Trees.{node}
use Rattle.math_tree.specs.declared.kind.Kind.{Kind}
use Rattle.math_tree.specs.declared.node.Node.{Node}
use Rattle.math_tree.specs.declared.node.Node.TheFolds.{fold-Node}
use Rattle.math_tree.specs.declared.node.Node.TheOpen.{Node-F}
use Rattle.math_tree.specs.declared.node.Node.TheViews.{out-Node}
use Rattle.embellished.specs.Facts.{facts_over}
use Rattle.embellished.specs.Flow.{flow_by}
use Rattle.embellished.specs.declared.facts.Facts.{Facts}
use Rattle.hit_test.specs.Hits.{Inside}

-- ---- the elements in flow

-- an element over those of its children that are in flow, with what it is among operators
pub record Flowing : Type 0 where
  pub facts : Facts
  pub element : Node

abbrev pub laid_flowing : Flowing → Kind
laid_flowing kid = kid.facts.laid

abbrev pub flowing_over : Node-F Flowing → Flowing
flowing_over layer =
    let facts = facts_over layer.head (map (λ kid. kid.facts) layer.children) in
    let kids = flow_by laid_flowing facts.laid layer.children in
    record { facts = facts; element = node layer.head (map (λ kid. kid.element) kids) }

unfoldable pub flowing : Node → Flowing
flowing root = fold-Node Flowing flowing_over root

-- the tree of the elements in flow
abbrev pub flow_tree : Node → Node
flow_tree root = (flowing root).element

-- ---- all elements of a tree

pub record Listing : Type 0 where
  pub element : Node
  pub all : List Node

abbrev pub listing_over : Node-F Listing → Listing
listing_over layer =
    let element = node layer.head (map (λ kid. kid.element) layer.children) in
    record { element = element; all = element ∷ flat_map (λ kid. kid.all) layer.children }

-- the elements in document order, each before those inside it
unfoldable pub elements_of : Node → List Node
elements_of root = (fold-Node Listing listing_over root).all

abbrev pub children_of : Node → List Node
children_of element = (out-Node element).children

abbrev pub id_of : Node → ℕ
id_of element = (out-Node element).head.id.0

abbrev pub has_id : ℕ → Node → Bool
has_id id element = nat_eq (id_of element) id

-- ---- inside

-- it is the element of that id, or contains it
unfoldable pub holds_id : ℕ → Node → Bool
holds_id id element = list_any (has_id id) (elements_of element)

-- the element of that id is inside this one
abbrev pub is_inside : ℕ → Node → Bool
is_inside id element = list_any (holds_id id) (children_of element)

-- of two elements of a tree, by their ids, the second is inside the first
unfoldable pub inside_in : Node → Inside
inside_in root outer inner = list_any (λ e. has_id outer e && is_inside inner e) (elements_of root)
