-- What a view shows of an element: all that its layout knows of it besides its children's answers.
use Rattle.std.specs.Prelude.{◌≡◌, ℕ, ◌+◌, not, Some, slice_get, if◌then◌else◌, List, [], ◌∷◌, length, map, filter}
use Rattle.std.specs.List.{position_or_len}
use Rattle.math_tree.specs.declared.kind.Kind.{Kind}
use Rattle.math_tree.specs.declared.node.Head.{Head}
use Rattle.math_tree.specs.declared.node.Node.{Node}
use Rattle.math_tree.specs.declared.node.Node.TheViews.{out-Node}
use Rattle.embellished.specs.Facts.{facts}
use Rattle.embellished.specs.Flow.{flow_by}
use Rattle.embellished.specs.Kinds.{is_annotation, is_prescripts_mark, is_multiscripts}
use Rattle.embellished.specs.declared.facts.Facts.{Facts}
use Rattle.embellished.specs.declared.node_view.Shown.{Shown}
use Rattle.embellished.specs.declared.node_view.Shown.TheVariants.{Each, Listed}
use Rattle.embellished.specs.declared.node_view.ShownKid.{ShownKid}

-- a child in flow
pub record Kid : Type 0 where
  pub head : Head
  pub facts : Facts

pub record Seen : Type 0 where
  pub head : Head
  pub facts : Facts
  pub kids : List Kid
  pub prescripts : ℕ

abbrev pub laid_kid : Kid → Kind
laid_kid kid = kid.facts.laid

-- the place where the prescripts begin, among all children and those in flow: that of the mark of a
-- valid `mmultiscripts`, else the end
abbrev pub prescripts_in : Kind → List Kind → ℕ → ℕ
prescripts_in laid kids shown =
    if is_multiscripts laid
    then position_or_len is_prescripts_mark (filter (λ kid. not (is_annotation kid)) kids)
    else shown

abbrev pub kid_of : Node → Kid
kid_of node = record { head = (out-Node node).head; facts = facts node }

-- what there is to see of an element with these facts, over all its children
abbrev pub seen_over : Head → Facts → List Kid → Seen
seen_over head facts kids =
    let flow = flow_by laid_kid facts.laid kids in
    record {
      head = head;
      facts = facts;
      kids = flow;
      prescripts = prescripts_in facts.laid (map laid_kid kids) (length flow);
    }

-- what there is to see of an element of a tree
unfoldable pub seen_of : Node → Seen
seen_of node = seen_over (out-Node node).head (facts node) (map kid_of (out-Node node).children)

-- the child in flow at a place, and what holds of it
pub record HasKid (seen : Seen) (index : ℕ) (P : Kid → Type 0) : Type 0 where
  pub kid : Kid
  pub at : slice_get seen.kids index ≡ Some kid
  pub holds : P kid

-- ---- which of all children are in flow

-- a child, and its place among all children of its parent, counted from 0
pub record Child : Type 0 where
  pub place : ℕ
  pub node : Node

-- children whose places rise by one from this on
abbrev pub children_from : ℕ → List Node → List Child
children_from place [] = []
children_from place (node ∷ nodes) =
    record { place = place; node = node } ∷ children_from (place + 1) nodes

abbrev pub laid_child : Child → Kind
laid_child child = (facts child.node).laid

-- the children in flow of an element of a tree
unfoldable pub flow_children : Node → List Child
flow_children node = flow_by laid_child (facts node).laid (children_from 0 (out-Node node).children)

-- their nodes
abbrev pub flow_nodes : Node → List Node
flow_nodes node = map (λ child. child.node) (flow_children node)

-- the child in flow at an index: it is the one at its place among all children, a view shows it,
-- and what holds of it
pub record HasChild (node : Node) (index : ℕ) (P : Child → Type 0) : Type 0 where
  pub child : Child
  pub in_flow : slice_get (flow_children node) index ≡ Some child
  pub among : slice_get (out-Node node).children child.place ≡ Some child.node
  pub shown : slice_get (seen_of node).kids index ≡ Some (kid_of child.node)
  pub holds : P child

-- ---- the code's parts of it

-- a child with what is known of it
pub record KnownChild : Type 0 where
  pub child : Child
  pub facts : Facts

abbrev pub known_child : Child → KnownChild
known_child child = record { child = child; facts = facts child.node }

abbrev pub shown_child : ShownKid → KnownChild
shown_child kid = record {
  child = record { place = kid.place; node = kid.node.now };
  facts = kid.facts;
}

-- the facts of all children, as they are kept where each of them is in flow
abbrev pub facts_kept : Node → Shown → List Facts
facts_kept node (Each known) = known.now
facts_kept node (Listed kids) = map facts (out-Node node).children

-- they are right
abbrev pub AreFactsKept : Node → Shown → Type 0
AreFactsKept node shown = facts_kept node shown ≡ map facts (out-Node node).children

-- the children in flow, as they are kept
abbrev pub children_shown : Node → Shown → List KnownChild
children_shown node (Each known) = map known_child (children_from 0 (out-Node node).children)
children_shown node (Listed kids) = map shown_child kids.items

pub record IsShown (node : Node) (facts : Facts) (children : List KnownChild) (prescripts : ℕ) :
    Type 0 where
  pub facts_are : (seen_of node).facts ≡ facts
  pub children_are : map known_child (flow_children node) ≡ children
  pub prescripts_are : (seen_of node).prescripts ≡ prescripts
