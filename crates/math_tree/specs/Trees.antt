-- Trees, their elements in document order, and what holds of every tree.
use Rattle.std.specs.Prelude.{◌≡◌, ℕ, ◌+◌, ◌^◌, ◌≤◌, ◌<◌, List, [], ◌∷◌, length, map, All, true, false, nat_eq, codes}
use Rattle.std.specs.List.{flat_map, sum_by, IsDistinct}
use Rattle.math_tree.specs.Attributes.{IsInOrder, bytes_of_attributes}
use Rattle.math_tree.specs.Forms.{is_name, is_short_enough, most_levels, most_elements, most_bytes}
use Rattle.math_tree.specs.Kinds.{kind_of, is_text_kind}
use Rattle.math_tree.specs.declared.attributes.Attribute.{Attribute}
use Rattle.math_tree.specs.declared.node.Head.{Head}
use Rattle.math_tree.specs.declared.node.Node.{Node}
use Rattle.math_tree.specs.declared.node.Node.TheFolds.{fold-Node}
use Rattle.math_tree.specs.declared.node.Node.TheOpen.{Node-F}
use Rattle.math_tree.specs.declared.node.Node.TheViews.{out-Node, roll-Node}

-- a tree is its root, and the id that the next new element gets
pub record TreeValue : Type 0 where
  pub root : Node
  pub next_id : ℕ

-- an element over its children
abbrev pub node : Head → List Node → Node
node head children = roll-Node record { head = head; children = children }

-- an element as a list shows it: its level, what is said of it, and how many children it has
pub record Listed : Type 0 where
  pub level : ℕ
  pub head : Head
  pub children : ℕ

-- an element, and then what stands below it, one level further down
abbrev pub listed_first : Node-F (ℕ → List Listed) → ℕ → List Listed
listed_first layer level =
    record { level = level; head = layer.head; children = length layer.children }
    ∷ flat_map (λ list. list (level + 1)) layer.children

-- the elements of a node in document order, each before its children, where its own level is this
unfoldable pub listed : ℕ → Node → List Listed
listed level node = fold-Node (ℕ → List Listed) listed_first node level

-- how many elements there are in a node, itself included
abbrev pub element_count : Node → ℕ
element_count node = length (listed 1 node)

-- the bytes of an element's name, its text and its attributes
abbrev pub bytes_of_head : Head → ℕ
bytes_of_head head = length head.name + length head.text + bytes_of_attributes head.attributes

-- the bytes of all elements in a node
abbrev pub byte_count : Node → ℕ
byte_count node = sum_by (λ e. bytes_of_head e.head) (listed 1 node)

-- ---- what holds of every tree

pub record IsProperAttribute (attribute : Attribute) : Type 0 where
  pub name : is_name attribute.name ≡ true
  pub value : is_short_enough attribute.value ≡ true

-- an element by itself: its kind is that of its name, names and texts are in their form and not
-- too long, its attributes stand in order, a text element has no children, and only a text element
-- has a text
pub record IsProper (element : Listed) : Type 0 where
  pub kind : element.head.kind ≡ kind_of element.head.name
  pub name : is_name element.head.name ≡ true
  pub attributes : All IsProperAttribute element.head.attributes
  pub order : IsInOrder element.head.attributes
  pub text : is_short_enough element.head.text ≡ true
  pub childless : is_text_kind element.head.kind ≡ true → element.children ≡ 0
  pub textless : is_text_kind element.head.kind ≡ false → element.head.text ≡ []

-- an element with all below it, as it may be put into a tree: proper elements, of no more than 60
-- levels by themselves; not too many of them, nor too many bytes in them
pub record IsPart (node : Node) : Type 0 where
  pub proper : All IsProper (listed 1 node)
  pub shallow : All (λ e. e.level ≤ most_levels) (listed 1 node)
  pub few : element_count node ≤ most_elements
  pub small : byte_count node ≤ most_bytes

abbrev pub ids_of : List Listed → List ℕ
ids_of elements = map (λ e. e.head.id.0) elements

-- a root that is `math` and has the id 1, over proper elements of no more than 60 levels, whose ids
-- differ and lie below the next id; not too many of them, nor too many bytes in them
pub record IsWhole (tree : TreeValue) : Type 0 where
  pub name : (out-Node tree.root).head.name ≡ codes "math"
  pub first : (out-Node tree.root).head.id.0 ≡ 1
  pub proper : All IsProper (listed 1 tree.root)
  pub shallow : All (λ e. e.level ≤ most_levels) (listed 1 tree.root)
  pub distinct : IsDistinct nat_eq (ids_of (listed 1 tree.root))
  pub given : All (λ id. id < tree.next_id) (ids_of (listed 1 tree.root))
  pub next : tree.next_id ≤ 2 ^ 32
  pub few : element_count tree.root ≤ most_elements
  pub small : byte_count tree.root ≤ most_bytes

-- a whole tree with how many elements there are in it, and how many bytes they hold
pub record IsTotalled (tree : TreeValue) (elements bytes : ℕ) : Type 0 where
  pub whole : IsWhole tree
  pub elements_are : elements ≡ element_count tree.root
  pub bytes_are : bytes ≡ byte_count tree.root
