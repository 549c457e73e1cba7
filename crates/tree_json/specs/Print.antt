-- The canonical print of a tree: the compact text of a JSON value, and what reading it gives.
use Rattle.std.specs.Prelude.{◌≡◌, ℕ, List, [], ◌∷◌, codes, Ok}
use Rattle.std.specs.Cmp.Lexicographic.{slice_cmp}
use Rattle.std.specs.Ordering.{nat_cmp}
use Rattle.std.specs.declared.cmp.Ordering.TheVariants.{Less}
use Rattle.serde_json.specs.Data.{Data, string, array, object, Items, no_items, item, Members, no_members, member}
use Rattle.serde_json.specs.Written.{compact_text}
use Rattle.math_tree.specs.Numbering.{anew}
use Rattle.tree_json.specs.Reading.{tree_of}
use Rattle.math_tree.specs.Trees.{TreeValue, IsWhole}
use Rattle.math_tree.specs.declared.attributes.Attribute.{Attribute}
use Rattle.math_tree.specs.declared.node.Head.{Head}
use Rattle.math_tree.specs.declared.node.Node.{Node}
use Rattle.math_tree.specs.declared.node.Node.TheFolds.{fold-Node}
use Rattle.math_tree.specs.declared.node.Node.TheOpen.{Node-F}

-- ---- the value of a tree

abbrev pub members_of : List Attribute → Members
members_of [] = no_members
members_of (a ∷ attributes) = member a.name (string a.value) (members_of attributes)

abbrev pub items_of : List Data → Items
items_of [] = no_items
items_of (value ∷ values) = item value (items_of values)

-- a key with its value, where there is something to tell
abbrev pub member_if_any : {A : Type 0} → List A → List ℕ → Data → Members → Members
member_if_any [] key value rest = rest
member_if_any (x ∷ xs) key value rest = member key value rest

-- an element over the values of its children: its keys in their order, and only those that tell
abbrev pub object_of : Head → List Data → Data
object_of head children =
    object (member_if_any head.attributes (codes "attributes") (object (members_of head.attributes))
    (member_if_any children (codes "children") (array (items_of children))
    (member (codes "name") (string head.name)
    (member_if_any head.text (codes "text") (string head.text) no_members))))

abbrev pub layer_value : Node-F Data → Data
layer_value layer = object_of layer.head layer.children

-- the JSON value of an element with all below it
unfoldable pub value_of : Node → Data
value_of node = fold-Node Data layer_value node

-- the text of this value, without spaces
unfoldable pub print_of : TreeValue → List ℕ
print_of tree = compact_text (value_of tree.root)

-- the key comes before the first of the members
abbrev pub GoesFirst : List ℕ → Members → Type 0
GoesFirst key no_members = Unit {0}
GoesFirst key (member first value others) = slice_cmp nat_cmp key first ≡ Less

-- ---- reading it back

-- the value that is printed stands for the same tree but for its ids
abbrev pub PrintReadsBack : Type 0
PrintReadsBack = (tree : TreeValue) → IsWhole tree → tree_of (value_of tree.root) ≡ Ok (anew tree)
