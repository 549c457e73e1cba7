-- An edit of a tree: what it makes of the tree, and the first reason for which it is refused.
use Rattle.std.specs.Prelude.{ℕ, ◌+◌, ◌^◌, List, [], ◌∷◌, length, map, Bool, false, not, ◌&&◌, ◌||◌, nat_eq, nat_le, nat_lt, if◌then◌else◌, Option, Some, None, is_some, codes}
use Rattle.std.specs.List.{filter, find, insert, list_any, sum_by}
use Rattle.std.specs.Option.{option_map, option_map_or}
use Rattle.std.specs.Str.{bytes_eq}
use Rattle.math_tree.specs.Attributes.{put, without}
use Rattle.math_tree.specs.Forms.{is_name, is_short_enough, most_levels, most_elements, most_bytes}
use Rattle.math_tree.specs.Kinds.{is_text_kind}
use Rattle.math_tree.specs.Numbering.{renumbered}
use Rattle.math_tree.specs.Trees.{TreeValue, Listed, node, listed, ids_of, element_count, bytes_of_head}
use Rattle.math_tree.specs.declared.attributes.Attribute.{Attribute}
use Rattle.math_tree.specs.declared.node.Head.{Head}
use Rattle.math_tree.specs.declared.node.Node.{Node}
use Rattle.math_tree.specs.declared.node.Node.TheFolds.{fold-Node}
use Rattle.math_tree.specs.declared.node.Node.TheOpen.{Node-F}
use Rattle.math_tree.specs.declared.node.Node.TheViews.{out-Node}
use Rattle.tree_edits.specs.declared.edit.Edit.{Edit}
use Rattle.tree_edits.specs.declared.edit.Edit.TheVariants.{Text, Attr, Insert, Remove, Replace, Graft, Swap}
use Rattle.tree_edits.specs.declared.edit.EditRefusal.{EditRefusal}
use Rattle.tree_edits.specs.declared.edit.EditRefusal.TheVariants.{UnknownNode, NotText, IsText, IndexPast, RootFixed, BadName, TextLong, TooDeep, TooMany, IdsSpent, IdTaken}

-- ---- the edited tree

-- the element that an edit names
abbrev pub named : Edit → ℕ
named (Text id text) = id.0
named (Attr id name value) = id.0
named (Insert id index element) = id.0
named (Remove id) = id.0
named (Replace id element) = id.0
named (Graft id index element) = id.0
named (Swap id element) = id.0

abbrev pub has_id : ℕ → Head → Bool
has_id id head = nat_eq head.id.0 id

abbrev pub head_of : Node → Head
head_of node = (out-Node node).head

abbrev pub with_text : List ℕ → Head → Head
with_text text head = record head { text = text }

-- attributes with a value under that name, or without one
abbrev pub with_value : List ℕ → Option (List ℕ) → List Attribute → List Attribute
with_value name (Some value) attributes = put (record { name = name; value = value }) attributes
with_value name None attributes = without name attributes

abbrev pub with_attribute : List ℕ → Option (List ℕ) → Head → Head
with_attribute name value head = record head { attributes = with_value name value head.attributes }

-- what an edit makes of each element, over what it made of the children: the one that it names gets
-- the text, the attribute or the child, and the one that has it as a child loses or changes that;
-- new elements get their ids in document order from the next id on, but for those that are grafted
-- or swapped in, which keep theirs
abbrev pub made : Edit → ℕ → Head → List Node → Node
made (Text id text) next head children =
    node (if has_id id.0 head then with_text text head else head) children
made (Attr id name value) next head children =
    node (if has_id id.0 head then with_attribute name value head else head) children
made (Insert id index element) next head children =
    node head
    (if has_id id.0 head then insert children index (renumbered next element) else children)
made (Remove id) next head children =
    node head (filter (λ child. not (has_id id.0 (head_of child))) children)
made (Replace id element) next head children =
    node head
    (map (λ child. if has_id id.0 (head_of child) then renumbered next element else child) children)
made (Graft id index element) next head children =
    node head (if has_id id.0 head then insert children index element else children)
made (Swap id element) next head children =
    node head (map (λ child. if has_id id.0 (head_of child) then element else child) children)

abbrev pub layer_made : Edit → ℕ → Node-F Node → Node
layer_made edit next layer = made edit next layer.head layer.children

-- this at every element in a node
unfoldable pub edited_node : Edit → ℕ → Node → Node
edited_node edit next node = fold-Node Node (layer_made edit next) node

-- how many elements an edit gives new ids
abbrev pub added : Edit → ℕ
added (Text id text) = 0
added (Attr id name value) = 0
added (Insert id index element) = element_count element
added (Remove id) = 0
added (Replace id element) = element_count element
added (Graft id index element) = 0
added (Swap id element) = 0

-- the tree of an edit that isn't refused
abbrev pub edited : TreeValue → Edit → TreeValue
edited tree edit = record {
  root = edited_node edit tree.next_id tree.root;
  next_id = tree.next_id + added edit;
}

-- ---- tests of the element that is named

-- it would get a text and is no text element
abbrev pub is_not_text : Edit → Listed → Bool
is_not_text (Text id text) element = not (is_text_kind element.head.kind)
is_not_text (Attr id name value) element = false
is_not_text (Insert id index new) element = false
is_not_text (Remove id) element = false
is_not_text (Replace id new) element = false
is_not_text (Graft id index new) element = false
is_not_text (Swap id new) element = false

-- it would get a child and is a text element
abbrev pub is_in_text : Edit → Listed → Bool
is_in_text (Text id text) element = false
is_in_text (Attr id name value) element = false
is_in_text (Insert id index new) element = is_text_kind element.head.kind
is_in_text (Remove id) element = false
is_in_text (Replace id new) element = false
is_in_text (Graft id index new) element = is_text_kind element.head.kind
is_in_text (Swap id new) element = false

-- it would get a child at an index above the number of its children
abbrev pub is_past : Edit → Listed → Bool
is_past (Text id text) element = false
is_past (Attr id name value) element = false
is_past (Insert id index new) element = nat_lt element.children index
is_past (Remove id) element = false
is_past (Replace id new) element = false
is_past (Graft id index new) element = nat_lt element.children index
is_past (Swap id new) element = false

-- it would go and is the root, which alone stands at level 1
abbrev pub is_fixed : Edit → Listed → Bool
is_fixed (Text id text) element = false
is_fixed (Attr id name value) element = false
is_fixed (Insert id index new) element = false
is_fixed (Remove id) element = nat_eq element.level 1
is_fixed (Replace id new) element = nat_eq element.level 1
is_fixed (Graft id index new) element = false
is_fixed (Swap id new) element = nat_eq element.level 1

-- ---- tests of what is set

abbrev pub is_misnamed : Edit → Bool
is_misnamed (Text id text) = false
is_misnamed (Attr id name value) = not (is_name name)
is_misnamed (Insert id index element) = false
is_misnamed (Remove id) = false
is_misnamed (Replace id element) = false
is_misnamed (Graft id index element) = false
is_misnamed (Swap id element) = false

abbrev pub is_long_value : Option (List ℕ) → Bool
is_long_value (Some value) = not (is_short_enough value)
is_long_value None = false

abbrev pub is_long : Edit → Bool
is_long (Text id text) = not (is_short_enough text)
is_long (Attr id name value) = is_long_value value
is_long (Insert id index element) = false
is_long (Remove id) = false
is_long (Replace id element) = false
is_long (Graft id index element) = false
is_long (Swap id element) = false

-- ---- tests of the edited tree, by its elements

abbrev pub is_deep : List Listed → Bool
is_deep elements = list_any (λ e. nat_lt most_levels e.level) elements

abbrev pub is_large : List Listed → Bool
is_large elements =
    nat_lt most_elements (length elements)
    || nat_lt most_bytes (sum_by (λ e. bytes_of_head e.head) elements)

-- ---- tests of ids that elements keep

-- one of these numbers stands twice
abbrev pub stands_twice : List ℕ → Bool
stands_twice [] = false
stands_twice (n ∷ ns) = list_any (nat_eq n) ns || stands_twice ns

-- one of these is among those
abbrev pub has_one_of : List ℕ → List ℕ → Bool
has_one_of ids held = list_any (λ id. list_any (nat_eq id) held) ids

-- one of these ids stands twice, isn't below the next id, or is that of an element of the tree
abbrev pub are_taken : List ℕ → ℕ → List ℕ → Bool
are_taken ids next held =
    (stands_twice ids || list_any (nat_le next) ids) || has_one_of held ids

-- so of an edit that keeps the ids that it brings, also where what has one of them would go
abbrev pub is_taken : Edit → ℕ → List Listed → Bool
is_taken (Text id text) next before = false
is_taken (Attr id name value) next before = false
is_taken (Insert id index element) next before = false
is_taken (Remove id) next before = false
is_taken (Replace id element) next before = false
is_taken (Graft id index element) next before =
    are_taken (ids_of (listed 1 element)) next (ids_of before)
is_taken (Swap id element) next before =
    are_taken (ids_of (listed 1 element)) next (ids_of before)

-- ---- the refusals

-- the element that an edit names, among the elements of the tree
abbrev pub target : Edit → List Listed → Option Listed
target edit elements = find (λ e. has_id (named edit) e.head) elements

abbrev pub at_target : (Listed → Bool) → Option Listed → Bool
at_target test element = option_map_or test element false

-- when an edit is refused for each reason, in the order in which they are looked for: by the
-- elements of the tree, those of the edited tree and its next id
abbrev pub refusals : List Listed → List Listed → ℕ → Edit → List (Bool × EditRefusal)
refusals before after next edit = let element = target edit before in
    (not (is_some element), UnknownNode)
    ∷ (at_target (is_not_text edit) element, NotText)
    ∷ (at_target (is_in_text edit) element, IsText)
    ∷ (at_target (is_past edit) element, IndexPast)
    ∷ (at_target (is_fixed edit) element, RootFixed)
    ∷ (is_misnamed edit, BadName)
    ∷ (is_long edit, TextLong)
    ∷ (is_deep after, TooDeep)
    ∷ (is_large after, TooMany)
    ∷ (nat_lt (2 ^ 32) next, IdsSpent)
    ∷ (is_taken edit next before, IdTaken)
    ∷ []

abbrev pub first_refusal : List Listed → List Listed → ℕ → Edit → Option EditRefusal
first_refusal before after next edit =
    option_map (λ row. row.1) (find (λ row. row.0) (refusals before after next edit))

-- the first reason for which an edit of a tree is refused, where there is one
unfoldable pub refusal_of : TreeValue → Edit → Option EditRefusal
refusal_of tree edit = let after = edited tree edit in
    first_refusal (listed 1 tree.root) (listed 1 after.root) after.next_id edit
