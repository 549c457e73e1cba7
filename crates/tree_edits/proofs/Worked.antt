-- Edits of a small tree, and each reason for which one is refused.
use Rattle.std.proofs.Common.{◌≡◌, ◌∙◌, refl, ap, map, ℕ, ◌+◌, ◌^◌, List, [], ◌∷◌, length, Some, None, true, false, codes}
use Rattle.tree_json.proofs.OnLiterals.{tree_json_on_literals}
use Rattle.math_tree.specs.Numbering.{with_id, renumbered, renumbered_layer, Planted}
use Rattle.math_tree.specs.Trees.{Listed, node, element_count}
use Rattle.math_tree.specs.declared.attributes.Attribute.{Attribute}
use Rattle.math_tree.specs.declared.kind.Kind.{Kind}
use Rattle.math_tree.specs.declared.kind.Kind.TheVariants.{Math, Mi, Mn, Mrow}
use Rattle.math_tree.specs.declared.node.Head.{Head}
use Rattle.math_tree.specs.declared.node.Node.{Node}
use Rattle.math_tree.specs.declared.node.Node.TheFolds.{fold-roll-Node}
use Rattle.math_tree.specs.declared.node.NodeId.{NodeId}
use Rattle.tree_edits.proofs.Frames.{children_rolled, head_rolled, listed_out}
use Rattle.tree_edits.proofs.Renumbered.{all_renumbered, renumbered_out}
use Rattle.tree_edits.specs.Edits.{made, layer_made, edited_node, is_deep, is_large, first_refusal}
use Rattle.tree_edits.specs.Paths.{children_of}
use Rattle.tree_edits.specs.declared.edit.Edit.{Edit}
use Rattle.tree_edits.specs.declared.edit.Edit.TheVariants.{Text, Attr, Insert, Remove, Replace, Graft, Swap}
use Rattle.tree_edits.specs.declared.edit.EditRefusal.{EditRefusal}
use Rattle.tree_edits.specs.declared.edit.EditRefusal.TheVariants.{UnknownNode, NotText, IsText, IndexPast, RootFixed, BadName, TooDeep, TooMany, IdsSpent, IdTaken}

abbrev head : ℕ → List ℕ → Kind → List Attribute → List ℕ → Head
head id name kind attributes text =
    record { id = record { 0 = id }; name = name; kind = kind; attributes = attributes; text = text }

abbrev id : ℕ → NodeId
id n = record { 0 = n }

abbrev attribute : List ℕ → List ℕ → Attribute
attribute name value = record { name = name; value = value }

abbrev math : Head
math = head 1 (codes "math") Math [] []

abbrev letter : ℕ → List ℕ → Head
letter n text = head n (codes "mi") Mi [] text

abbrev row : List Attribute → Head
row attributes = head 3 (codes "mrow") Mrow attributes []

abbrev one : Node
one = node (head 4 (codes "mn") Mn [] (codes "1")) []

abbrev x : Node
x = node (letter 2 (codes "x")) []

-- a letter and a row of one number in a `math`
abbrev formula : Node → List Node → Node
formula first others = node math (first ∷ others)

abbrev tree : Node
tree = formula x (node (row []) (one ∷ []) ∷ [])

-- ---- what an edit makes of it

-- an element, from what the edit makes of its children
edited_out : (edit : Edit) (next : ℕ) (head : Head) (children : List Node)
    → edited_node edit next (node head children) ≡ made edit next head (map (edited_node edit next) children)
unfolding edited_node
edited_out edit next head children = fold-roll-Node Node (layer_made edit next) (record { head = head; children = children })

-- an element without children gets an id
leaf_renumbered : (id : ℕ) (n : ℕ) (text : List ℕ) → renumbered id (node (letter n text) []) ≡ node (letter id text) []
unfolding renumbered
leaf_renumbered id n text =
    ap (λ part. part.node id) (fold-roll-Node Planted renumbered_layer (record { head = letter n text; children = [] }))

abbrev Makes : Edit → Node → Type 0
Makes edit meant = edited_node edit 5 tree ≡ meant

-- what an edit makes of the tree, from what it makes of the elements in it
steps : (edit : Edit) → edited_node edit 5 tree
    ≡ made edit 5 math (made edit 5 (letter 2 (codes "x")) [] ∷ made edit 5 (row []) (made edit 5 (head 4 (codes "mn") Mn [] (codes "1")) [] ∷ []) ∷ [])
steps edit =
    edited_out edit 5 math (x ∷ node (row []) (one ∷ []) ∷ [])
    ∙ ap (λ n. made edit 5 math (n ∷ edited_node edit 5 (node (row []) (one ∷ [])) ∷ [])) (edited_out edit 5 (letter 2 (codes "x")) [])
    ∙ ap (λ n. made edit 5 math (made edit 5 (letter 2 (codes "x")) [] ∷ n ∷ [])) (edited_out edit 5 (row []) (one ∷ []))
    ∙ ap (λ n. made edit 5 math (made edit 5 (letter 2 (codes "x")) [] ∷ made edit 5 (row []) (n ∷ []) ∷ []))
    (edited_out edit 5 (head 4 (codes "mn") Mn [] (codes "1")) [])

text_set : Makes (Text (id 2) (codes "y")) (formula (node (letter 2 (codes "y")) []) (node (row []) (one ∷ []) ∷ []))
text_set = steps (Text (id 2) (codes "y"))

attribute_set : Makes (Attr (id 3) (codes "a") (Some (codes "1")))
    (formula x (node (row (attribute (codes "a") (codes "1") ∷ [])) (one ∷ []) ∷ []))
attribute_set = steps (Attr (id 3) (codes "a") (Some (codes "1")))

-- removing an attribute that isn't there changes nothing
attribute_absent : Makes (Attr (id 3) (codes "a") None) tree
attribute_absent = steps (Attr (id 3) (codes "a") None)

abbrev y : ℕ → Node
y n = node (letter n (codes "y")) []

-- at the end of the row, with the next id
child_inserted : Makes (Insert (id 3) 1 (y 1)) (formula x (node (row []) (one ∷ y 5 ∷ []) ∷ []))
child_inserted =
    steps (Insert (id 3) 1 (y 1))
    ∙ ap (λ n. formula x (node (row []) (one ∷ n ∷ []) ∷ [])) (leaf_renumbered 5 1 (codes "y"))

-- before all other children
first_child_inserted : Makes (Insert (id 1) 0 (y 1)) (formula (y 5) (x ∷ node (row []) (one ∷ []) ∷ []))
first_child_inserted =
    steps (Insert (id 1) 0 (y 1))
    ∙ ap (λ n. formula n (x ∷ node (row []) (one ∷ []) ∷ [])) (leaf_renumbered 5 1 (codes "y"))

-- an element with two children, whose ids follow its own
abbrev pair : ℕ → ℕ → ℕ → Node
pair n first second = node (head n (codes "mrow") Mrow [] []) (y first ∷ y second ∷ [])

one_element : (n : ℕ) → element_count (y n) ≡ 1
one_element n = ap length (listed_out 1 (letter n (codes "y")) [])

pair_renumbered : renumbered 5 (pair 1 2 3) ≡ pair 5 6 7
pair_renumbered =
    renumbered_out 5 (pair 1 2 3)
    ∙ ap (λ h. node (with_id 5 h) (all_renumbered 6 (children_of (pair 1 2 3)))) (head_rolled (head 1 (codes "mrow") Mrow [] []) (y 2 ∷ y 3 ∷ []))
    ∙ ap (λ l. node (head 5 (codes "mrow") Mrow [] []) (all_renumbered 6 l)) (children_rolled (head 1 (codes "mrow") Mrow [] []) (y 2 ∷ y 3 ∷ []))
    ∙ ap (λ n. node (head 5 (codes "mrow") Mrow [] []) (renumbered 6 (y 2) ∷ renumbered (6 + n) (y 3) ∷ [])) (one_element 2)
    ∙ (λ i. node (head 5 (codes "mrow") Mrow [] []) (leaf_renumbered 6 2 (codes "y") i ∷ leaf_renumbered 7 3 (codes "y") i ∷ []))

pair_inserted : Makes (Insert (id 1) 2 (pair 1 2 3)) (formula x (node (row []) (one ∷ []) ∷ pair 5 6 7 ∷ []))
pair_inserted =
    steps (Insert (id 1) 2 (pair 1 2 3))
    ∙ ap (λ n. formula x (node (row []) (one ∷ []) ∷ n ∷ [])) pair_renumbered

child_removed : Makes (Remove (id 4)) (formula x (node (row []) [] ∷ []))
child_removed = steps (Remove (id 4)) ∙ simp head_rolled

-- with all below it
row_removed : Makes (Remove (id 3)) (formula x [])
row_removed = steps (Remove (id 3)) ∙ simp head_rolled

child_replaced : Makes (Replace (id 2) (y 1)) (formula (y 5) (node (row []) (one ∷ []) ∷ []))
child_replaced = steps (Replace (id 2) (y 1)) ∙ simp (head_rolled, leaf_renumbered)

-- at the end of the row, with the id that it has
child_grafted : Makes (Graft (id 3) 1 (y 9)) (formula x (node (row []) (one ∷ y 9 ∷ []) ∷ []))
child_grafted = steps (Graft (id 3) 1 (y 9))

child_swapped : Makes (Swap (id 2) (y 9)) (formula (y 9) (node (row []) (one ∷ []) ∷ []))
child_swapped = steps (Swap (id 2) (y 9)) ∙ simp head_rolled

-- ---- why an edit is refused

abbrev listed_at : ℕ → Head → ℕ → Listed
listed_at level head children = record { level = level; head = head; children = children }

-- the elements of the tree
abbrev elements : List Listed
elements =
    listed_at 1 math 2
    ∷ listed_at 2 (letter 2 (codes "x")) 0
    ∷ listed_at 2 (row []) 1
    ∷ listed_at 3 (head 4 (codes "mn") Mn [] (codes "1")) 0
    ∷ []

-- whatever the edited tree would be
abbrev Refused : Edit → EditRefusal → Type 0
Refused edit refusal = (after : List Listed) (next : ℕ) → first_refusal elements after next edit ≡ Some refusal

unknown : Refused (Text (id 5) (codes "y")) UnknownNode
unknown after next = refl

text_of_a_row : Refused (Text (id 3) (codes "y")) NotText
unfolding tree_json_on_literals
text_of_a_row after next = refl

-- both hold, and the first is told
into_a_letter : Refused (Insert (id 2) 7 x) IsText
unfolding tree_json_on_literals
into_a_letter after next = refl

behind_the_end : Refused (Insert (id 3) 2 x) IndexPast
unfolding tree_json_on_literals
behind_the_end after next = refl

root_removed : Refused (Remove (id 1)) RootFixed
unfolding tree_json_on_literals
root_removed after next = refl

root_replaced : Refused (Replace (id 1) x) RootFixed
unfolding tree_json_on_literals
root_replaced after next = refl

-- also where nothing would be removed
name_with_digit_first : Refused (Attr (id 3) (codes "2d") None) BadName
unfolding tree_json_on_literals
name_with_digit_first after next = refl

-- elements that stay within all limits
level_sixty_one : (next : ℕ) → first_refusal elements (listed_at 61 math 0 ∷ []) next (Remove (id 4)) ≡ Some TooDeep
unfolding tree_json_on_literals
level_sixty_one next = refl

too_large : (after : List Listed) (next : ℕ) → is_deep after ≡ false → is_large after ≡ true
    → first_refusal elements after next (Remove (id 4)) ≡ Some TooMany
unfolding tree_json_on_literals
too_large after next deep large = rw (deep, large) refl

-- 2^32 may be the next id, and no more
one_id_too_many : first_refusal elements elements (2 ^ 32 + 1) (Insert (id 3) 1 x) ≡ Some IdsSpent
unfolding tree_json_on_literals
one_id_too_many = refl

last_id : first_refusal elements elements (2 ^ 32) (Insert (id 3) 1 x) ≡ None
unfolding tree_json_on_literals
last_id = refl

-- an id that is kept has to be free: not that of an element, also where that one goes, and given
id_of_an_element : first_refusal elements elements 9 (Graft (id 3) 1 (y 4)) ≡ Some IdTaken
unfolding tree_json_on_literals
id_of_an_element = rw (listed_out 1 (letter 4 (codes "y")) []) refl

id_of_what_goes : first_refusal elements elements 9 (Swap (id 4) (y 4)) ≡ Some IdTaken
unfolding tree_json_on_literals
id_of_what_goes = rw (listed_out 1 (letter 4 (codes "y")) []) refl

id_not_given_yet : first_refusal elements elements 9 (Graft (id 3) 1 (y 9)) ≡ Some IdTaken
unfolding tree_json_on_literals
id_not_given_yet = rw (listed_out 1 (letter 9 (codes "y")) []) refl

id_that_was_given : first_refusal elements elements 9 (Graft (id 3) 1 (y 8)) ≡ None
unfolding tree_json_on_literals
id_that_was_given = rw (listed_out 1 (letter 8 (codes "y")) []) refl
