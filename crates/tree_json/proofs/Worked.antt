-- Trees and faults, each from its JSON text on.
use Rattle.std.proofs.Common.{◌≡◌, ◌∙◌, refl, ap, map, ℕ, zero, suc, List, [], ◌∷◌, Option, Some, codes}
use Rattle.std.specs.Prelude.{Result, Ok, Err}
use Rattle.std.specs.Option.{option_map}
use Rattle.std.specs.Result.{result_map_both}
use Rattle.serde_json.specs.Data.{Data, string, array, object, no_items, item, no_members, member}
use Rattle.serde_json.specs.Read.{read}
use Rattle.tree_json.proofs.OnLiterals.{tree_json_on_literals}
use Rattle.tree_json.specs.Faults.{fault_at}
use Rattle.tree_json.specs.Print.{layer_value, object_of, value_of}
use Rattle.tree_json.specs.Reading.{tree_of}
use Rattle.math_tree.specs.Trees.{TreeValue, node}
use Rattle.math_tree.specs.declared.attributes.Attribute.{Attribute}
use Rattle.tree_json.specs.declared.fault.ElementFault.{ElementFault}
use Rattle.tree_json.specs.declared.fault.ElementFault.TheVariants.{NotAnObject, BadName, NotMath, UnknownKey, BadAttributes, BadText, BadChildren, TooDeep}
use Rattle.tree_json.specs.declared.fault.TreeFault.{TreeFault}
use Rattle.math_tree.specs.declared.kind.Kind.{Kind}
use Rattle.math_tree.specs.declared.kind.Kind.TheVariants.{Math, Mi, Mrow, Unknown}
use Rattle.math_tree.specs.declared.node.Head.{Head}
use Rattle.math_tree.specs.declared.node.Node.{Node}
use Rattle.math_tree.specs.declared.node.Node.TheFolds.{fold-roll-Node}

-- the tree of a JSON text, or its fault
abbrev tree_of_text : List ℕ → Option (Result TreeValue TreeFault)
tree_of_text text = option_map tree_of (read text)

abbrev element : ℕ → List ℕ → Kind → List Attribute → List ℕ → List Node → Node
element id name kind attributes text children =
    node (record { id = record { 0 = id }; name = name; kind = kind; attributes = attributes; text = text }) children

abbrev attribute : List ℕ → List ℕ → Attribute
attribute name value = record { name = name; value = value }

-- a `math` alone has the id 1, and 2 comes next
math_alone : tree_of_text (codes "{\"name\":\"math\"}")
    ≡ Some (Ok record { root = element 1 (codes "math") Math [] [] []; next_id = 2 })
unfolding tree_json_on_literals
math_alone = refl

-- ids go down before they go on
in_document_order : tree_of_text (codes "{\"name\":\"math\",\"children\":[{\"name\":\"mrow\",\"children\":[{\"name\":\"mi\",\"text\":\"x\"}]},{\"name\":\"box\"}]}")
    ≡ Some (Ok record {
      root = element 1 (codes "math") Math [] [] (
          element 2 (codes "mrow") Mrow [] [] (element 3 (codes "mi") Mi [] (codes "x") [] ∷ [])
          ∷ element 4 (codes "box") Unknown [] [] []
          ∷ []);
      next_id = 5;
    })
unfolding tree_json_on_literals
in_document_order = refl

-- attributes are kept in the order of their names, and white space on a row is dropped
kept_and_dropped : tree_of_text (codes "{\"name\":\"math\",\"text\":\" \\n\",\"attributes\":{\"foo\":\"1\",\"dir\":\"ltr\"}}")
    ≡ Some (Ok record {
      root = element 1 (codes "math") Math (attribute (codes "dir") (codes "ltr") ∷ attribute (codes "foo") (codes "1") ∷ []) [] [];
      next_id = 2;
    })
unfolding tree_json_on_literals
kept_and_dropped = refl

-- of repeated keys the last one is read
last_name : tree_of_text (codes "{\"name\":\"mrow\",\"name\":\"math\"}") ≡ tree_of_text (codes "{\"name\":\"math\"}")
unfolding tree_json_on_literals
last_name = refl

-- a fault of an element that stands at this place
abbrev Faulty : List ℕ → ℕ → ElementFault → Type 0
Faulty text place fault = tree_of_text text ≡ Some (Err (fault_at place fault))

not_an_object : Faulty (codes "[]") 1 NotAnObject
unfolding tree_json_on_literals
not_an_object = refl

-- the first faulty element counts, and of its faults the one that is looked for first
first_of_two : Faulty (codes "{\"name\":\"math\",\"children\":[{\"name\":\"mi\"},{\"name\":\"2\",\"id\":1},7]}") 3 UnknownKey
unfolding tree_json_on_literals
first_of_two = refl

name_with_digit_first : Faulty (codes "{\"name\":\"math\",\"children\":[{\"name\":\"2d\"}]}") 2 BadName
unfolding tree_json_on_literals
name_with_digit_first = refl

root_is_a_row : Faulty (codes "{\"name\":\"mrow\"}") 1 NotMath
unfolding tree_json_on_literals
root_is_a_row = refl

value_is_a_number : Faulty (codes "{\"name\":\"math\",\"attributes\":{\"a\":1}}") 1 BadAttributes
unfolding tree_json_on_literals
value_is_a_number = refl

text_on_a_row : Faulty (codes "{\"name\":\"math\",\"children\":[{\"name\":\"mrow\",\"text\":\"x\"}]}") 2 BadText
unfolding tree_json_on_literals
text_on_a_row = refl

-- the children of a text element are listed behind it, and it is the first that is faulty
children_of_a_text : Faulty (codes "{\"name\":\"math\",\"children\":[{\"name\":\"mi\",\"children\":[{}]}]}") 2 BadChildren
unfolding tree_json_on_literals
children_of_a_text = refl

-- a `math` over one `math`, and so on, so many levels below it
abbrev nested : ℕ → Data
nested zero = object (member (codes "name") (string (codes "math")) no_members)
nested (suc levels) =
    let children = array (item (nested levels) no_items) in
    object (member (codes "children") children (member (codes "name") (string (codes "math")) no_members))

-- 60 levels are read, and the element at level 61 is faulty
sixty_levels : result_map_both (λ tree. tree.next_id) (λ fault. fault) (tree_of (nested 59)) ≡ Ok 61
unfolding tree_json_on_literals
sixty_levels = refl

sixty_one_levels : tree_of (nested 60) ≡ Err (fault_at 61 TooDeep)
unfolding tree_json_on_literals
sixty_one_levels = refl

-- ---- the value that is printed

abbrev mi_head : Head
mi_head = record { id = record { 0 = 2 }; name = codes "mi"; kind = Mi; attributes = []; text = codes "x" }

abbrev math_head : Head
math_head = record { id = record { 0 = 1 }; name = codes "math"; kind = Math; attributes = attribute (codes "dir") (codes "ltr") ∷ []; text = [] }

-- an element's value, from those of its children
value_out : (head : Head) (children : List Node) → value_of (node head children) ≡ object_of head (map value_of children)
unfolding value_of
value_out head children = fold-roll-Node Data layer_value (record { head = head; children = children })

-- keys in their order, and only those that tell
two_valued : value_of (node math_head (node mi_head [] ∷ []))
    ≡ object (member (codes "attributes") (object (member (codes "dir") (string (codes "ltr")) no_members))
    (member (codes "children") (array (item (object (member (codes "name") (string (codes "mi")) (member (codes "text") (string (codes "x")) no_members))) no_items))
    (member (codes "name") (string (codes "math")) no_members)))
two_valued = value_out math_head (node mi_head [] ∷ []) ∙ ap (λ value. object_of math_head (value ∷ [])) (value_out mi_head [])
