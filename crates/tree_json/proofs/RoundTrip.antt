-- A printed tree, read again: no element is faulty, and the tree is the same but for its ids.
use Rattle.std.proofs.Common.{◌≡◌, ℕ, ◌+◌, ◌≤◌, List, [], ◌∷◌, ◌++◌, length, map, codes, Bool, true, false, not, ◌&&◌, nat_lt, nat_eq, None, Ok, refl, sym, ap, subst, ◌∙◌, arith}
use Rattle.std.proofs.lemmas.Bool.{le-ltb}
use Rattle.std.proofs.lemmas.Bool.Decides.{nat_tests}
use Rattle.std.proofs.lemmas.List.{append_assoc, append-nil, length-append, length-map}
use Rattle.std.proofs.lemmas.List.Concat.{flat_map-cons}
use Rattle.std.proofs.lemmas.List.Elements.{recursion_from_All}
use Rattle.std.proofs.lemmas.List.Folds.{flat_map-map}
use Rattle.std.proofs.lemmas.List.Sums.{sum_by-append, sum_by-cons}
use Rattle.std.specs.List.{AllByRecursion, flat_map, sum_by, find}
use Rattle.std.specs.Option.{option_map, option_or}
use Rattle.serde_json.specs.Data.{Data}
use Rattle.math_tree.specs.Attributes.{bytes_of_attributes}
use Rattle.tree_json.specs.Elements.{Element, over, over_items, elements, element_first, name_in, bytes_held}
use Rattle.tree_json.specs.Faults.{fault_of, fault_at, first_fault_after, is_misplaced}
use Rattle.math_tree.specs.Kinds.{kind_of, is_text_kind}
use Rattle.tree_json.specs.declared.fault.ElementFault.{ElementFault}
use Rattle.tree_json.specs.declared.fault.ElementFault.TheVariants.{NotAnObject, BadName, NotMath, UnknownKey, BadAttributes, BadText, BadChildren, TooDeep, TooMany, TooLong}
use Rattle.std.specs.Str.{bytes_eq}
use Rattle.math_tree.specs.Forms.{most_levels, most_elements, most_bytes, is_name}
use Rattle.math_tree.specs.Numbering.{with_id, renumbered_layer, renumbered, Planted, nodes_from}
use Rattle.tree_json.specs.Print.{items_of, value_of, PrintReadsBack}
use Rattle.tree_json.specs.Reading.{planted, head_of, node_of, tree_of, tree_without}
use Rattle.math_tree.specs.Trees.{node, Listed, listed, bytes_of_head, IsProper, IsProperAttribute}
use Rattle.math_tree.specs.declared.attributes.Attribute.{Attribute}
use Rattle.math_tree.specs.declared.node.Head.{Head}
use Rattle.math_tree.specs.declared.node.Node.{Node}
use Rattle.math_tree.specs.declared.node.Node.TheFolds.{fold-Node, fold_out-Node}
use Rattle.math_tree.specs.declared.node.Node.TheViews.{out-Node}
use Rattle.math_tree.proofs.Nodes.{by_children, all_parts, listed_element}
use Rattle.tree_json.proofs.Printing.{value_of_element}
use Rattle.tree_json.proofs.Reread.{element_of, keyed, name_again, kind_again, attributes_are, text_again, has_attributes_again, has_text_again, has_children_again}
use Rattle.tree_json.specs.declared.portion.Portion.TheVariants.{Whole}

-- ---- the elements of a printed value

over_again : {A : Type 0} (step : Data → List A → A) (vs : List Data) → over_items step (items_of vs) ≡ map (over step) vs
over_again step [] = refl
over_again step (v ∷ vs) = ap (λ l. over step v ∷ l) (over_again step vs)

over_element : {A : Type 0} (step : Data → List A → A) (xs : List Attribute) (vs : List Data) (name ts : List ℕ)
    → over step (element_of xs vs name ts) ≡ step (element_of xs vs name ts) (map (over step) vs)
over_element step [] [] name [] = refl
over_element step [] [] name (t ∷ ts) = refl
over_element step [] (v ∷ vs) name [] = ap (step (element_of [] (v ∷ vs) name [])) (over_again step (v ∷ vs))
over_element step [] (v ∷ vs) name (t ∷ ts) = ap (step (element_of [] (v ∷ vs) name (t ∷ ts))) (over_again step (v ∷ vs))
over_element step (a ∷ xs) [] name [] = refl
over_element step (a ∷ xs) [] name (t ∷ ts) = refl
over_element step (a ∷ xs) (v ∷ vs) name [] = ap (step (element_of (a ∷ xs) (v ∷ vs) name [])) (over_again step (v ∷ vs))
over_element step (a ∷ xs) (v ∷ vs) name (t ∷ ts) = ap (step (element_of (a ∷ xs) (v ∷ vs) name (t ∷ ts))) (over_again step (v ∷ vs))

-- a step over the value of a node is one over those of its children
over_node : {A : Type 0} (step : Data → List A → A) (n : Node)
    → over step (value_of n) ≡ step (value_of n) (map (over step) (map value_of (out-Node n).children))
over_node step n =
    let head = (out-Node n).head in
    let values = map value_of (out-Node n).children in
    ap (over step) (value_of_element n) ∙ over_element step head.attributes values head.name head.text
    ∙ ap (λ v. step v (map (over step) values)) (sym (value_of_element n))

elements_of : (level : ℕ) (n : Node)
    → elements level (value_of n) ≡ record { level = level; value = value_of n } ∷ flat_map (elements (level + 1)) (map value_of (out-Node n).children)
unfolding elements
elements_of level n =
    ap (λ f. f level) (over_node element_first n)
    ∙ ap (λ l. record { level = level; value = value_of n } ∷ l)
    (flat_map-map (λ list. list (level + 1)) (over element_first) (map value_of (out-Node n).children))

-- ---- an element by itself

abbrev shown : ℕ → Node → Listed
shown level n = record { level = level; head = (out-Node n).head; children = length (out-Node n).children }

module _ (head : Head) (values : List Data) (level children : ℕ) (counted : length values ≡ children)
    (proper : IsProper (record { level = level; head = head; children = children })) where
  printed : Data
  printed = element_of head.attributes values head.name head.text

  textless : is_text_kind (kind_of head.name) ≡ false → head.text ≡ []
  textless e = proper.textless (ap is_text_kind proper.kind ∙ e)

  childless : is_text_kind (kind_of head.name) ≡ true → length values ≡ 0
  childless e = counted ∙ proper.childless (ap is_text_kind proper.kind ∙ e)

  -- it holds what it was printed of
  pub held_again : bytes_held (element_of head.attributes values head.name head.text) ≡ bytes_of_head head
  unfolding bytes_held
  held_again =
      let name = name_again head.attributes values head.name head.text in
      let text = text_again head.attributes values head.name head.text textless in
      let attributes = attributes_are head.attributes values head.name head.text in
      λ i. length (name i) + length (text i) + bytes_of_attributes (attributes i)

  pub head_again : (id : ℕ) → head_of id (element_of head.attributes values head.name head.text) ≡ with_id id head
  head_again id =
      let name = name_again head.attributes values head.name head.text in
      let kind = kind_again head.attributes values head.name head.text ∙ sym proper.kind in
      let attributes = attributes_are head.attributes values head.name head.text in
      let text = text_again head.attributes values head.name head.text textless in
      λ i. record { id = record { 0 = id }; name = name i; kind = kind i; attributes = attributes i; text = text i }

  -- and has no fault
  pub no_fault : (place bytes : ℕ) → level ≤ most_levels → place ≤ most_elements → bytes ≤ most_bytes → is_misplaced Whole place head.name ≡ false
      → fault_of Whole place bytes (record { level = level; value = element_of head.attributes values head.name head.text }) ≡ None
  unfolding fault_of
  no_fault place bytes shallow few small placed =
      let xs = head.attributes in
      let name = name_again xs values head.name head.text in
      let deep : nat_lt most_levels level ≡ false = le-ltb most_levels level shallow in
      let many : nat_lt most_elements place ≡ false = le-ltb most_elements place few in
      let long : nat_lt most_bytes bytes ≡ false = le-ltb most_bytes bytes small in
      let known = (keyed xs values head.name head.text).known in
      let named : is_name (name_in (element_of xs values head.name head.text)) ≡ true = ap is_name name ∙ proper.name in
      let right_place : is_misplaced Whole place (name_in (element_of xs values head.name head.text)) ≡ false = ap (is_misplaced Whole place) name ∙ placed in
      let attributes = has_attributes_again xs values head.name head.text (recursion_from_All IsProperAttribute xs proper.attributes) in
      let text = has_text_again xs values head.name head.text proper.text textless in
      let below = has_children_again xs values head.name head.text childless in
      λ i. option_map (λ (row : Bool × ElementFault). row.1) (find (λ (row : Bool × ElementFault). row.0)
      ((deep i, TooDeep)
      ∷ (many i, TooMany)
      ∷ (false, NotAnObject)
      ∷ (not (known i), UnknownKey)
      ∷ (not (named i), BadName)
      ∷ (right_place i, NotMath)
      ∷ (not (attributes i), BadAttributes)
      ∷ (not (text i), BadText)
      ∷ (not (below i), BadChildren)
      ∷ (long i, TooLong)
      ∷ []))

-- ---- all elements

abbrev held : Listed → ℕ
held e = bytes_of_head e.head

-- so many more elements have room
pub record Room (count bytes : ℕ) (ls : List Listed) : Type 0 where
  pub proper : AllByRecursion IsProper ls
  pub shallow : AllByRecursion (λ e. e.level ≤ most_levels) ls
  pub few : count + length ls ≤ most_elements
  pub small : bytes + sum_by held ls ≤ most_bytes

room_first : (count bytes : ℕ) (xs ys : List Listed) → Room count bytes (xs ++ ys) → Room count bytes xs
room_first count bytes xs ys r =
    let size = length-append xs ys in
    let sum = sum_by-append held xs ys in
    let few = r.few in
    let small = r.small in
    record {
      proper = (all_parts IsProper xs ys r.proper).0;
      shallow = (all_parts (λ e. e.level ≤ most_levels) xs ys r.shallow).0;
      few = omega (arith, size, few);
      small = omega (arith, sum, small);
    }

room_rest : (count bytes : ℕ) (xs ys : List Listed) → Room count bytes (xs ++ ys) → Room (count + length xs) (bytes + sum_by held xs) ys
room_rest count bytes xs ys r =
    let size = length-append xs ys in
    let sum = sum_by-append held xs ys in
    let few = r.few in
    let small = r.small in
    record {
      proper = (all_parts IsProper xs ys r.proper).1;
      shallow = (all_parts (λ e. e.level ≤ most_levels) xs ys r.shallow).1;
      few = omega (arith, size, few);
      small = omega (arith, sum, small);
    }

-- where these have room, the first fault is one behind them
abbrev Passes : List Element → List Listed → Type 0
Passes es ls = (count bytes : ℕ) (rest : List Element) → 1 ≤ count → Room count bytes ls
    → first_fault_after Whole count bytes (es ++ rest) ≡ first_fault_after Whole (count + length ls) (bytes + sum_by held ls) rest

abbrev PassesNode : Node → Type 0
PassesNode n = (level : ℕ) → Passes (elements level (value_of n)) (listed level n)

misplaced_later : (place : ℕ) (name : List ℕ) → 2 ≤ place → is_misplaced Whole place name ≡ false
misplaced_later place name h =
    let other : nat_eq place 1 ≡ false = grind (arith, nat_tests) in
    ap (λ b. b && not (bytes_eq name (codes "math"))) other

passes_all : (nodes : List Node) (level : ℕ) → AllByRecursion PassesNode nodes
    → Passes (flat_map (elements level) (map value_of nodes)) (flat_map (listed level) nodes)
passes_all [] level h count bytes rest later room =
    let same : count ≡ count + 0 = omega arith in
    let held_same : bytes ≡ bytes + 0 = omega arith in
    λ i. first_fault_after Whole (same i) (held_same i) rest
passes_all (n ∷ nodes) level h count bytes rest later room =
    let es = elements level (value_of n) in
    let more = flat_map (elements level) (map value_of nodes) in
    let ls = listed level n in
    let others = flat_map (listed level) nodes in
    let parted = flat_map-cons (listed level) n nodes in
    let whole : Room count bytes (ls ++ others) = subst (Room count bytes) parted room in
    let further : 1 ≤ count + length ls = omega (arith, later) in
    let size : (count + length ls) + length others ≡ count + length (flat_map (listed level) (n ∷ nodes)) =
    let parts = ap length parted ∙ length-append ls others in omega (arith, parts) in
    let sum : (bytes + sum_by held ls) + sum_by held others ≡ bytes + sum_by held (flat_map (listed level) (n ∷ nodes)) =
    let parts = ap (sum_by held) parted ∙ sum_by-append held ls others in omega (arith, parts) in
    ap (λ l. first_fault_after Whole count bytes (l ++ rest)) (flat_map-cons (elements level) (value_of n) (map value_of nodes))
    ∙ ap (first_fault_after Whole count bytes) (append_assoc es more rest)
    ∙ h.0 level count bytes (more ++ rest) later (room_first count bytes ls others whole)
    ∙ passes_all nodes level h.1 (count + length ls) (bytes + sum_by held ls) rest further (room_rest count bytes ls others whole)
    ∙ (λ i. first_fault_after Whole (size i) (sum i) rest)

passes_here : (n : Node) → AllByRecursion PassesNode (out-Node n).children → (level count bytes : ℕ) (rest : List Element)
    → is_misplaced Whole (count + 1) (out-Node n).head.name ≡ false → Room count bytes (listed level n)
    → first_fault_after Whole count bytes (elements level (value_of n) ++ rest)
    ≡ first_fault_after Whole (count + length (listed level n)) (bytes + sum_by held (listed level n)) rest
passes_here n h level count bytes rest placed room =
    let head = (out-Node n).head in
    let kids = (out-Node n).children in
    let values = map value_of kids in
    let below = flat_map (listed (level + 1)) kids in
    let more = flat_map (elements (level + 1)) values in
    let parted = listed_element level n in
    let whole : Room count bytes (shown level n ∷ below) = subst (Room count bytes) parted room in
    let is : value_of n ≡ element_of head.attributes values head.name head.text = value_of_element n in
    let counted : length values ≡ length kids = length-map kids value_of in
    let proper = whole.proper.0 in
    let own : bytes_held (value_of n) ≡ bytes_of_head head = ap bytes_held is ∙ held_again head values level (length kids) counted proper in
    let few = whole.few in
    let small = whole.small in
    let sum_parts = sum_by-cons held (shown level n) below in
    let place_in : count + 1 ≤ most_elements = omega (arith, few) in
    let bytes_in : bytes + bytes_held (value_of n) ≤ most_bytes = omega (arith, small, sum_parts, own) in
    let none : fault_of Whole (count + 1) (bytes + bytes_held (value_of n)) (record { level = level; value = value_of n }) ≡ None =
    subst (λ v. fault_of Whole (count + 1) (bytes + bytes_held (value_of n)) (record { level = level; value = v }) ≡ None) (sym is)
    (no_fault head values level (length kids) counted proper (count + 1) (bytes + bytes_held (value_of n)) whole.shallow.0 place_in bytes_in placed) in
    let room_below : Room (count + 1) (bytes + bytes_of_head head) below = record {
      proper = whole.proper.1;
      shallow = whole.shallow.1;
      few = omega (arith, few);
      small = omega (arith, small, sum_parts);
    } in
    let later : 1 ≤ count + 1 = omega arith in
    let size : (count + 1) + length below ≡ count + length (listed level n) = let parts = ap length parted in omega (arith, parts) in
    let sum : (bytes + bytes_of_head head) + sum_by held below ≡ bytes + sum_by held (listed level n) =
    let parts = ap (sum_by held) parted ∙ sum_parts in omega (arith, parts) in
    ap (λ l. first_fault_after Whole count bytes (l ++ rest)) (elements_of level n)
    ∙ ap (λ o. option_or (option_map (fault_at (count + 1)) o) (first_fault_after Whole (count + 1) (bytes + bytes_held (value_of n)) (more ++ rest))) none
    ∙ ap (λ b. first_fault_after Whole (count + 1) (bytes + b) (more ++ rest)) own
    ∙ passes_all kids (level + 1) h (count + 1) (bytes + bytes_of_head head) rest later room_below
    ∙ (λ i. first_fault_after Whole (size i) (sum i) rest)

passes : (n : Node) → PassesNode n
passes = by_children PassesNode (λ n h level count bytes rest later room.
    passes_here n h level count bytes rest (misplaced_later (count + 1) (out-Node n).head.name (omega (arith, later))) room)

-- ---- how many there are

abbrev SizeAgain : Node → Type 0
SizeAgain n = (level : ℕ) → length (elements level (value_of n)) ≡ length (listed level n)

sizes_again : (nodes : List Node) (level : ℕ) → AllByRecursion SizeAgain nodes
    → length (flat_map (elements level) (map value_of nodes)) ≡ length (flat_map (listed level) nodes)
sizes_again [] level h = refl
sizes_again (n ∷ nodes) level h =
    let one = h.0 level in
    let rest = sizes_again nodes level h.1 in
    let left = ap length (flat_map-cons (elements level) (value_of n) (map value_of nodes)) ∙ length-append (elements level (value_of n)) (flat_map (elements level) (map value_of nodes)) in
    let right = ap length (flat_map-cons (listed level) n nodes) ∙ length-append (listed level n) (flat_map (listed level) nodes) in
    omega (arith, one, rest, left, right)

size_again : (n : Node) → SizeAgain n
size_again = by_children SizeAgain (λ n h level.
    let here = ap length (elements_of level n) in
    let below = sizes_again (out-Node n).children (level + 1) h in
    let there = ap length (listed_element level n) in
    omega (arith, here, below, there))

-- ---- the tree that they mean

abbrev PlantedAgain : Node → Type 0
PlantedAgain n = (level : ℕ) → AllByRecursion IsProper (listed level n) → over planted (value_of n) ≡ fold-Node Planted renumbered_layer n

parts_again : (nodes : List Node) (level : ℕ) → AllByRecursion PlantedAgain nodes → AllByRecursion IsProper (flat_map (listed level) nodes)
    → map (over planted) (map value_of nodes) ≡ map (fold-Node Planted renumbered_layer) nodes
parts_again [] level h proper = refl
parts_again (n ∷ nodes) level h proper =
    let both = all_parts IsProper (listed level n) (flat_map (listed level) nodes) (subst (AllByRecursion IsProper) (flat_map-cons (listed level) n nodes) proper) in
    λ i. h.0 level both.0 i ∷ parts_again nodes level h.1 both.1 i

planted_again : (n : Node) → PlantedAgain n
planted_again = by_children PlantedAgain (λ n h level proper.
    let head = (out-Node n).head in
    let kids = (out-Node n).children in
    let values = map value_of kids in
    let whole = subst (AllByRecursion IsProper) (listed_element level n) proper in
    let is : value_of n ≡ element_of head.attributes values head.name head.text = value_of_element n in
    let heads : (id : ℕ) → head_of id (value_of n) ≡ with_id id head =
    λ id. ap (head_of id) is ∙ head_again head values level (length kids) (length-map kids value_of) whole.0 id in
    let parts = map (fold-Node Planted renumbered_layer) kids in
    over_node planted n
    ∙ ap (planted (value_of n)) (parts_again kids (level + 1) h whole.1)
    ∙ (λ i. record { size = 1 + sum_by (λ part. part.size) parts; node = λ id. node (heads id i) (nodes_from (id + 1) parts) })
    ∙ sym (fold_out-Node Planted renumbered_layer n))

all_of : {X : Type 0} (P : X → Type 0) → ((x : X) → P x) → (xs : List X) → AllByRecursion P xs
all_of P f [] = tt
all_of P f (x ∷ xs) = (f x, all_of P f xs)

-- a printed tree is read again
pub print_reads_back : PrintReadsBack
unfolding tree_of node_of renumbered
print_reads_back tree whole =
    let root = tree.root in
    let value = value_of root in
    let proper = recursion_from_All IsProper (listed 1 root) whole.proper in
    let few = whole.few in
    let small = whole.small in
    let room : Room 0 0 (listed 1 root) = record {
      proper = proper;
      shallow = recursion_from_All (λ e. e.level ≤ most_levels) (listed 1 root) whole.shallow;
      few = omega (arith, few);
      small = omega (arith, small);
    } in
    let placed : is_misplaced Whole 1 (out-Node root).head.name ≡ false = ap (is_misplaced Whole 1) whole.name in
    let none : first_fault_after Whole 0 0 (elements 1 value) ≡ None =
    ap (first_fault_after Whole 0 0) (sym (append-nil (elements 1 value)))
    ∙ passes_here root (all_of PassesNode passes (out-Node root).children) 1 0 0 [] placed room in
    ap (λ o. tree_without o value) none
    ∙ (λ i. Ok (record { root = (planted_again root 1 proper i).node 1; next_id = 1 + size_again root 1 i }))
