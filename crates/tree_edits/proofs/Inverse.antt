-- A change that takes another back gives the element, and the tree, as they were.
use Rattle.std.proofs.Common.{◌≡◌, ◌∙◌, sym, ap, refl, subst, ℕ, zero, suc, ◌+◌, ◌≤◌, List, [], ◌∷◌, length, slice_get, slice_set, true, false, not, cond, Ordering, Less, Equal, Greater, Option, Some, None, option_map, arith}
use Rattle.std.proofs.lemmas.Cmp.{nat_list_cmp_total, tied_itself}
use Rattle.std.proofs.lemmas.Option.{none-some, same_Some}
use Rattle.std.proofs.lemmas.Slice.Eq.{bytes_eq-Decides}
use Rattle.std.specs.List.{AllByRecursion}
use Rattle.std.specs.List.Sorted.{IsStrictlySortedBy}
use Rattle.std.specs.Option.{option_and_then, option_map_or}
use Rattle.std.specs.Ordering.{match_ordering, ordering_reverse}
use Rattle.std.specs.Str.{bytes_eq}
use Rattle.math_tree.proofs.Lookup.{compare, tested}
use Rattle.math_tree.specs.Attributes.{IsInOrder, names_of, put, value_of, without}
use Rattle.math_tree.specs.Trees.{node}
use Rattle.math_tree.specs.declared.attributes.Attribute.{Attribute}
use Rattle.math_tree.specs.declared.node.Head.{Head}
use Rattle.math_tree.specs.declared.node.Node.{Node}
use Rattle.math_tree.specs.declared.node.Node.TheOpen.{Node-F}
use Rattle.math_tree.specs.declared.node.Node.TheViews.{roll-out-Node, out-roll-Node}
use Rattle.tree_edits.proofs.Frames.{changed_below, children_rolled, down, head_rolled, put_back}
use Rattle.splices.proofs.Places.{set_here}
use Rattle.splices.proofs.Splicing.{fits_back, led_back}
use Rattle.splices.specs.Splicing.{FitsIn, inverse, room_back, site_of, spliced, taken}
use Rattle.splices.specs.declared.splice.Splice.{Splice}
use Rattle.tree_edits.specs.Edits.{head_of, with_attribute, with_text, with_value}
use Rattle.tree_edits.specs.Paths.{children_of, node_at, changed, changed_at, Fits, FitsAt}
use Rattle.tree_edits.specs.Undoing.{inverse_of, room_for, IsOrdered}
use Rattle.tree_edits.specs.declared.change.Change.{Change}
use Rattle.tree_edits.specs.declared.change.Change.TheVariants.{SetText, SetValue, Children}

-- ---- an item that is set twice

pub set_again : {A : Type 0} (xs : List A) (i : ℕ) (x y : A) → slice_set (slice_set xs i x) i y ≡ slice_set xs i y
set_again [] i x y = refl
set_again (z ∷ xs) zero x y = refl
set_again (z ∷ xs) (suc i) x y = ap (◌∷◌ z) (set_again xs i x y)

-- ---- an attribute that is set or removed

abbrev pub IsBelow : List ℕ → List ℕ → Type 0
IsBelow name other = compare name other ≡ Less

-- a name before all of these
abbrev pub IsBeforeAll : List ℕ → List Attribute → Type 0
IsBeforeAll name attributes = AllByRecursion (IsBelow name) (names_of attributes)

turned : (a b : List ℕ) (o : Ordering) → compare a b ≡ o → compare b a ≡ ordering_reverse o
turned a b o e = nat_list_cmp_total.antisymm b a ∙ ap ordering_reverse e

pub same_name : (a b : List ℕ) → compare a b ≡ Equal → a ≡ b
same_name a b e = (bytes_eq-Decides a b).0 (tested a b Equal e)

itself : (a : List ℕ) → bytes_eq a a ≡ true
itself a = tested a a Equal (tied_itself nat_list_cmp_total a)

-- another name isn't found, before or behind
other_below : (name other : List ℕ) → compare name other ≡ Less → bytes_eq other name ≡ false
other_below name other e = tested other name Greater (turned name other Less e)

other_above : (name other : List ℕ) → compare name other ≡ Greater → bytes_eq other name ≡ false
other_above name other e = tested other name Less (turned name other Greater e)

pub further : (a b : List ℕ) (names : List (List ℕ)) → IsBelow a b → AllByRecursion (IsBelow b) names → AllByRecursion (IsBelow a) names
further a b [] less h = tt
further a b (name ∷ names) less h = (nat_list_cmp_total.trans a b name less h.0, further a b names less h.1)

pub value_absent : (name : List ℕ) (xs : List Attribute) → IsBeforeAll name xs → value_of name xs ≡ None
value_absent name [] h = refl
value_absent name (x ∷ xs) h = rw (other_below name x.name h.0) (value_absent name xs h.1)

pub without_absent : (name : List ℕ) (xs : List Attribute) → IsBeforeAll name xs → without name xs ≡ xs
without_absent name [] h = refl
without_absent name (x ∷ xs) h = rw (other_below name x.name h.0) (ap (◌∷◌ x) (without_absent name xs h.1))

pub put_first : (a : Attribute) (xs : List Attribute) → IsBeforeAll a.name xs → put a xs ≡ a ∷ xs
put_first a [] h = refl
put_first a (x ∷ xs) h = rw h.0 refl

-- an attribute of a name further on leaves the first one
pub further_on : (name : List ℕ) (value : Option (List ℕ)) (x : Attribute) (xs : List Attribute) → compare name x.name ≡ Greater
    → with_value name value (x ∷ xs) ≡ x ∷ with_value name value xs
further_on name (Some value) x xs e = rw e refl
further_on name None x xs e = rw (other_above name x.name e) refl

pub value_further_on : (name : List ℕ) (x : Attribute) (xs : List Attribute) → compare name x.name ≡ Greater → value_of name (x ∷ xs) ≡ value_of name xs
value_further_on name x xs e = rw (other_above name x.name e) refl

-- the first of another name is dropped from before the others
pub dropped : (a : Attribute) (xs : List Attribute) → without a.name (a ∷ xs) ≡ without a.name xs
dropped a xs = rw (itself a.name) refl

absent_again : (name : List ℕ) (value : Option (List ℕ)) (xs : List Attribute) → IsBeforeAll name xs → with_value name None (with_value name value xs) ≡ xs
absent_again name (Some value) xs h =
    let a : Attribute = record { name = name; value = value } in
    ap (without name) (put_first a xs h) ∙ dropped a xs ∙ without_absent name xs h
absent_again name None xs h = ap (without name) (without_absent name xs h) ∙ without_absent name xs h

-- the first has the name
here_again : (name : List ℕ) (value : Option (List ℕ)) (x : Attribute) (xs : List Attribute) → name ≡ x.name → IsBeforeAll x.name xs
    → with_value name (Some x.value) (with_value name value (x ∷ xs)) ≡ x ∷ xs
here_again name value x xs same h = rw same (by value)
  where
    tied : compare x.name x.name ≡ Equal
    tied = tied_itself nat_list_cmp_total x.name

    by : (value : Option (List ℕ)) → with_value x.name (Some x.value) (with_value x.name value (x ∷ xs)) ≡ x ∷ xs
    by (Some value) = rw (tied, tied) refl
    by None = ap (put x) (dropped x xs ∙ without_absent x.name xs h) ∙ put_first x xs h

pub value_here : (name : List ℕ) (x : Attribute) (xs : List Attribute) → compare name x.name ≡ Equal → value_of name (x ∷ xs) ≡ Some x.value
value_here name x xs e = rw (tested x.name name Equal (turned name x.name Equal e)) refl

module _ (name : List ℕ) (value : Option (List ℕ)) where
  again_at : (x : Attribute) (xs : List Attribute) (o : Ordering) → compare name x.name ≡ o → IsBeforeAll x.name xs
      → with_value name (value_of name xs) (with_value name value xs) ≡ xs
      → with_value name (value_of name (x ∷ xs)) (with_value name value (x ∷ xs)) ≡ x ∷ xs
  again_at x xs Less e h more =
      let all : IsBeforeAll name (x ∷ xs) = (e, further name x.name (names_of xs) e h) in
      ap (λ former. with_value name former (with_value name value (x ∷ xs))) (value_absent name (x ∷ xs) all) ∙ absent_again name value (x ∷ xs) all
  again_at x xs Equal e h more =
      ap (λ former. with_value name former (with_value name value (x ∷ xs))) (value_here name x xs e) ∙ here_again name value x xs (same_name name x.name e) h
  again_at x xs Greater e h more =
      ap (λ former. with_value name former (with_value name value (x ∷ xs))) (value_further_on name x xs e)
      ∙ ap (with_value name (value_of name xs)) (further_on name value x xs e)
      ∙ further_on name (value_of name xs) x (with_value name value xs) e
      ∙ ap (◌∷◌ x) more

  -- the value that an attribute had is set again
  pub value_again : (xs : List Attribute) → IsInOrder xs → with_value name (value_of name xs) (with_value name value xs) ≡ xs
  unfolding IsStrictlySortedBy
  value_again [] h = absent_again name value [] tt
  value_again (x ∷ xs) h = again_at x xs (compare name x.name) refl h.0 (value_again xs h.1)

-- an attribute that is set adds one at most
length_put : (a : Attribute) (xs : List Attribute) → length (put a xs) ≤ length xs + 1
length_put a [] = omega arith
length_put a (x ∷ xs) =
    elim (compare a.name x.name) as (λ o. length (match_ordering o (a ∷ x ∷ xs) (a ∷ xs) (x ∷ put a xs)) ≤ length (x ∷ xs) + 1) [
      | Less ↦ omega arith
      | Equal ↦ omega arith
      | Greater ↦ let rest = length_put a xs in omega (arith, rest)
    ]

length_without : (name : List ℕ) (xs : List Attribute) → length (without name xs) ≤ length xs
length_without name [] = omega arith
length_without name (x ∷ xs) =
    let rest = length_without name xs in
    elim (bytes_eq x.name name) as (λ b. length (cond (not b) (x ∷ without name xs) (without name xs)) ≤ length (x ∷ xs)) [
      | true ↦ omega (arith, rest)
      | false ↦ omega (arith, rest)
    ]

pub length_with_value : (name : List ℕ) (value : Option (List ℕ)) (xs : List Attribute) → length (with_value name value xs) ≤ length xs + 1
length_with_value name (Some value) xs = length_put (record { name = name; value = value }) xs
length_with_value name None xs = let less = length_without name xs in omega (arith, less)

-- ---- one element

-- what is made of the parts of an element that is made of parts
of_parts : {A : Type 0} (f : Head → List Node → A) (head : Head) (nodes : List Node)
    → f (head_of (node head nodes)) (children_of (node head nodes)) ≡ f head nodes
of_parts f head nodes = ap (λ (l : Node-F Node). f l.head l.children) (out-roll-Node record { head = head; children = nodes })

module _ (element : Node) where
  abbrev head : Head
  head = head_of element

  abbrev kids : List Node
  kids = children_of element

  -- where the head and the children are as they were, so is the element
  as_it_was : (other : Head) (nodes : List Node) → other ≡ head → nodes ≡ kids → node other nodes ≡ element
  as_it_was other nodes e k = ap (λ h. node h nodes) e ∙ ap (node head) k ∙ roll-out-Node element

  -- the change that takes another back gives the element as it was
  pub undone : (change : Change) (room : ℕ) → Fits change element → IsOrdered change element
      → changed (inverse_of change room element) (changed change element) ≡ element
  undone (SetText text) room fits order =
      of_parts (λ h nodes. node (with_text head.text h) nodes) (with_text text head) kids
      ∙ as_it_was head kids refl refl
  undone (SetValue name value own) room fits order =
      of_parts (λ h nodes. node (with_attribute name (value_of name head.attributes) h) nodes) (with_attribute name value head) kids
      ∙ as_it_was (record head { attributes = with_value name (value_of name head.attributes) (with_value name value head.attributes) }) kids
      (ap (λ (all : List Attribute). record head { attributes = all }) (value_again name value head.attributes order)) refl
  undone (Children splice) room fits order =
      let back : Splice Node = inverse (site_of splice) (taken splice kids) room in
      of_parts (λ h nodes. node h (spliced back nodes)) head (spliced splice kids)
      ∙ as_it_was head (spliced back (spliced splice kids)) refl (led_back splice kids room fits)

  -- and it can be carried out, with the room for it
  pub undo_fits : (change : Change) → Fits change element → Fits (inverse_of change (room_for change element) element) (changed change element)
  undo_fits (SetText text) fits = tt
  undo_fits (SetValue name value own) fits =
      let attributes = head.attributes in
      let is = ap (λ h. length h.attributes) (head_rolled (with_attribute name value head) kids) in
      omega (arith, is, length_with_value name value attributes)
  undo_fits (Children splice) fits =
      let room = room_back splice kids in
      subst (FitsIn (inverse (site_of splice) (taken splice kids) room)) (sym (children_rolled head (spliced splice kids)))
      (fits_back splice kids room fits (omega arith))

-- ---- at the end of a path

-- one step down, where the child there becomes another
abbrev stepped : (Node → Node) → ℕ → Node → Option Node → Node
stepped below i n found = option_map_or (λ child. node (head_of n) (slice_set (children_of n) i (below child))) found n

step_twice : (f g h : Node → Node) (i : ℕ) (n : Node) (found : Option Node) → slice_get (children_of n) i ≡ found
    → ((child : Node) → g (f child) ≡ h child)
    → stepped g i (stepped f i n found) (slice_get (children_of (stepped f i n found)) i) ≡ stepped h i n found
step_twice f g h i n None at each = ap (stepped g i n) at
step_twice f g h i n (Some child) at each =
    let nodes = slice_set (children_of n) i (f child) in
    of_parts (λ top all. option_map_or (λ c. node top (slice_set all i (g c))) (slice_get all i) (node (head_of n) nodes)) (head_of n) nodes
    ∙ ap (λ o. option_map_or (λ c. node (head_of n) (slice_set nodes i (g c))) o (node (head_of n) nodes)) (set_here (children_of n) i child (f child) at)
    ∙ ap (node (head_of n)) (set_again (children_of n) i (f child) (g (f child)) ∙ ap (slice_set (children_of n) i) (each child))

-- two changes, one after the other, are one
pub changed_twice : (f g : Node → Node) (path : List ℕ) (n : Node) → changed_at g path (changed_at f path n) ≡ changed_at (λ x. g (f x)) path n
changed_twice f g [] n = refl
changed_twice f g (i ∷ path) n =
    step_twice (changed_at f path) (changed_at g path) (changed_at (λ x. g (f x)) path) i n (slice_get (children_of n) i) refl (changed_twice f g path)

-- a change that leaves the element at the end of the path leaves all
pub changed_nowhere : (f : Node → Node) (path : List ℕ) (n element : Node) → node_at path n ≡ Some element → f element ≡ element → changed_at f path n ≡ n
changed_nowhere f [] n element at stays = let same = same_Some n element at in ap f same ∙ stays ∙ sym same
changed_nowhere f (i ∷ path) n element at stays =
    let below = down path (slice_get (children_of n) i) element at in
    changed_below f i path n below.0 below.1
    ∙ ap (λ c. node (head_of n) (slice_set (children_of n) i c)) (changed_nowhere f path below.0 element below.2 stays)
    ∙ ap (node (head_of n)) (put_back (children_of n) i below.0 below.1)
    ∙ roll-out-Node n

-- the element there is the changed one
pub changed_there : (f : Node → Node) (path : List ℕ) (n element : Node) → node_at path n ≡ Some element → node_at path (changed_at f path n) ≡ Some (f element)
changed_there f [] n element at = ap (λ x. Some (f x)) (same_Some n element at)
changed_there f (i ∷ path) n element at =
    let below = down path (slice_get (children_of n) i) element at in
    let after = changed_at f path below.0 in
    ap (node_at (i ∷ path)) (changed_below f i path n below.0 below.1)
    ∙ ap (λ nodes. option_and_then (node_at path) (slice_get nodes i)) (children_rolled (head_of n) (slice_set (children_of n) i after))
    ∙ ap (option_and_then (node_at path)) (set_here (children_of n) i below.0 after below.1)
    ∙ changed_there f path below.0 element below.2

-- ---- a change at the end of a path, and back

module _ (change : Change) (path : List ℕ) (root : Node) (fits : FitsAt change path root) where
  abbrev pub back_there : Change
  back_there = inverse_of change (room_for change fits.element) fits.element

  -- the root is as it was
  pub undone_at : IsOrdered change fits.element → changed_at (changed back_there) path (changed_at (changed change) path root) ≡ root
  undone_at order =
      changed_twice (changed change) (changed back_there) path root
      ∙ changed_nowhere (λ x. changed back_there (changed change x)) path root fits.element fits.at
      (undone fits.element change (room_for change fits.element) fits.fits order)

  -- and the change back can be carried out
  pub undo_fits_at : FitsAt back_there path (changed_at (changed change) path root)
  undo_fits_at = record {
    element = changed change fits.element;
    at = changed_there (changed change) path root fits.element fits.at;
    fits = undo_fits fits.element change fits.fits;
  }
