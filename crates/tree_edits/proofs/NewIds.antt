-- Children that are numbered one after another.
use Rattle.std.proofs.Common.{◌≡◌, ◌∙◌, refl, sym, ap, ℕ, zero, suc, ◌+◌, ◌≤◌, List, [], ◌∷◌, length, take, slice_get, slice_set, Some, arith, add-one}
use Rattle.std.proofs.lemmas.List.{take_all}
use Rattle.std.proofs.lemmas.List.Sums.{sum_by-cons, sum_by_more_le, sum_by_more}
use Rattle.std.proofs.lemmas.Option.{none-some, same_Some, slice_get_within, get_or_from_slice_get}
use Rattle.std.specs.List.{sum_by}
use Rattle.math_tree.proofs.Counts.{elements_are}
use Rattle.math_tree.specs.Numbering.{renumbered, with_id}
use Rattle.math_tree.specs.Trees.{node, element_count}
use Rattle.math_tree.specs.declared.node.Node.{Node}
use Rattle.math_tree.specs.declared.node.Node.TheViews.{roll-out-Node}
use Rattle.tree_edits.proofs.Frames.{head_rolled, children_rolled}
use Rattle.tree_edits.proofs.Renumbered.{all_renumbered, renumbered_out}
use Rattle.tree_edits.specs.Edits.{head_of}
use Rattle.tree_edits.specs.Paths.{children_of}

-- nodes of which the first so many have their new ids
abbrev pub numbered_to : ℕ → ℕ → List Node → List Node
numbered_to zero id nodes = nodes
numbered_to (suc i) id [] = []
numbered_to (suc i) id (n ∷ nodes) = renumbered id n ∷ numbered_to i (id + element_count n) nodes

-- the elements in the first so many
abbrev pub count_to : ℕ → List Node → ℕ
count_to i nodes = sum_by element_count (take i nodes)

pub numbered_length : (i id : ℕ) (nodes : List Node) → length (numbered_to i id nodes) ≡ length nodes
numbered_length zero id nodes = refl
numbered_length (suc i) id [] = refl
numbered_length (suc i) id (n ∷ nodes) = omega (arith, numbered_length i (id + element_count n) nodes)

-- the next one is as it was
pub numbered_next : (i id : ℕ) (nodes : List Node) → slice_get (numbered_to i id nodes) i ≡ slice_get nodes i
numbered_next zero id nodes = refl
numbered_next (suc i) id [] = refl
numbered_next (suc i) id (n ∷ nodes) = numbered_next i (id + element_count n) nodes

-- and then gets its ids, behind all before it
pub numbered_more : (i id : ℕ) (nodes : List Node) (n : Node) → slice_get nodes i ≡ Some n
    → slice_set (numbered_to i id nodes) i (renumbered (id + count_to i nodes) n) ≡ numbered_to (i + 1) id nodes
numbered_more i id [] n at = absurd (none-some n at)
numbered_more zero id (first ∷ nodes) n at =
    let same : id + 0 ≡ id = omega arith in
    ap (λ m. renumbered (id + 0) m ∷ nodes) (sym (same_Some first n at)) ∙ ap (λ k. renumbered k first ∷ nodes) same
numbered_more (suc i) id (first ∷ nodes) n at =
    let sum = sum_by-cons element_count first (take i nodes) in
    let place : id + count_to (suc i) (first ∷ nodes) ≡ id + element_count first + count_to i nodes = omega (arith, sum) in
    rw (add-one, place) (ap (◌∷◌ (renumbered id first)) (numbered_more i (id + element_count first) nodes n at ∙ rw add-one refl))

pub all_numbered : (i id : ℕ) (nodes : List Node) → length nodes ≤ i → numbered_to i id nodes ≡ all_renumbered id nodes
all_numbered zero id [] h = refl
all_numbered zero id (n ∷ nodes) h = absurd (omega (arith, h))
all_numbered (suc i) id [] h = refl
all_numbered (suc i) id (n ∷ nodes) h = ap (◌∷◌ (renumbered id n)) (all_numbered i (id + element_count n) nodes (omega (arith, h)))

-- ---- how many there are

pub is_one : (n : Node) → 1 ≤ element_count n
is_one n = omega (arith, elements_are n)

-- those in the children before a place, and in the child there, are among those in the node
pub count_within : (element : Node) (i : ℕ) (child : Node) → slice_get (children_of element) i ≡ Some child
    → 1 + count_to i (children_of element) + element_count child ≤ element_count element
count_within element i child at =
    let nodes = children_of element in
    let within = slice_get_within nodes i child at in
    let same = ap element_count (get_or_from_slice_get nodes i child child at) in
    omega (arith, elements_are element, sum_by_more_le element_count nodes i child within, same)

pub count_more : (nodes : List Node) (i : ℕ) (child : Node) → slice_get nodes i ≡ Some child
    → count_to (i + 1) nodes ≡ count_to i nodes + element_count child
count_more nodes i child at =
    let same = ap element_count (get_or_from_slice_get nodes i child child at) in
    omega (arith, sum_by_more element_count nodes i child (slice_get_within nodes i child at), same)

pub count_all : (element : Node) (i : ℕ) → length (children_of element) ≤ i
    → element_count element ≡ 1 + count_to i (children_of element)
count_all element i past = elements_are element ∙ ap (λ l. 1 + sum_by element_count l) (sym (take_all i (children_of element) past))

-- ---- an element that is numbered, with the first so many of its children

pub record IsNumberedTo (id place : ℕ) (element now : Node) : Type 0 where
  pub head : head_of now ≡ with_id id (head_of element)
  pub children : children_of now ≡ numbered_to place (id + 1) (children_of element)

pub as_many : (id place : ℕ) (element now : Node) → IsNumberedTo id place element now
    → length (children_of now) ≡ length (children_of element)
as_many id place element now h = ap length h.children ∙ numbered_length place (id + 1) (children_of element)

-- the next child is as it was
pub next_child : (id place : ℕ) (element now child : Node) → IsNumberedTo id place element now
    → slice_get (children_of now) place ≡ Some child → slice_get (children_of element) place ≡ Some child
next_child id place element now child h at =
    sym (numbered_next place (id + 1) (children_of element)) ∙ ap (λ l. slice_get l place) (sym h.children) ∙ at

-- none has its id yet
pub numbered_first : (id : ℕ) (element : Node) → IsNumberedTo id 0 element (node (with_id id (head_of element)) (children_of element))
numbered_first id element = record {
  head = head_rolled (with_id id (head_of element)) (children_of element);
  children = children_rolled (with_id id (head_of element)) (children_of element);
}

-- one child more
pub numbered_step : (id place next : ℕ) (element now child new : Node) → IsNumberedTo id place element now
    → slice_get (children_of element) place ≡ Some child → next ≡ id + 1 + count_to place (children_of element)
    → new ≡ renumbered next child → IsNumberedTo id (place + 1) element (node (head_of now) (slice_set (children_of now) place new))
numbered_step id place next element now child new h at is new_is = record {
  head = head_rolled (head_of now) (slice_set (children_of now) place new) ∙ h.head;
  children = children_rolled (head_of now) (slice_set (children_of now) place new)
      ∙ rw (h.children, new_is, is) (numbered_more place (id + 1) (children_of element) child at);
}

-- all of them
pub numbered_whole : (id place : ℕ) (element now : Node) → length (children_of element) ≤ place → IsNumberedTo id place element now
    → now ≡ renumbered id element
numbered_whole id place element now past h =
    sym (roll-out-Node now)
    ∙ ap (λ head. node head (children_of now)) h.head
    ∙ ap (node (with_id id (head_of element))) (h.children ∙ all_numbered place (id + 1) (children_of element) past)
    ∙ sym (renumbered_out id element)
