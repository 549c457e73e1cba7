-- The map over all elements changes one: where their ids differ, it is the change at the way to it.
use Rattle.std.proofs.Common.{◌≡◌, ◌∙◌, sym, ap, refl, ℕ, zero, suc, ◌+◌, ◌≤◌, List, [], ◌∷◌, map, slice_get, slice_set, Bool, true, false, not, cond, nat_eq, Option, Some, None, arith, true≢false}
use Rattle.std.proofs.lemmas.Bool.{false_from_ne_true}
use Rattle.std.proofs.lemmas.Bool.Decides.{Decides-eqb}
use Rattle.std.proofs.lemmas.List.Sums.{sum_by-cons}
use Rattle.std.proofs.lemmas.Option.{none-some, same_Some}
use Rattle.std.specs.List.{AllByRecursion, IsDistinct, filter, insert, remove, sum_by}
use Rattle.std.specs.Option.{option_and_then, option_map_or}
use Rattle.math_tree.proofs.Counts.{total_is}
use Rattle.math_tree.proofs.Nodes.{by_children}
use Rattle.math_tree.specs.Numbering.{renumbered}
use Rattle.math_tree.specs.Trees.{Listed, node, listed, ids_of}
use Rattle.math_tree.specs.declared.node.Head.{Head}
use Rattle.math_tree.specs.declared.node.Node.{Node}
use Rattle.math_tree.specs.declared.node.Node.TheFolds.{fold_out-Node}
use Rattle.math_tree.specs.declared.node.Node.TheOpen.{Node-F}
use Rattle.math_tree.specs.declared.node.Node.TheViews.{roll-out-Node, out-roll-Node}
use Rattle.tree_edits.specs.Edits.{named, has_id, head_of, with_text, with_attribute, made, layer_made, edited_node}
use Rattle.tree_edits.specs.Laws.{IsOwn, own_change, OwnChangeLaw, IsOfParent, parent_change, ParentChangeLaw}
use Rattle.tree_edits.specs.Paths.{children_of, node_at, changed_at, changed}
use Rattle.tree_edits.specs.declared.edit.Edit.{Edit}
use Rattle.tree_edits.specs.declared.edit.Edit.TheVariants.{Text, Attr, Insert, Remove, Replace, Graft, Swap}

-- ---- what an edit makes of an element

pub edited_out : (edit : Edit) (next : ℕ) (n : Node)
    → edited_node edit next n ≡ made edit next (head_of n) (map (edited_node edit next) (children_of n))
unfolding edited_node
edited_out edit next n = fold_out-Node Node (layer_made edit next) n

-- none of these has the id
abbrev HaveNot : ℕ → List Node → Type 0
HaveNot id nodes = AllByRecursion (λ n. has_id id (head_of n) ≡ false) nodes

all_kept : (id : ℕ) (nodes : List Node) → HaveNot id nodes → filter (λ n. not (has_id id (head_of n))) nodes ≡ nodes
all_kept id [] h = refl
all_kept id (n ∷ nodes) h = rw h.0 (ap (◌∷◌ n) (all_kept id nodes h.1))

all_left : (id : ℕ) (new : Node) (nodes : List Node) → HaveNot id nodes
    → map (λ n. cond (has_id id (head_of n)) new n) nodes ≡ nodes
all_left id new [] h = refl
all_left id new (n ∷ nodes) h = rw h.0 (ap (◌∷◌ n) (all_left id new nodes h.1))

-- an element that it doesn't name, over children that it doesn't name, stays
made_same : (edit : Edit) (next : ℕ) (head : Head) (nodes : List Node) → has_id (named edit) head ≡ false → HaveNot (named edit) nodes
    → made edit next head nodes ≡ node head nodes
made_same (Text id text) next head nodes not h = ap (λ b. node (cond b (with_text text head) head) nodes) not
made_same (Attr id name value) next head nodes not h = ap (λ b. node (cond b (with_attribute name value head) head) nodes) not
made_same (Insert id index new) next head nodes not h =
    ap (λ b. node head (cond b (insert nodes index (renumbered next new)) nodes)) not
made_same (Remove id) next head nodes not h = ap (node head) (all_kept id.0 nodes h)
made_same (Replace id new) next head nodes not h = ap (node head) (all_left id.0 (renumbered next new) nodes h)
made_same (Graft id index new) next head nodes not h = ap (λ b. node head (cond b (insert nodes index new) nodes)) not
made_same (Swap id new) next head nodes not h = ap (node head) (all_left id.0 new nodes h)

-- ---- how often an id is in a node

abbrev one_if : Bool → ℕ
one_if true = 1
one_if false = 0

abbrev own : ℕ → Head → ℕ
own id head = one_if (has_id id head)

abbrev pub times : ℕ → Node → ℕ
times id n = sum_by (λ e. own id e.head) (listed 1 n)

pub times_out : (id : ℕ) (n : Node) → times id n ≡ own id (head_of n) + sum_by (times id) (children_of n)
times_out id n = total_is (own id) n

is_zero : (b : Bool) → one_if b ≡ 0 → b ≡ false
is_zero true e = absurd (omega (arith, e))
is_zero false e = refl

pub has_not : (id : ℕ) (head : Head) → own id head ≡ 0 → has_id id head ≡ false
has_not id head e = is_zero (has_id id head) e

pub has_one : (id : ℕ) (head : Head) → has_id id head ≡ true → own id head ≡ 1
has_one id head e = ap one_if e

-- a child holds it no more often than all of them
pub holds : (id : ℕ) (nodes : List Node) (i : ℕ) (child : Node) → slice_get nodes i ≡ Some child → times id child ≤ sum_by (times id) nodes
holds id [] i child at = absurd (none-some child at)
holds id (n ∷ nodes) zero child at =
    let same = ap (times id) (same_Some n child at) in
    omega (arith, same, sum_by-cons (times id) n nodes)
holds id (n ∷ nodes) (suc i) child at = omega (arith, holds id nodes i child at, sum_by-cons (times id) n nodes)

-- a way leads to a part of the node that it begins at
step : (path : List ℕ) (o : Option Node) (t : Node) → option_and_then (node_at path) o ≡ Some t
    → (child : Node) × (o ≡ Some child) × (node_at path child ≡ Some t)
step path None t at = absurd (none-some t at)
step path (Some child) t at = (child, refl, at)

pub present : (id : ℕ) (path : List ℕ) (n t : Node) → node_at path n ≡ Some t → has_id id (head_of t) ≡ true → 1 ≤ times id n
present id [] n t at has =
    let same = ap (times id) (same_Some n t at) in
    omega (arith, same, times_out id t, has_one id (head_of t) has)
present id (i ∷ path) n t at has =
    let below = step path (slice_get (children_of n) i) t at in
    omega (arith, present id path below.0 t below.2 has, holds id (children_of n) i below.0 below.1, times_out id n)

heads_have_not : (id : ℕ) (nodes : List Node) → sum_by (times id) nodes ≡ 0 → HaveNot id nodes
heads_have_not id [] none = tt
heads_have_not id (n ∷ nodes) none =
    let cons = sum_by-cons (times id) n nodes in
    (has_not id (head_of n) (omega (arith, none, cons, times_out id n)), heads_have_not id nodes (omega (arith, none, cons)))

module _ (edit : Edit) (next : ℕ) where
  abbrev sought : ℕ
  sought = named edit

  abbrev after : Node → Node
  after = edited_node edit next

  abbrev Stays : Node → Type 0
  Stays n = times sought n ≡ 0 → after n ≡ n

  all_stay : (nodes : List Node) → AllByRecursion Stays nodes → sum_by (times sought) nodes ≡ 0 → map after nodes ≡ nodes
  all_stay [] stay none = refl
  all_stay (n ∷ nodes) stay none =
      let cons = sum_by-cons (times sought) n nodes in
      let first : after n ≡ n = stay.0 (omega (arith, none, cons)) in
      let rest = all_stay nodes stay.1 (omega (arith, none, cons)) in
      ap (λ m. m ∷ map after nodes) first ∙ ap (◌∷◌ n) rest

  -- where the id isn't found, a node stays
  pub stays : (n : Node) → Stays n
  stays = by_children Stays (λ n below none.
      let out = times_out sought n in
      let rest : sum_by (times sought) (children_of n) ≡ 0 = omega (arith, none, out) in
      let mine = has_not sought (head_of n) (omega (arith, none, out)) in
      edited_out edit next n
      ∙ ap (made edit next (head_of n)) (all_stay (children_of n) below rest)
      ∙ made_same edit next (head_of n) (children_of n) mine (heads_have_not sought (children_of n) rest)
      ∙ roll-out-Node n)

  stay_all : (nodes : List Node) → AllByRecursion Stays nodes
  stay_all [] = tt
  stay_all (n ∷ nodes) = (stays n, stay_all nodes)

  pub none_changes : (nodes : List Node) → sum_by (times sought) nodes ≡ 0 → map after nodes ≡ nodes
  none_changes nodes none = all_stay nodes (stay_all nodes) none

  -- of children that hold the id once, only the one that holds it changes
  pub one_changes : (nodes : List Node) (i : ℕ) (child : Node) → slice_get nodes i ≡ Some child
      → sum_by (times sought) nodes ≤ 1 → 1 ≤ times sought child → map after nodes ≡ slice_set nodes i (after child)
  one_changes [] i child at once some = absurd (none-some child at)
  one_changes (n ∷ nodes) zero child at once some =
      let cons = sum_by-cons (times sought) n nodes in
      let same = same_Some n child at in
      let equal = ap (times sought) same in
      ap (◌∷◌ (after n)) (none_changes nodes (omega (arith, once, some, cons, equal))) ∙ ap (λ m. after m ∷ nodes) same
  one_changes (n ∷ nodes) (suc i) child at once some =
      let cons = sum_by-cons (times sought) n nodes in
      let within = holds sought nodes i child at in
      ap (λ m. m ∷ map after nodes) (stays n (omega (arith, once, some, cons, within)))
      ∙ ap (◌∷◌ n) (one_changes nodes i child at (omega (arith, once, cons)) some)

-- ---- the way to it

own_here : (edit : Edit) (next : ℕ) (n : Node) → IsOwn edit → has_id (named edit) (head_of n) ≡ true
    → made edit next (head_of n) (children_of n) ≡ changed (own_change edit next) n
own_here (Text id text) next n is has = ap (λ b. node (cond b (with_text text (head_of n)) (head_of n)) (children_of n)) has
own_here (Attr id name value) next n is has = ap (λ b. node (cond b (with_attribute name value (head_of n)) (head_of n)) (children_of n)) has
own_here (Insert id index new) next n is has =
    ap (λ b. node (head_of n) (cond b (insert (children_of n) index (renumbered next new)) (children_of n))) has
own_here (Remove id) next n is has = absurd is
own_here (Replace id new) next n is has = absurd is
own_here (Graft id index new) next n is has =
    ap (λ b. node (head_of n) (cond b (insert (children_of n) index new) (children_of n))) has
own_here (Swap id new) next n is has = absurd is

own_above : (edit : Edit) (next : ℕ) (head : Head) (nodes : List Node) → IsOwn edit → has_id (named edit) head ≡ false
    → made edit next head nodes ≡ node head nodes
own_above (Text id text) next head nodes is not = ap (λ b. node (cond b (with_text text head) head) nodes) not
own_above (Attr id name value) next head nodes is not = ap (λ b. node (cond b (with_attribute name value head) head) nodes) not
own_above (Insert id index new) next head nodes is not = ap (λ b. node head (cond b (insert nodes index (renumbered next new)) nodes)) not
own_above (Remove id) next head nodes is not = absurd is
own_above (Replace id new) next head nodes is not = absurd is
own_above (Graft id index new) next head nodes is not = ap (λ b. node head (cond b (insert nodes index new) nodes)) not
own_above (Swap id new) next head nodes is not = absurd is

-- an edit of the element that it names is the change of that element
pub own_changed : (edit : Edit) (next : ℕ) (path : List ℕ) (n t : Node) → IsOwn edit → node_at path n ≡ Some t
    → has_id (named edit) (head_of t) ≡ true → times (named edit) n ≤ 1
    → edited_node edit next n ≡ changed_at (changed (own_change edit next)) path n
own_changed edit next [] n t is at has once =
    let id = named edit in
    let here : has_id id (head_of n) ≡ true = ap (λ m. has_id id (head_of m)) (same_Some n t at) ∙ has in
    let none : sum_by (times id) (children_of n) ≡ 0 = omega (arith, once, times_out id n, has_one id (head_of n) here) in
    edited_out edit next n
    ∙ ap (made edit next (head_of n)) (none_changes edit next (children_of n) none)
    ∙ own_here edit next n is here
own_changed edit next (i ∷ path) n t is at has once =
    let id = named edit in
    let g = changed (own_change edit next) in
    let below = step path (slice_get (children_of n) i) t at in
    let child = below.0 in
    let some = present id path child t below.2 has in
    let within = holds id (children_of n) i child below.1 in
    let out = times_out id n in
    let above = has_not id (head_of n) (omega (arith, once, some, within, out)) in
    let again = own_changed edit next path child t is below.2 has (omega (arith, once, within, out)) in
    edited_out edit next n
    ∙ ap (made edit next (head_of n)) (one_changes edit next (children_of n) i child below.1 (omega (arith, once, out)) some)
    ∙ own_above edit next (head_of n) (slice_set (children_of n) i (edited_node edit next child)) is above
    ∙ ap (λ m. node (head_of n) (slice_set (children_of n) i m)) again
    ∙ sym (ap (λ o. option_map_or (λ c. node (head_of n) (slice_set (children_of n) i (changed_at g path c))) o n) below.1)

-- ---- ids that differ

apart : (id a b : ℕ) → nat_eq a id ≡ true → nat_eq a b ≡ false → nat_eq b id ≡ false
apart id a b same other =
    false_from_ne_true (nat_eq b id) (λ e. true≢false (sym ((Decides-eqb a b).1 ((Decides-eqb a id).0 same ∙ sym ((Decides-eqb b id).0 e))) ∙ other))

abbrev count : ℕ → List Listed → ℕ
count id elements = sum_by (λ e. own id e.head) elements

none_other : (id a : ℕ) (elements : List Listed) → nat_eq a id ≡ true
    → AllByRecursion (λ n. nat_eq a n ≡ false) (ids_of elements) → count id elements ≡ 0
none_other id a [] same h = refl
none_other id a (e ∷ elements) same h =
    let cons = sum_by-cons (λ (e : Listed). own id e.head) e elements in
    let mine : own id e.head ≡ 0 = ap one_if (apart id a e.head.id.0 same h.0) in
    omega (arith, cons, mine, none_other id a elements same h.1)

once_at : (id : ℕ) (e : Listed) (elements : List Listed) (b : Bool) → has_id id e.head ≡ b
    → AllByRecursion (λ n. nat_eq e.head.id.0 n ≡ false) (ids_of elements) → count id elements ≤ 1 → count id (e ∷ elements) ≤ 1
once_at id e elements true has h rest =
    let cons = sum_by-cons (λ (e : Listed). own id e.head) e elements in
    omega (arith, cons, has_one id e.head has, none_other id e.head.id.0 elements has h)
once_at id e elements false has h rest =
    let cons = sum_by-cons (λ (e : Listed). own id e.head) e elements in
    let mine : own id e.head ≡ 0 = ap one_if has in
    omega (arith, cons, mine, rest)

-- ids that differ hold each one once
pub once : (id : ℕ) (elements : List Listed) → IsDistinct nat_eq (ids_of elements) → count id elements ≤ 1
unfolding IsDistinct
once id [] d = omega arith
once id (e ∷ elements) d = once_at id e elements (has_id id e.head) refl d.0 (once id elements d.1)

pub own_change_law : OwnChangeLaw
own_change_law tree edit path element whole is at has =
    own_changed edit tree.next_id path tree.root element is at has (once (named edit) (listed 1 tree.root) whole.distinct)

-- ---- edits of the element over the one that is named

up_above : (edit : Edit) (next : ℕ) (head : Head) (nodes : List Node) → IsOfParent edit → HaveNot (named edit) nodes
    → made edit next head nodes ≡ node head nodes
up_above (Text id text) next head nodes is h = absurd is
up_above (Attr id name value) next head nodes is h = absurd is
up_above (Insert id index new) next head nodes is h = absurd is
up_above (Remove id) next head nodes is h = ap (node head) (all_kept id.0 nodes h)
up_above (Replace id new) next head nodes is h = ap (node head) (all_left id.0 (renumbered next new) nodes h)
up_above (Graft id index new) next head nodes is h = absurd is
up_above (Swap id new) next head nodes is h = ap (node head) (all_left id.0 new nodes h)

gone : (b : Bool) (n : Node) (rest : List Node) → b ≡ true → cond (not b) (n ∷ rest) rest ≡ rest
gone b n rest e = rw e refl

kept : (b : Bool) (n : Node) (rest : List Node) → b ≡ false → cond (not b) (n ∷ rest) rest ≡ n ∷ rest
kept b n rest e = rw e refl

swapped : (b : Bool) (new n : Node) → b ≡ true → cond b new n ≡ new
swapped b new n e = rw e refl

left : (b : Bool) (new n : Node) → b ≡ false → cond b new n ≡ n
left b new n e = rw e refl

one_goes : (id : ℕ) (nodes : List Node) (i : ℕ) (child : Node) → slice_get nodes i ≡ Some child → has_id id (head_of child) ≡ true
    → sum_by (times id) nodes ≤ 1 → filter (λ n. not (has_id id (head_of n))) nodes ≡ remove nodes i
one_goes id [] i child at has once = absurd (none-some child at)
one_goes id (n ∷ nodes) zero child at has once =
    let cons = sum_by-cons (times id) n nodes in
    let here : has_id id (head_of n) ≡ true = ap (λ m. has_id id (head_of m)) (same_Some n child at) ∙ has in
    let none : sum_by (times id) nodes ≡ 0 = omega (arith, once, cons, times_out id n, has_one id (head_of n) here) in
    gone (has_id id (head_of n)) n (filter (λ m. not (has_id id (head_of m))) nodes) here
    ∙ all_kept id nodes (heads_have_not id nodes none)
one_goes id (n ∷ nodes) (suc i) child at has once =
    let cons = sum_by-cons (times id) n nodes in
    let within = holds id nodes i child at in
    let mine = has_not id (head_of n) (omega (arith, once, cons, within, times_out id n, times_out id child, has_one id (head_of child) has)) in
    kept (has_id id (head_of n)) n (filter (λ m. not (has_id id (head_of m))) nodes) mine
    ∙ ap (◌∷◌ n) (one_goes id nodes i child at has (omega (arith, once, cons)))

one_swapped : (id : ℕ) (new : Node) (nodes : List Node) (i : ℕ) (child : Node) → slice_get nodes i ≡ Some child → has_id id (head_of child) ≡ true
    → sum_by (times id) nodes ≤ 1 → map (λ n. cond (has_id id (head_of n)) new n) nodes ≡ slice_set nodes i new
one_swapped id new [] i child at has once = absurd (none-some child at)
one_swapped id new (n ∷ nodes) zero child at has once =
    let cons = sum_by-cons (times id) n nodes in
    let here : has_id id (head_of n) ≡ true = ap (λ m. has_id id (head_of m)) (same_Some n child at) ∙ has in
    let none : sum_by (times id) nodes ≡ 0 = omega (arith, once, cons, times_out id n, has_one id (head_of n) here) in
    ap (λ m. m ∷ map (λ x. cond (has_id id (head_of x)) new x) nodes) (swapped (has_id id (head_of n)) new n here)
    ∙ ap (◌∷◌ new) (all_left id new nodes (heads_have_not id nodes none))
one_swapped id new (n ∷ nodes) (suc i) child at has once =
    let cons = sum_by-cons (times id) n nodes in
    let within = holds id nodes i child at in
    let mine = has_not id (head_of n) (omega (arith, once, cons, within, times_out id n, times_out id child, has_one id (head_of child) has)) in
    ap (λ m. m ∷ map (λ x. cond (has_id id (head_of x)) new x) nodes) (left (has_id id (head_of n)) new n mine)
    ∙ ap (◌∷◌ n) (one_swapped id new nodes i child at has (omega (arith, once, cons)))

up_here : (edit : Edit) (next : ℕ) (n : Node) (i : ℕ) (child : Node) → IsOfParent edit → slice_get (children_of n) i ≡ Some child
    → has_id (named edit) (head_of child) ≡ true → sum_by (times (named edit)) (children_of n) ≤ 1
    → made edit next (head_of n) (children_of n) ≡ changed (parent_change edit next i) n
up_here (Text id text) next n i child is at has once = absurd is
up_here (Attr id name value) next n i child is at has once = absurd is
up_here (Insert id index new) next n i child is at has once = absurd is
up_here (Remove id) next n i child is at has once = ap (node (head_of n)) (one_goes id.0 (children_of n) i child at has once)
up_here (Replace id new) next n i child is at has once =
    ap (node (head_of n)) (one_swapped id.0 (renumbered next new) (children_of n) i child at has once)
up_here (Graft id index new) next n i child is at has once = absurd is
up_here (Swap id new) next n i child is at has once = ap (node (head_of n)) (one_swapped id.0 new (children_of n) i child at has once)

-- what stands at a place is put back there
put_back : (nodes : List Node) (i : ℕ) (child : Node) → slice_get nodes i ≡ Some child → slice_set nodes i child ≡ nodes
put_back [] i child at = absurd (none-some child at)
put_back (n ∷ nodes) zero child at = ap (λ m. m ∷ nodes) (sym (same_Some n child at))
put_back (n ∷ nodes) (suc i) child at = ap (◌∷◌ n) (put_back nodes i child at)

head_rolled : (head : Head) (nodes : List Node) → head_of (node head nodes) ≡ head
head_rolled head nodes = ap (λ (l : Node-F Node). l.head) (out-roll-Node record { head = head; children = nodes })

head_kept : (edit : Edit) (next : ℕ) (head : Head) (nodes : List Node) → IsOfParent edit → head_of (made edit next head nodes) ≡ head
head_kept (Text id text) next head nodes is = absurd is
head_kept (Attr id name value) next head nodes is = absurd is
head_kept (Insert id index new) next head nodes is = absurd is
head_kept (Remove id) next head nodes is = head_rolled head (filter (λ n. not (has_id id.0 (head_of n))) nodes)
head_kept (Replace id new) next head nodes is = head_rolled head (map (λ n. cond (has_id id.0 (head_of n)) (renumbered next new) n) nodes)
head_kept (Graft id index new) next head nodes is = absurd is
head_kept (Swap id new) next head nodes is = head_rolled head (map (λ n. cond (has_id id.0 (head_of n)) new n) nodes)

same_head : (edit : Edit) (next : ℕ) (n : Node) → IsOfParent edit → head_of (edited_node edit next n) ≡ head_of n
same_head edit next n is =
    ap head_of (edited_out edit next n) ∙ head_kept edit next (head_of n) (map (edited_node edit next) (children_of n)) is

heads_set : (id : ℕ) (nodes : List Node) (i : ℕ) (m : Node) → has_id id (head_of m) ≡ false → HaveNot id nodes → HaveNot id (slice_set nodes i m)
heads_set id [] i m not h = tt
heads_set id (n ∷ nodes) zero m not h = (not, h.1)
heads_set id (n ∷ nodes) (suc i) m not h = (h.0, heads_set id nodes i m not h.1)

heads_none : (id : ℕ) (nodes : List Node) (i : ℕ) (child : Node) → slice_get nodes i ≡ Some child → has_id id (head_of child) ≡ false
    → 1 ≤ times id child → sum_by (times id) nodes ≤ 1 → HaveNot id nodes
heads_none id [] i child at not some once = absurd (none-some child at)
heads_none id (n ∷ nodes) zero child at not some once =
    let cons = sum_by-cons (times id) n nodes in
    let same = same_Some n child at in
    let equal = ap (times id) same in
    (ap (λ m. has_id id (head_of m)) same ∙ not, heads_have_not id nodes (omega (arith, once, some, cons, equal)))
heads_none id (n ∷ nodes) (suc i) child at not some once =
    let cons = sum_by-cons (times id) n nodes in
    let within = holds id nodes i child at in
    (has_not id (head_of n) (omega (arith, once, some, cons, within, times_out id n)), heads_none id nodes i child at not some (omega (arith, once, cons)))

present_below : (id : ℕ) (path : List ℕ) (n t : Node) (i : ℕ) (child : Node) → node_at path n ≡ Some t
    → slice_get (children_of t) i ≡ Some child → has_id id (head_of child) ≡ true → 1 ≤ sum_by (times id) (children_of n)
present_below id [] n t i child at place has =
    let here : slice_get (children_of n) i ≡ Some child = ap (λ m. slice_get (children_of m) i) (same_Some n t at) ∙ place in
    omega (arith, holds id (children_of n) i child here, times_out id child, has_one id (head_of child) has)
present_below id (j ∷ path) n t i child at place has =
    let below = step path (slice_get (children_of n) j) t at in
    omega (arith, holds id (children_of n) j below.0 below.1, times_out id below.0, present_below id path below.0 t i child below.2 place has)

-- the child that is named stays as it is, until the element over it loses or changes it
named_stays : (edit : Edit) (next : ℕ) (n : Node) → IsOfParent edit → has_id (named edit) (head_of n) ≡ true → times (named edit) n ≤ 1
    → edited_node edit next n ≡ n
named_stays edit next n is has once =
    let id = named edit in
    let none : sum_by (times id) (children_of n) ≡ 0 = omega (arith, once, times_out id n, has_one id (head_of n) has) in
    edited_out edit next n
    ∙ ap (made edit next (head_of n)) (none_changes edit next (children_of n) none)
    ∙ up_above edit next (head_of n) (children_of n) is (heads_have_not id (children_of n) none)
    ∙ roll-out-Node n

-- an edit that takes or changes a child is the change of the element over it
pub parent_changed : (edit : Edit) (next : ℕ) (path : List ℕ) (n t : Node) (i : ℕ) (child : Node) → IsOfParent edit
    → node_at path n ≡ Some t → slice_get (children_of t) i ≡ Some child → has_id (named edit) (head_of child) ≡ true
    → times (named edit) n ≤ 1 → edited_node edit next n ≡ changed_at (changed (parent_change edit next i)) path n
parent_changed edit next [] n t i child is at place has once =
    let id = named edit in
    let here : slice_get (children_of n) i ≡ Some child = ap (λ m. slice_get (children_of m) i) (same_Some n t at) ∙ place in
    let out = times_out id n in
    let within = holds id (children_of n) i child here in
    let some : 1 ≤ times id child = omega (arith, times_out id child, has_one id (head_of child) has) in
    edited_out edit next n
    ∙ ap (made edit next (head_of n))
    (one_changes edit next (children_of n) i child here (omega (arith, once, out)) some
    ∙ ap (slice_set (children_of n) i) (named_stays edit next child is has (omega (arith, once, out, within)))
    ∙ put_back (children_of n) i child here)
    ∙ up_here edit next n i child is here has (omega (arith, once, out))
parent_changed edit next (j ∷ path) n t i child is at place has once =
    let id = named edit in
    let g = changed (parent_change edit next i) in
    let below = step path (slice_get (children_of n) j) t at in
    let d = below.0 in
    let out = times_out id n in
    let within = holds id (children_of n) j d below.1 in
    let inside = present_below id path d t i child below.2 place has in
    let deep = times_out id d in
    let not = has_not id (head_of d) (omega (arith, once, out, within, inside, deep)) in
    let kept : has_id id (head_of (edited_node edit next d)) ≡ false = ap (has_id id) (same_head edit next d is) ∙ not in
    let some : 1 ≤ times id d = omega (arith, inside, deep) in
    let none = heads_none id (children_of n) j d below.1 not some (omega (arith, once, out)) in
    edited_out edit next n
    ∙ ap (made edit next (head_of n)) (one_changes edit next (children_of n) j d below.1 (omega (arith, once, out)) some)
    ∙ up_above edit next (head_of n) (slice_set (children_of n) j (edited_node edit next d)) is (heads_set id (children_of n) j (edited_node edit next d) kept none)
    ∙ ap (λ m. node (head_of n) (slice_set (children_of n) j m)) (parent_changed edit next path d t i child is below.2 place has (omega (arith, once, out, within)))
    ∙ sym (ap (λ o. option_map_or (λ c. node (head_of n) (slice_set (children_of n) j (changed_at g path c))) o n) below.1)

pub parent_change_law : ParentChangeLaw
parent_change_law tree edit path element i child whole is at place has =
    parent_changed edit tree.next_id path tree.root element i child is at place has (once (named edit) (listed 1 tree.root) whole.distinct)
