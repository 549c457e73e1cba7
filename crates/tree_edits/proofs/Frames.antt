-- The elements of a tree in which one element is changed: those listed before its own, its own, and
-- those behind them.
use Rattle.std.proofs.Common.{◌≡◌, ◌∙◌, sym, ap, refl, ℕ, zero, suc, ◌+◌, List, [], ◌∷◌, ◌++◌, length, slice_get, slice_set, take, drop, Option, Some, None, arith, add-zero}
use Rattle.std.proofs.lemmas.List.{append-nil, append_assoc}
use Rattle.std.proofs.lemmas.Option.{none-some, same_Some}
use Rattle.std.specs.List.{flat_map}
use Rattle.std.specs.Option.{option_and_then, option_map_or}
use Rattle.math_tree.proofs.Nodes.{listed_element}
use Rattle.math_tree.specs.Trees.{Listed, node, listed}
use Rattle.math_tree.specs.declared.node.Head.{Head}
use Rattle.math_tree.specs.declared.node.Node.{Node}
use Rattle.math_tree.specs.declared.node.Node.TheOpen.{Node-F}
use Rattle.math_tree.specs.declared.node.Node.TheViews.{out-roll-Node, roll-out-Node}
use Rattle.tree_edits.specs.Edits.{head_of}
use Rattle.tree_edits.specs.Paths.{children_of, node_at, changed_at}

abbrev pub entry : ℕ → Head → ℕ → Listed
entry level head children = record { level = level; head = head; children = children }

-- ---- an element over its children

pub head_rolled : (head : Head) (nodes : List Node) → head_of (node head nodes) ≡ head
head_rolled head nodes = ap (λ (l : Node-F Node). l.head) (out-roll-Node record { head = head; children = nodes })

pub children_rolled : (head : Head) (nodes : List Node) → children_of (node head nodes) ≡ nodes
children_rolled head nodes = ap (λ (l : Node-F Node). l.children) (out-roll-Node record { head = head; children = nodes })

-- it stands before those in its children
pub listed_out : (level : ℕ) (head : Head) (nodes : List Node)
    → listed level (node head nodes) ≡ entry level head (length nodes) ∷ flat_map (listed (level + 1)) nodes
listed_out level head nodes =
    listed_element level (node head nodes)
    ∙ ap (λ (l : Node-F Node). entry level l.head (length l.children) ∷ flat_map (listed (level + 1)) l.children)
    (out-roll-Node record { head = head; children = nodes })

-- ---- one child put in place of another

pub length_set : (nodes : List Node) (i : ℕ) (m : Node) → length (slice_set nodes i m) ≡ length nodes
length_set [] i m = refl
length_set (n ∷ nodes) zero m = refl
length_set (n ∷ nodes) (suc i) m = ap suc (length_set nodes i m)

pub put_back : (nodes : List Node) (i : ℕ) (child : Node) → slice_get nodes i ≡ Some child → slice_set nodes i child ≡ nodes
put_back [] i child at = absurd (none-some child at)
put_back (n ∷ nodes) zero child at = ap (λ m. m ∷ nodes) (sym (same_Some n child at))
put_back (n ∷ nodes) (suc i) child at = ap (◌∷◌ n) (put_back nodes i child at)

-- the elements side by side, where one child is another
pub flat_set : (list : Node → List Listed) (nodes : List Node) (i : ℕ) (child m : Node) → slice_get nodes i ≡ Some child
    → flat_map list (slice_set nodes i m) ≡ flat_map list (take i nodes) ++ (list m ++ flat_map list (drop (suc i) nodes))
flat_set list [] i child m at = absurd (none-some child at)
flat_set list (n ∷ nodes) zero child m at = refl
flat_set list (n ∷ nodes) (suc i) child m at =
    ap (λ rest. list n ++ rest) (flat_set list nodes i child m at)
    ∙ sym (append_assoc (list n) (flat_map list (take i nodes)) (list m ++ flat_map list (drop (suc i) nodes)))

-- ---- ways down

-- a way leads to a part of the node that it begins at
pub down : (path : List ℕ) (o : Option Node) (t : Node) → option_and_then (node_at path) o ≡ Some t
    → (child : Node) × (o ≡ Some child) × (node_at path child ≡ Some t)
down path None t at = absurd (none-some t at)
down path (Some child) t at = (child, refl, at)

-- an element that is changed below is its own head over the other child
pub changed_below : (change : Node → Node) (place : ℕ) (path : List ℕ) (from child : Node) → slice_get (children_of from) place ≡ Some child
    → changed_at change (place ∷ path) from ≡ node (head_of from) (slice_set (children_of from) place (changed_at change path child))
changed_below change place path from child at =
    ap (λ o. option_map_or (λ c. node (head_of from) (slice_set (children_of from) place (changed_at change path c))) o from) at

-- what changes nothing at the end of a way gives the same tree
pub unchanged : (path : List ℕ) (from element : Node) → node_at path from ≡ Some element → changed_at (λ n. n) path from ≡ from
unchanged [] from element at = refl
unchanged (place ∷ path) from element at =
    let below = down path (slice_get (children_of from) place) element at in
    changed_below (λ n. n) place path from below.0 below.1
    ∙ ap (λ m. node (head_of from) (slice_set (children_of from) place m)) (unchanged path below.0 element below.2)
    ∙ ap (node (head_of from)) (put_back (children_of from) place below.0 below.1)
    ∙ roll-out-Node from

-- ---- what stands before the element at the end of a way, and what stands behind it

pub record Framed (level : ℕ) (path : List ℕ) (from element : Node) : Type 0 where
  pub front : List Listed
  pub back : List Listed
  pub after : (change : Node → Node) → listed level (changed_at change path from) ≡ front ++ (listed (level + length path) (change element) ++ back)

pub framed : (level : ℕ) (path : List ℕ) (from element : Node) → node_at path from ≡ Some element → Framed level path from element
framed level [] from element at = record {
  front = [];
  back = [];
  after = λ change.
      ap (λ n. listed level (change n)) (same_Some from element at)
      ∙ ap (λ l. listed l (change element)) (sym (add-zero level))
      ∙ sym (append-nil (listed (level + 0) (change element)));
}
framed level (place ∷ path) from element at =
    let nodes = children_of from in
    let list = listed (level + 1) in
    let below = down path (slice_get nodes place) element at in
    let child = below.0 in
    let inner = framed (level + 1) path child element below.2 in
    let first = entry level (head_of from) (length nodes) in
    let before = flat_map list (take place nodes) in
    let behind = flat_map list (drop (suc place) nodes) in
    record {
      front = first ∷ (before ++ inner.front);
      back = inner.back ++ behind;
      after = λ change.
          let changed = changed_at change path child in
          let own = listed (level + length (place ∷ path)) (change element) in
          let deep : level + 1 + length path ≡ level + length (place ∷ path) = omega arith in
          let deeper : list changed ≡ inner.front ++ (own ++ inner.back) =
          inner.after change ∙ ap (λ l. inner.front ++ (listed l (change element) ++ inner.back)) deep in
          ap (listed level) (changed_below change place path from child below.1)
          ∙ listed_out level (head_of from) (slice_set nodes place changed)
          ∙ ap (λ n. entry level (head_of from) n ∷ flat_map list (slice_set nodes place changed)) (length_set nodes place changed)
          ∙ ap (λ rest. first ∷ rest)
          (flat_set list nodes place child changed below.1
          ∙ ap (λ l. before ++ (l ++ behind)) deeper
          ∙ ap (λ l. before ++ l) (append_assoc inner.front (own ++ inner.back) behind ∙ ap (λ l. inner.front ++ l) (append_assoc own inner.back behind))
          ∙ sym (append_assoc before inner.front (own ++ (inner.back ++ behind))));
    }

-- the tree as it is
pub before_change : (level : ℕ) (path : List ℕ) (from element : Node) → node_at path from ≡ Some element
    → (frame : Framed level path from element) → listed level from ≡ frame.front ++ (listed (level + length path) element ++ frame.back)
before_change level path from element at frame = ap (listed level) (sym (unchanged path from element at)) ∙ frame.after (λ n. n)
