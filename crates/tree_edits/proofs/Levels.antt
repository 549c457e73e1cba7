-- The elements of a node at another level are the same ones, each so many levels further down.
use Rattle.std.proofs.Common.{◌≡◌, ◌∙◌, sym, ap, refl, subst, ℕ, ◌+◌, List, [], ◌∷◌, ◌++◌, length, map, All, arith}
use Rattle.std.proofs.lemmas.List.{length-map, map-append}
use Rattle.std.proofs.lemmas.List.Elements.{recursion_from_All, All-from_recursion}
use Rattle.std.proofs.lemmas.List.Sums.{sum_by-cons}
use Rattle.std.specs.List.{AllByRecursion, flat_map, sum_by}
use Rattle.math_tree.proofs.Nodes.{by_children, listed_element}
use Rattle.math_tree.specs.Trees.{Listed, listed, ids_of, element_count, byte_count, bytes_of_head, IsProper}
use Rattle.math_tree.specs.declared.node.Node.{Node}
use Rattle.tree_edits.proofs.Frames.{entry}
use Rattle.tree_edits.specs.Paths.{children_of}
use Rattle.tree_edits.specs.Reasons.{shown}

abbrev pub raised : ℕ → Listed → Listed
raised more e = entry (e.level + more) e.head e.children

abbrev IsRaised : Node → Type 0
IsRaised n = (level more : ℕ) → listed (level + more) n ≡ map (raised more) (listed level n)

all_raised : (nodes : List Node) (level more : ℕ) → AllByRecursion IsRaised nodes
    → flat_map (listed (level + more + 1)) nodes ≡ map (raised more) (flat_map (listed (level + 1)) nodes)
all_raised [] level more h = refl
all_raised (n ∷ nodes) level more h =
    let rest = flat_map (listed (level + more + 1)) nodes in
    let same : level + more + 1 ≡ level + 1 + more = omega arith in
    ap (λ l. listed l n ++ rest) same
    ∙ ap (λ l. l ++ rest) (h.0 (level + 1) more)
    ∙ ap (λ l. map (raised more) (listed (level + 1) n) ++ l) (all_raised nodes level more h.1)
    ∙ sym (map-append (raised more) (listed (level + 1) n) (flat_map (listed (level + 1)) nodes))

pub listed_raised : (n : Node) → IsRaised n
listed_raised = by_children IsRaised (λ n h level more.
    listed_element (level + more) n
    ∙ ap (λ l. shown (level + more) n ∷ l) (all_raised (children_of n) level more h)
    ∙ sym (ap (map (raised more)) (listed_element level n)))

-- from level 0
from_top : (level : ℕ) (n : Node) → listed level n ≡ map (raised level) (listed 0 n)
from_top level n =
    let same : level ≡ 0 + level = omega arith in
    ap (λ l. listed l n) same ∙ listed_raised n 0 level

-- ---- as many, and as many bytes

length_from_top : (level : ℕ) (n : Node) → length (listed level n) ≡ length (listed 0 n)
length_from_top level n = ap length (from_top level n) ∙ length-map (listed 0 n) (raised level)

pub length_at : (level : ℕ) (n : Node) → length (listed level n) ≡ element_count n
length_at level n = length_from_top level n ∙ sym (length_from_top 1 n)

-- the bytes that elements hold
abbrev pub bytes_in : List Listed → ℕ
bytes_in elements = sum_by (λ e. bytes_of_head e.head) elements

bytes_raised : (more : ℕ) (elements : List Listed) → bytes_in (map (raised more) elements) ≡ bytes_in elements
bytes_raised more [] = refl
bytes_raised more (e ∷ elements) =
    let before = sum_by-cons (λ (e : Listed). bytes_of_head e.head) e elements in
    let after = sum_by-cons (λ (e : Listed). bytes_of_head e.head) (raised more e) (map (raised more) elements) in
    omega (arith, before, after, bytes_raised more elements)

bytes_from_top : (level : ℕ) (n : Node) → bytes_in (listed level n) ≡ bytes_in (listed 0 n)
bytes_from_top level n = ap bytes_in (from_top level n) ∙ bytes_raised level (listed 0 n)

pub bytes_at : (level : ℕ) (n : Node) → bytes_in (listed level n) ≡ byte_count n
bytes_at level n = bytes_from_top level n ∙ sym (bytes_from_top 1 n)

-- ---- the same ids

ids_raised : (more : ℕ) (elements : List Listed) → ids_of (map (raised more) elements) ≡ ids_of elements
ids_raised more [] = refl
ids_raised more (e ∷ elements) = ap (◌∷◌ e.head.id.0) (ids_raised more elements)

ids_from_top : (level : ℕ) (n : Node) → ids_of (listed level n) ≡ ids_of (listed 0 n)
ids_from_top level n = ap ids_of (from_top level n) ∙ ids_raised level (listed 0 n)

pub ids_at : (level : ℕ) (n : Node) → ids_of (listed 1 n) ≡ ids_of (listed level n)
ids_at level n = ids_from_top 1 n ∙ sym (ids_from_top level n)

-- ---- as proper

lowered : (e : Listed) (a b : ℕ) → IsProper (raised a e) → IsProper (raised b e)
lowered e a b p = record {
  kind = p.kind;
  name = p.name;
  attributes = p.attributes;
  order = p.order;
  text = p.text;
  childless = p.childless;
  textless = p.textless;
}

all_lowered : (elements : List Listed) (a b : ℕ) → AllByRecursion IsProper (map (raised a) elements) → AllByRecursion IsProper (map (raised b) elements)
all_lowered [] a b h = tt
all_lowered (e ∷ elements) a b h = (lowered e a b h.0, all_lowered elements a b h.1)

pub proper_at : (level : ℕ) (n : Node) → All IsProper (listed 1 n) → All IsProper (listed level n)
proper_at level n h =
    let top = subst (AllByRecursion IsProper) (from_top 1 n) (recursion_from_All IsProper (listed 1 n) h) in
    All-from_recursion IsProper (listed level n)
    (subst (AllByRecursion IsProper) (sym (from_top level n)) (all_lowered (listed 0 n) 1 level top))

pub proper_from : (level : ℕ) (n : Node) → AllByRecursion IsProper (listed level n) → All IsProper (listed 1 n)
proper_from level n h =
    let top = subst (AllByRecursion IsProper) (from_top level n) h in
    All-from_recursion IsProper (listed 1 n)
    (subst (AllByRecursion IsProper) (sym (from_top 1 n)) (all_lowered (listed 0 n) level 1 top))
