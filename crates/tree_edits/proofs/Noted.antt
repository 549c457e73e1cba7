-- How many notes there are behind each child of an element.
use Rattle.std.proofs.Common.{◌≡◌, ◌∙◌, sym, ap, ℕ, zero, suc, ◌+◌, ◌<◌, ◌≤◌, List, [], ◌∷◌, ◌++◌, length, take, get_or, arith}
use Rattle.std.proofs.lemmas.List.{take_more}
use Rattle.std.proofs.lemmas.List.Sums.{sum_by-append, sum_by-cons}
use Rattle.std.specs.List.{sum_by}
use Rattle.math_tree.specs.Trees.{element_count}
use Rattle.math_tree.specs.declared.node.Node.{Node}
use Rattle.math_tree.specs.declared.node.Node.TheViews.{out-Node}
use Rattle.math_tree.proofs.Counts.{elements_are}

abbrev pub elements_in : List Node → ℕ
elements_in nodes = sum_by element_count nodes

some_of : (nodes : List Node) (i : ℕ) → elements_in (take i nodes) ≤ elements_in nodes
some_of nodes zero = omega arith
some_of [] (suc i) = omega arith
some_of (node ∷ nodes) (suc i) =
    omega (arith, sum_by-cons element_count node nodes, sum_by-cons element_count node (take i nodes), some_of nodes i)

one_more : (nodes : List Node) (i : ℕ) (child : Node) → i < length nodes → child ≡ get_or nodes i child
    → elements_in (take (i + 1) nodes) ≡ elements_in (take i nodes) + element_count child
one_more nodes i child within is =
    let last = sum_by-cons element_count child [] in
    let both = sum_by-append element_count (take i nodes) (child ∷ []) in
    ap elements_in (take_more nodes i child within ∙ ap (λ (c : Node). take i nodes ++ c ∷ []) (sym is)) ∙ omega (arith, both, last)

-- a child was noted, and then all below it
pub noted_more : (nodes : List Node) (i : ℕ) (child : Node) → i < length nodes → child ≡ get_or nodes i child
    → (start before noted after : ℕ) → before ≤ start + elements_in (take i nodes) → noted ≤ before + 1 → after < noted + element_count child
    → after ≤ start + elements_in (take (i + 1) nodes)
noted_more nodes i child within is start before noted after b n a = omega (arith, one_more nodes i child within is, b, n, a)

-- there are fewer notes more than the element and all below it
pub fewer : (node : Node) (nodes : List Node) → nodes ≡ (out-Node node).children → (i start after : ℕ) → after ≤ start + elements_in (take i nodes)
    → after < start + element_count node
fewer node nodes e i start after a = omega (arith, elements_are node, ap elements_in e, some_of nodes i, a)
