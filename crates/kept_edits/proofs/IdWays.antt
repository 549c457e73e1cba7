-- In a whole tree there is one way to an id.
use Rattle.std.proofs.Common.{◌≡◌, ◌∙◌, refl, sym, ap, subst, ℕ, zero, suc, ◌+◌, ◌≤◌, arith, Bool, true, false, true≢false, cond, nat_eq, List, [], ◌∷◌, Option, Some, None, slice_get}
use Rattle.std.proofs.lemmas.Bool.{false_from_ne_true}
use Rattle.std.proofs.lemmas.Bool.Decides.{Decides-eqb}
use Rattle.std.proofs.lemmas.List.Sums.{sum_by-cons}
use Rattle.std.proofs.lemmas.Option.{none-some, same_Some}
use Rattle.std.specs.List.{AllByRecursion, IsDistinct, sum_by}
use Rattle.std.specs.Option.{option_and_then}
use Rattle.font_metrics.specs.Metrics.{MetricsValue}
use Rattle.math_tree.specs.Trees.{Listed, ids_of, listed}
use Rattle.math_tree.specs.declared.node.Head.{Head}
use Rattle.math_tree.specs.declared.node.Node.{Node}
use Rattle.math_tree.proofs.Counts.{total_is}
use Rattle.tree_edits.specs.Edits.{has_id, head_of}
use Rattle.tree_edits.specs.Paths.{children_of, node_at}
use Rattle.embellished.proofs.InFlow.{among}
use Rattle.layout_model.specs.Made.{IsMade}
use Rattle.layout_model.specs.declared.context.Context.{Context}
use Rattle.kept_edits.specs.Ids.{IdsLaw, OneWayLaw}

-- ---- how often an id is in a node

abbrev own : ℕ → Head → ℕ
own id head = cond (has_id id head) 1 0

abbrev count : ℕ → List Listed → ℕ
count id elements = sum_by (λ e. own id e.head) elements

abbrev times : ℕ → Node → ℕ
times id node = count id (listed 1 node)

one : (id : ℕ) (head : Head) → has_id id head ≡ true → own id head ≡ 1
one id head e = ap (λ (b : Bool). cond {A = ℕ} b 1 0) e

none : (id : ℕ) (head : Head) → has_id id head ≡ false → own id head ≡ 0
none id head e = ap (λ (b : Bool). cond {A = ℕ} b 1 0) e

times_out : (id : ℕ) (node : Node) → times id node ≡ own id (head_of node) + sum_by (times id) (children_of node)
times_out id node = total_is (own id) node

holds : (id : ℕ) (nodes : List Node) (i : ℕ) (child : Node) → slice_get nodes i ≡ Some child → times id child ≤ sum_by (times id) nodes
holds id [] i child at = absurd (none-some child at)
holds id (n ∷ nodes) zero child at = omega (arith, ap (times id) (same_Some n child at), sum_by-cons (times id) n nodes)
holds id (n ∷ nodes) (suc i) child at = omega (arith, holds id nodes i child at, sum_by-cons (times id) n nodes)

-- two children hold it together no more often than all of them
hold_both : (id : ℕ) (nodes : List Node) (i j : ℕ) (x y : Node) → (i ≡ j → ⊥) → slice_get nodes i ≡ Some x → slice_get nodes j ≡ Some y
    → times id x + times id y ≤ sum_by (times id) nodes
hold_both id [] i j x y other a b = absurd (none-some x a)
hold_both id (n ∷ nodes) zero zero x y other a b = absurd (other refl)
hold_both id (n ∷ nodes) zero (suc j) x y other a b =
    omega (arith, ap (times id) (same_Some n x a), holds id nodes j y b, sum_by-cons (times id) n nodes)
hold_both id (n ∷ nodes) (suc i) zero x y other a b =
    omega (arith, ap (times id) (same_Some n y b), holds id nodes i x a, sum_by-cons (times id) n nodes)
hold_both id (n ∷ nodes) (suc i) (suc j) x y other a b =
    omega (arith, hold_both id nodes i j x y (λ e. other (ap suc e)) a b, sum_by-cons (times id) n nodes)

step : (path : List ℕ) (found : Option Node) (t : Node) → option_and_then (node_at path) found ≡ Some t → (child : Node) × (found ≡ Some child) × (node_at path child ≡ Some t)
step path None t at = absurd (none-some t at)
step path (Some child) t at = (child, refl, at)

present : (id : ℕ) (path : List ℕ) (node t : Node) → node_at path node ≡ Some t → has_id id (head_of t) ≡ true → 1 ≤ times id node
present id [] node t at has = omega (arith, ap (times id) (same_Some node t at), times_out id t, one id (head_of t) has)
present id (i ∷ path) node t at has =
    let below = step path (slice_get (children_of node) i) t at in
    omega (arith, present id path below.0 t below.2 has, holds id (children_of node) i below.0 below.1, times_out id node)

-- ---- ids that differ hold each one once

apart : (id a b : ℕ) → nat_eq a id ≡ true → nat_eq a b ≡ false → nat_eq b id ≡ false
apart id a b same other =
    false_from_ne_true (nat_eq b id) (λ e. true≢false (sym ((Decides-eqb a b).1 ((Decides-eqb a id).0 same ∙ sym ((Decides-eqb b id).0 e))) ∙ other))

no_other : (id a : ℕ) (elements : List Listed) → nat_eq a id ≡ true → AllByRecursion (λ n. nat_eq a n ≡ false) (ids_of elements) → count id elements ≡ 0
no_other id a [] same h = refl
no_other id a (e ∷ elements) same h =
    omega (arith, sum_by-cons (λ (x : Listed). own id x.head) e elements, none id e.head (apart id a e.head.id.0 same h.0), no_other id a elements same h.1)

once_at : (id : ℕ) (e : Listed) (elements : List Listed) (b : Bool) → has_id id e.head ≡ b → AllByRecursion (λ n. nat_eq e.head.id.0 n ≡ false) (ids_of elements)
    → count id elements ≤ 1 → count id (e ∷ elements) ≤ 1
once_at id e elements true has h rest =
    omega (arith, sum_by-cons (λ (x : Listed). own id x.head) e elements, one id e.head has, no_other id e.head.id.0 elements has h)
once_at id e elements false has h rest = omega (arith, sum_by-cons (λ (x : Listed). own id x.head) e elements, none id e.head has, rest)

once : (id : ℕ) (elements : List Listed) → IsDistinct nat_eq (ids_of elements) → count id elements ≤ 1
unfolding IsDistinct
once id [] d = omega arith
once id (e ∷ elements) d = once_at id e elements (has_id id e.head) refl d.0 (once id elements d.1)

-- ---- one way

same_places : (i j : ℕ) (b : Bool) → nat_eq i j ≡ b → ((i ≡ j → ⊥) → ⊥) → i ≡ j
same_places i j true e h = (Decides-eqb i j).0 e
same_places i j false e h = absurd (h (λ same. true≢false (sym ((Decides-eqb i j).1 same) ∙ e)))

one_way : (a b : List ℕ) (node x y : Node) (id : ℕ) → times id node ≤ 1 → node_at a node ≡ Some x → has_id id (head_of x) ≡ true
    → node_at b node ≡ Some y → has_id id (head_of y) ≡ true → a ≡ b
one_way [] [] node x y id few at has to too = refl
one_way [] (j ∷ b) node x y id few at has to too =
    let below = step b (slice_get (children_of node) j) y to in
    let here = ap (λ (n : Node). own id (head_of n)) (same_Some node x at) in
    absurd (omega (arith, few, times_out id node, here, one id (head_of x) has, present id b below.0 y below.2 too, holds id (children_of node) j below.0 below.1))
one_way (i ∷ a) [] node x y id few at has to too =
    let below = step a (slice_get (children_of node) i) x at in
    let here = ap (λ (n : Node). own id (head_of n)) (same_Some node y to) in
    absurd (omega (arith, few, times_out id node, here, one id (head_of y) too, present id a below.0 x below.2 has, holds id (children_of node) i below.0 below.1))
one_way (i ∷ a) (j ∷ b) node x y id few at has to too =
    let p = step a (slice_get (children_of node) i) x at in
    let q = step b (slice_get (children_of node) j) y to in
    let place : i ≡ j = same_places i j (nat_eq i j) refl (λ other.
    omega (arith, few, times_out id node, hold_both id (children_of node) i j p.0 q.0 other p.1 q.1, present id a p.0 x p.2 has, present id b q.0 y q.2 too)) in
    let child : q.0 ≡ p.0 = same_Some q.0 p.0 (sym q.1 ∙ ap (slice_get (children_of node)) (sym place) ∙ p.1) in
    let fewer : times id p.0 ≤ 1 = omega (arith, few, times_out id node, holds id (children_of node) i p.0 p.1) in
    let rest = one_way a b p.0 x y id fewer p.2 has (subst (λ (n : Node). node_at b n ≡ Some y) child q.2) too in
    λ k. place k ∷ rest k

pub one_way_law : OneWayLaw
one_way_law tree a b x y id whole at has to too = one_way a b tree.root x y id (once id (listed 1 tree.root) whole.distinct) at has to too

-- ---- layouts that are needed

pub made_at : (m : MetricsValue) (path : List ℕ) (node : Node) (context : Context) (element : Node) (made : Context) → IsMade m path node context element made
    → node_at path node ≡ Some element
made_at m [] node context element made h = ap (λ (n : Node). Some n) (sym h.0)
made_at m (place ∷ path) node context element made (question, child, asks, at, rest) =
    ap (option_and_then (node_at path)) (ap (slice_get (children_of node)) (sym at) ∙ among node question.kid child asks.to)
    ∙ made_at m path child.node question.context element made rest

pub ids_law : IdsLaw
ids_law m tree context p whole need = (
  (
    (head_of need.element).id.0,
    record {
      element = need.element;
      at = made_at m p.path tree.root context need.element p.context need.made;
      has = (Decides-eqb (head_of need.element).id.0 (head_of need.element).id.0).1 refl;
    },
  ),
  λ q. record {
    same = λ id h k alike.
        let way = one_way_law tree p.path q.path h.element k.element id whole h.at h.has k.at k.has in
        λ i. record { path = way i; context = alike i };
  },
)
