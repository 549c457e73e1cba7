-- The children that one wave asks, and their children, are no more together than there are elements.
use Rattle.std.proofs.Common.{◌≡◌, ◌∙◌, refl, sym, ap, ℕ, zero, suc, ◌+◌, ◌≤◌, ◌==◌, arith, Bool, true, false, cond, inl, inr, List, [], ◌∷◌, length, map, take, All, Some, slice_get}
use Rattle.std.proofs.lemmas.Bool.Decides.{eqb_tells}
use Rattle.std.proofs.lemmas.List.Sums.{sum_by-cons}
use Rattle.std.proofs.lemmas.Option.{none-some, same_Some}
use Rattle.std.specs.List.{sum_by}
use Rattle.math_tree.specs.Trees.{element_count}
use Rattle.math_tree.specs.declared.kind.Kind.{Kind}
use Rattle.math_tree.specs.declared.node.Node.{Node}
use Rattle.math_tree.specs.declared.node.Node.TheViews.{out-Node}
use Rattle.math_tree.proofs.Counts.{elements_are}
use Rattle.embellished.specs.Facts.{facts}
use Rattle.embellished.specs.Flow.{flow_by, may_show, shown_by}
use Rattle.embellished.specs.Kinds.{shows_its_first, shows_none}
use Rattle.embellished.specs.Seen.{Child, children_from, flow_children, flow_nodes, laid_child, seen_of}
use Rattle.layout_model.specs.Questions.{IsBelow}
use Rattle.layout_model.specs.Waves.{times_asked}
use Rattle.layout_model.specs.declared.context.Question.{Question}
use Rattle.layout_model.proofs.Children.{few_children, few_in_flow}

-- ---- what is asked at most once weighs no more than all there is

module _ {A : Type 0} (weight : A → ℕ) where
  -- what the item at a place weighs, where the first one stands at `start`; nothing without one
  abbrev pub weighed : ℕ → List A → ℕ → ℕ
  weighed start [] place = 0
  weighed start (x ∷ xs) place = cond (place == start) (weight x) (weighed (start + 1) xs place)

  abbrev pub asked_weight : ℕ → List A → List Question → ℕ
  asked_weight start xs asks = sum_by (λ question. weighed start xs question.kid) asks

  weighed_at : (start : ℕ) (xs : List A) (i : ℕ) (x : A) → slice_get xs i ≡ Some x → weighed start xs (start + i) ≡ weight x
  weighed_at start [] i x at = absurd (none-some x at)
  weighed_at start (y ∷ xs) zero x at =
      elim (eqb_tells (start + 0) start) [
        | inl same ↦ ap (λ (b : Bool). cond b (weight y) (weighed (start + 1) xs (start + 0))) same.0 ∙ ap weight (same_Some y x at)
        | inr apart ↦ absurd (apart.1 (omega arith))
      ]
  weighed_at start (y ∷ xs) (suc i) x at =
      elim (eqb_tells (start + suc i) start) [
        | inl same ↦ absurd (omega (arith, same.1))
        | inr apart ↦
            let next : start + suc i ≡ (start + 1) + i = omega arith in
            ap (λ (b : Bool). cond b (weight y) (weighed (start + 1) xs (start + suc i))) apart.0
            ∙ ap (weighed (start + 1) xs) next ∙ weighed_at (start + 1) xs i x at
      ]

  pub weighed_first : (xs : List A) (i : ℕ) (x : A) → slice_get xs i ≡ Some x → weighed 0 xs i ≡ weight x
  weighed_first xs i x at = let same : i ≡ 0 + i = omega arith in ap (weighed 0 xs) same ∙ weighed_at 0 xs i x at

  -- without a question to the first item it weighs nothing
  not_first : (start : ℕ) (x : A) (xs : List A) (asks : List Question) → times_asked start asks ≡ 0
      → asked_weight start (x ∷ xs) asks ≤ asked_weight (start + 1) xs asks
  not_first start x xs [] none = omega arith
  not_first start x xs (question ∷ asks) none =
      let times = sum_by-cons (λ (q : Question). cond (q.kid == start) 1 0) question asks in
      let here = sum_by-cons (λ (q : Question). weighed start (x ∷ xs) q.kid) question asks in
      let next = sum_by-cons (λ (q : Question). weighed (start + 1) xs q.kid) question asks in
      elim (eqb_tells question.kid start) [
        | inl same ↦
            let one = ap {B = ℕ} (λ (b : Bool). cond b 1 0) same.0 in
            absurd (omega (arith, times, one, none))
        | inr apart ↦
            let zeros = ap {B = ℕ} (λ (b : Bool). cond b 1 0) apart.0 in
            let passed : weighed start (x ∷ xs) question.kid ≡ weighed (start + 1) xs question.kid =
            ap (λ (b : Bool). cond b (weight x) (weighed (start + 1) xs question.kid)) apart.0 in
            let rest = not_first start x xs asks (omega (arith, times, zeros, none)) in
            omega (arith, here, next, passed, rest)
      ]

  -- with one question to it, once
  first_once : (start : ℕ) (x : A) (xs : List A) (asks : List Question) → times_asked start asks ≤ 1
      → asked_weight start (x ∷ xs) asks ≤ weight x + asked_weight (start + 1) xs asks
  first_once start x xs [] once = omega arith
  first_once start x xs (question ∷ asks) once =
      let times = sum_by-cons (λ (q : Question). cond (q.kid == start) 1 0) question asks in
      let here = sum_by-cons (λ (q : Question). weighed start (x ∷ xs) q.kid) question asks in
      let next = sum_by-cons (λ (q : Question). weighed (start + 1) xs q.kid) question asks in
      elim (eqb_tells question.kid start) [
        | inl same ↦
            let one = ap {B = ℕ} (λ (b : Bool). cond b 1 0) same.0 in
            let taken : weighed start (x ∷ xs) question.kid ≡ weight x =
            ap (λ (b : Bool). cond b (weight x) (weighed (start + 1) xs question.kid)) same.0 in
            let rest = not_first start x xs asks (omega (arith, times, one, once)) in
            omega (arith, here, next, taken, rest)
        | inr apart ↦
            let zeros = ap {B = ℕ} (λ (b : Bool). cond b 1 0) apart.0 in
            let passed : weighed start (x ∷ xs) question.kid ≡ weighed (start + 1) xs question.kid =
            ap (λ (b : Bool). cond b (weight x) (weighed (start + 1) xs question.kid)) apart.0 in
            let rest = first_once start x xs asks (omega (arith, times, zeros, once)) in
            omega (arith, here, next, passed, rest)
      ]

  nothing_weighs : (start : ℕ) (asks : List Question) → asked_weight start [] asks ≤ 0
  nothing_weighs start [] = omega arith
  nothing_weighs start (question ∷ asks) =
      let none : weighed start [] question.kid ≡ 0 = refl in
      omega (arith, none, sum_by-cons (λ (q : Question). weighed start [] q.kid) question asks, nothing_weighs start asks)

  pub all_once : (start : ℕ) (xs : List A) (asks : List Question) → ((kid : ℕ) → times_asked kid asks ≤ 1)
      → asked_weight start xs asks ≤ sum_by weight xs
  all_once start [] asks once = omega (arith, nothing_weighs start asks)
  all_once start (x ∷ xs) asks once =
      omega (arith, first_once start x xs asks (once start), all_once (start + 1) xs asks once, sum_by-cons weight x xs)

-- ---- what is in flow weighs no more than all children

module _ {A : Type 0} (weight : A → ℕ) (kind_of : A → Kind) (laid : Kind) where
  kept_weight : (b : Bool) (x : A) (xs ys : List A) → sum_by weight xs ≤ sum_by weight ys → sum_by weight (cond b (x ∷ xs) xs) ≤ sum_by weight (x ∷ ys)
  kept_weight true x xs ys l = omega (arith, l, sum_by-cons weight x xs, sum_by-cons weight x ys)
  kept_weight false x xs ys l = omega (arith, l, sum_by-cons weight x ys)

  shown_weight : (xs : List A) → sum_by weight (shown_by kind_of laid xs) ≤ sum_by weight xs
  shown_weight [] = omega arith
  shown_weight (x ∷ xs) = kept_weight (may_show laid (kind_of x)) x (shown_by kind_of laid xs) xs (shown_weight xs)

  first_weight : (xs : List A) → sum_by weight (take 1 xs) ≤ sum_by weight xs
  first_weight [] = omega arith
  first_weight (x ∷ xs) = omega (arith, sum_by-cons weight x [], sum_by-cons weight x xs)

  chosen_weight : (none first : Bool) (xs ys : List A) (n : ℕ) → sum_by weight xs ≤ n → sum_by weight ys ≤ n → sum_by weight (cond none [] (cond first xs ys)) ≤ n
  chosen_weight true first xs ys n l h = omega arith
  chosen_weight false true xs ys n l h = l
  chosen_weight false false xs ys n l h = h

  flow_weight : (xs : List A) → sum_by weight (flow_by kind_of laid xs) ≤ sum_by weight xs
  unfolding flow_by
  flow_weight xs =
      chosen_weight (shows_none laid) (shows_its_first laid) (shown_by kind_of laid (take 1 xs)) (shown_by kind_of laid xs) (sum_by weight xs)
      (omega (arith, shown_weight (take 1 xs), first_weight xs)) (shown_weight xs)

-- a node and its children in flow
abbrev pub with_kids : Node → ℕ
with_kids node = length (seen_of node).kids + 1

abbrev child_weight : Child → ℕ
child_weight child = with_kids child.node

of_nodes : (children : List Child) → sum_by with_kids (map (λ (child : Child). child.node) children) ≡ sum_by child_weight children
of_nodes [] = refl
of_nodes (child ∷ children) =
    sum_by-cons with_kids child.node (map (λ (c : Child). c.node) children)
    ∙ ap (λ (n : ℕ). with_kids child.node + n) (of_nodes children)
    ∙ sym (sum_by-cons child_weight child children)

of_all : (place : ℕ) (nodes : List Node) → sum_by child_weight (children_from place nodes) ≤ sum_by element_count nodes
of_all place [] = omega arith
of_all place (node ∷ nodes) =
    let here : sum_by child_weight (children_from place (node ∷ nodes)) ≡ with_kids node + sum_by child_weight (children_from (place + 1) nodes) =
    sum_by-cons child_weight (record { place = place; node = node }) (children_from (place + 1) nodes) in
    let least : with_kids node ≤ element_count node = omega (arith, few_in_flow node, few_children node) in
    omega (arith, here, least, sum_by-cons element_count node nodes, of_all (place + 1) nodes)

kids_together : (node : Node) → sum_by with_kids (flow_nodes node) ≤ sum_by element_count (out-Node node).children
unfolding flow_children
kids_together node =
    let flow : sum_by child_weight (flow_children node) ≤ sum_by child_weight (children_from 0 (out-Node node).children) =
    flow_weight child_weight laid_child (facts node).laid (children_from 0 (out-Node node).children) in
    omega (arith, of_nodes (flow_children node), flow, of_all 0 (out-Node node).children)

pub asked_together : (node : Node) (asks : List Question) → ((kid : ℕ) → times_asked kid asks ≤ 1)
    → asked_weight with_kids 0 (flow_nodes node) asks ≤ element_count node
asked_together node asks once = omega (arith, all_once with_kids 0 (flow_nodes node) asks once, kids_together node, elements_are node)

-- ---- a wave

-- questions to children, none of which is asked twice
pub record AreApart (n : ℕ) (asks : List Question) : Type 0 where
  pub below : All (IsBelow n) asks
  pub once : (kid : ℕ) → times_asked kid asks ≤ 1
