-- When all children of an element are in flow.
use Rattle.std.proofs.Common.{◌≡◌, ◌∙◌, refl, sym, ap, ℕ, suc, ◌+◌, ◌≤◌, arith, Bool, true, false, cond, List, [], ◌∷◌, filter, length, length-take, map, take}
use Rattle.std.proofs.lemmas.List.{length-map, take_all}
use Rattle.math_tree.specs.declared.kind.Kind.{Kind}
use Rattle.math_tree.specs.declared.node.Node.{Node}
use Rattle.math_tree.specs.declared.node.Node.TheViews.{out-Node}
use Rattle.embellished.specs.Facts.{facts}
use Rattle.embellished.specs.Flow.{flow_by, may_show, shown_by}
use Rattle.embellished.specs.Kinds.{shows_its_first, shows_none}
use Rattle.embellished.specs.Seen.{Child, children_from, flow_children, kid_of, laid_child, seen_of}
use Rattle.embellished.proofs.InFlow.{flow_map, kids_are_nodes}
use Rattle.kept_results.specs.Regular.{AllInFlow}

-- ---- as many as there are

module _ {A : Type 0} (test : A → Bool) where
  fewer : (xs : List A) → length (filter test xs) ≤ length xs
  fewer [] = omega arith
  fewer (x ∷ xs) = by (fewer xs) (test x)
    where
      by : length (filter test xs) ≤ length xs → (b : Bool) → length (cond b (x ∷ filter test xs) (filter test xs)) ≤ suc (length xs)
      by l true = omega (arith, l)
      by l false = omega (arith, l)

  all_pass : (xs : List A) → length (filter test xs) ≡ length xs → filter test xs ≡ xs
  all_pass [] h = refl
  all_pass (x ∷ xs) h = by (all_pass xs) (fewer xs) (test x) h
    where
      by : (length (filter test xs) ≡ length xs → filter test xs ≡ xs) → length (filter test xs) ≤ length xs → (b : Bool)
          → length (cond b (x ∷ filter test xs) (filter test xs)) ≡ suc (length xs) → cond b (x ∷ filter test xs) (filter test xs) ≡ x ∷ xs
      by rest l true h = ap (λ (ys : List A). x ∷ ys) (rest (omega (arith, h)))
      by rest l false h = absurd (omega (arith, h, l))

module _ {A : Type 0} (kind_of : A → Kind) (laid : Kind) where
  abbrev shown : List A → List A
  shown xs = shown_by kind_of laid xs

  one_pass : (xs : List A) → length (shown (take 1 xs)) ≡ length xs → shown (take 1 xs) ≡ xs
  one_pass xs h =
      let l = fewer (λ x. may_show laid (kind_of x)) (take 1 xs) in
      let t = length-take 1 xs in
      let same : take 1 xs ≡ xs = take_all 1 xs (omega (arith, l, t, h)) in
      all_pass (λ x. may_show laid (kind_of x)) (take 1 xs) (h ∙ ap length (sym same)) ∙ same

  chosen : (none first : Bool) (xs : List A) → length (cond none [] (cond first (shown (take 1 xs)) (shown xs))) ≡ length xs
      → cond none [] (cond first (shown (take 1 xs)) (shown xs)) ≡ xs
  chosen true first [] h = refl
  chosen true first (x ∷ xs) h = absurd (omega (arith, h))
  chosen false true xs h = one_pass xs h
  chosen false false xs h = all_pass (λ x. may_show laid (kind_of x)) xs h

  -- where as many are in flow as there are, all are
  pub full_flow : (xs : List A) → length (flow_by kind_of laid xs) ≡ length xs → flow_by kind_of laid xs ≡ xs
  unfolding flow_by
  full_flow xs h = chosen (shows_none laid) (shows_its_first laid) xs h

-- ---- children

pub as_many_from : (place : ℕ) (nodes : List Node) → length (children_from place nodes) ≡ length nodes
as_many_from place [] = refl
as_many_from place (node ∷ nodes) = ap suc (as_many_from (place + 1) nodes)

pub all_in_flow : (node : Node) → length (seen_of node).kids ≡ length (out-Node node).children → AllInFlow node
unfolding flow_children
all_in_flow node h =
    let nodes : List Node = (out-Node node).children in
    let one = ap length (kids_are_nodes node) in
    let two = length-map (map (λ (c : Child). c.node) (flow_children node)) kid_of in
    let three = length-map (flow_children node) (λ (c : Child). c.node) in
    let four = as_many_from 0 nodes in
    full_flow laid_child (facts node).laid (children_from 0 nodes) (omega (arith, one, two, three, four, h))

-- how many are in flow follows from what they are
pub flow_same : {A : Type 0} (kind_of : A → Kind) (laid : Kind) (xs ys : List A) → map kind_of xs ≡ map kind_of ys → flow_by kind_of laid xs ≡ xs → flow_by kind_of laid ys ≡ ys
flow_same kind_of laid xs ys e h =
    let abbrevs : (zs : List _) → length (flow_by kind_of laid zs) ≡ length (flow_by (λ (k : Kind). k) laid (map kind_of zs)) =
    λ zs. sym (length-map (flow_by kind_of laid zs) kind_of) ∙ ap length (flow_map kind_of (λ (k : Kind). k) laid zs) in
    let l = sym (length-map xs kind_of) ∙ ap length e ∙ length-map ys kind_of in
    let m = abbrevs xs in
    let n = abbrevs ys in
    let o = ap (λ (ks : List Kind). length (flow_by (λ (k : Kind). k) laid ks)) e in
    let p = ap length h in
    full_flow kind_of laid ys (omega (arith, l, m, n, o, p))
