-- A walk over all children that counts those in flow.
use Rattle.std.proofs.Common.{◌≡◌, ◌∙◌, inl, inr, refl, sym, ap, ℕ, zero, suc, ◌+◌, ◌<◌, ◌≤◌, arith, Bool, true, false, cond, List, [], ◌∷◌, filter, get_or, length, map, take, Some, slice_get}
use Rattle.std.proofs.lemmas.List.{get_or-map, length-map, take_all}
use Rattle.std.proofs.lemmas.Option.{get_or_from_slice_get, none-some, same_Some, slice_get-map, slice_get_cases, slice_get_within}
use Rattle.std.specs.Option.{option_map}
use Rattle.math_tree.specs.declared.kind.Kind.{Kind}
use Rattle.math_tree.specs.declared.node.Node.{Node}
use Rattle.math_tree.specs.declared.node.Node.TheViews.{out-Node}
use Rattle.embellished.specs.Facts.{facts}
use Rattle.embellished.specs.Flow.{flow_by, may_show, shown_by}
use Rattle.embellished.specs.Kinds.{shows_its_first, shows_none}
use Rattle.embellished.specs.Seen.{Child, HasChild, children_from, flow_children, laid_child}
use Rattle.embellished.specs.declared.facts.Facts.{Facts}
use Rattle.embellished.proofs.InFlow.{among, shown}
use Rattle.kept_results.specs.Looking.{own_facts}
use Rattle.kept_results.specs.declared.memo.Memo.{Memo}
use Rattle.kept_laid.specs.Places.{all_children, shown_before}

-- ---- those of a list that pass a test

module _ {X : Type 0} (test : X → Bool) where
  -- one that passes stands behind those before it that do
  pub at_count : (xs : List X) (place : ℕ) (x : X) → slice_get xs place ≡ Some x → test x ≡ true → slice_get (filter test xs) (length (filter test (take place xs))) ≡ Some x
  at_count [] place x h t = absurd (none-some x h)
  at_count (y ∷ xs) zero x h t =
      ap (λ (b : Bool). slice_get (cond b (y ∷ filter test xs) (filter test xs)) 0) (ap test (same_Some y x h) ∙ t) ∙ h
  at_count (y ∷ xs) (suc place) x h t =
      let rest : List X = filter test (take place xs) in
      elim (test y) as (λ (b : Bool). slice_get (cond b (y ∷ filter test xs) (filter test xs)) (length (cond b (y ∷ rest) rest)) ≡ Some x) [
        | true ↦ at_count xs place x h t
        | false ↦ at_count xs place x h t
      ]

  count_one : (b : Bool) (y : X) → length (cond b (y ∷ []) []) ≡ cond b 1 0
  count_one true y = refl
  count_one false y = refl

  count_both : (b : Bool) (y : X) (more before : List X) (n : ℕ) → length more ≡ length before + n → length (cond b (y ∷ more) more) ≡ length (cond b (y ∷ before) before) + n
  count_both true y more before n h = omega (arith, h)
  count_both false y more before n h = h

  -- one place further
  count_next : (xs : List X) (place : ℕ) (x : X) → slice_get xs place ≡ Some x → length (filter test (take (suc place) xs)) ≡ length (filter test (take place xs)) + cond (test x) 1 0
  count_next [] place x h = absurd (none-some x h)
  count_next (y ∷ xs) zero x h = let same = ap (λ (z : X). cond {A = ℕ} (test z) 1 0) (same_Some y x h) in omega (arith, count_one (test y) y, same)
  count_next (y ∷ xs) (suc place) x h =
      count_both (test y) y (filter test (take (suc place) xs)) (filter test (take place xs)) (cond (test x) 1 0) (count_next xs place x h)

-- ---- those in flow stand among those that may be

module _ (laid : Kind) where
  abbrev passes : Child → Bool
  passes child = may_show laid (laid_child child)

  one_first : (b : Bool) (x : Child) (rest : List Child) (k : ℕ) (c : Child) → slice_get (cond b (x ∷ []) []) k ≡ Some c → slice_get (cond b (x ∷ rest) rest) k ≡ Some c
  one_first true x rest zero c h = h
  one_first true x rest (suc k) c h = absurd (none-some c h)
  one_first false x rest k c h = absurd (none-some c h)

  first_among : (xs : List Child) (k : ℕ) (c : Child) → slice_get (shown_by laid_child laid (take 1 xs)) k ≡ Some c → slice_get (shown_by laid_child laid xs) k ≡ Some c
  first_among [] k c h = h
  first_among (x ∷ xs) k c h = one_first (passes x) x (shown_by laid_child laid xs) k c h

  chosen_among : (none first : Bool) (xs : List Child) (k : ℕ) (c : Child)
      → slice_get (cond none [] (cond first (shown_by laid_child laid (take 1 xs)) (shown_by laid_child laid xs))) k ≡ Some c → slice_get (shown_by laid_child laid xs) k ≡ Some c
  chosen_among true first xs k c h = absurd (none-some c h)
  chosen_among false true xs k c h = first_among xs k c h
  chosen_among false false xs k c h = h

  flow_among : (xs : List Child) (k : ℕ) (c : Child) → slice_get (flow_by laid_child laid xs) k ≡ Some c → slice_get (shown_by laid_child laid xs) k ≡ Some c
  unfolding flow_by
  flow_among xs k c h = chosen_among (shows_none laid) (shows_its_first laid) xs k c h

-- ---- places

child_at : (first : ℕ) (nodes : List Node) (place : ℕ) (node : Node) → slice_get nodes place ≡ Some node → slice_get (children_from first nodes) place ≡ Some record { place = first + place; node = node }
child_at first [] place node h = absurd (none-some node h)
child_at first (x ∷ nodes) zero node h =
    let n : first ≡ first + 0 = omega arith in
    ap (λ (y : Node). Some record { place = first; node = y }) (same_Some x node h) ∙ ap (λ (p : ℕ). Some record { place = p; node = node }) n
child_at first (x ∷ nodes) (suc place) node h =
    let n : first + 1 + place ≡ first + suc place = omega arith in
    child_at (first + 1) nodes place node h ∙ ap (λ (p : ℕ). Some record { place = p; node = node }) n

count_from : (first : ℕ) (nodes : List Node) → length (children_from first nodes) ≡ length nodes
count_from first [] = refl
count_from first (x ∷ nodes) = ap suc (count_from (first + 1) nodes)

module _ (node : Node) where
  abbrev nodes : List Node
  nodes = (out-Node node).children

  abbrev shows : Node → Bool
  shows child = may_show (facts node).laid (facts child).laid

  in_shown : (k : ℕ) (c : Child) → slice_get (flow_children node) k ≡ Some c → slice_get (shown_by laid_child (facts node).laid (all_children node)) k ≡ Some c
  unfolding flow_children
  in_shown k c h = flow_among (facts node).laid (all_children node) k c h

  in_flow_at : (wanted : ℕ) → wanted < length (flow_children node) → (c : Child) × (slice_get (flow_children node) wanted ≡ Some c)
  in_flow_at wanted within = elim (slice_get_cases (flow_children node) wanted).1 [
    | inl h ↦ (h.0, h.2)
    | inr h ↦ absurd (omega (arith, within, h.0))
  ]

  -- the child at a place, where it is told whether it may be in flow
  pub child_told : (own : Facts) (memos : List Memo) (place : ℕ) (other : Memo) (told : Bool) → own ≡ facts node → map own_facts memos ≡ map facts nodes → place < length memos
      → told ≡ may_show own.laid (own_facts (get_or memos place other)).laid → (child : Node) × (slice_get nodes place ≡ Some child) × (shows child ≡ told)
  child_told own memos place other told o e within is = elim (slice_get_cases nodes place).1 [
    | inl h ↦
        let kid : own_facts (get_or memos place other) ≡ facts h.0 =
        sym (get_or-map own_facts memos place other (facts h.0) within)
        ∙ ap (λ (l : List Facts). get_or l place (facts h.0)) e
        ∙ get_or_from_slice_get (map facts nodes) place (facts h.0) (facts h.0) (slice_get-map facts nodes place ∙ ap (option_map facts) h.2) in
        (h.0, h.2, sym (is ∙ (λ i. may_show (o i).laid (kid i).laid)))
    | inr h ↦ absurd (omega (arith, h.0, within, ap length e, length-map nodes facts, length-map memos own_facts))
  ]

  -- ---- a walk

  pub none_before : 0 ≡ shown_before node 0
  none_before = refl

  module _ (place : ℕ) (child : Node) (at : slice_get nodes place ≡ Some child) where
    abbrev own : Child
    own = record { place = place; node = child }

    own_at : slice_get (all_children node) place ≡ Some own
    own_at = let n : 0 + place ≡ place = omega arith in child_at 0 nodes place child at ∙ ap (λ (p : ℕ). Some record { place = p; node = child }) n

    further : suc place ≡ place + 1
    further = omega arith

    counted : shown_before node (place + 1) ≡ shown_before node place + cond (shows child) 1 0
    counted = ap (shown_before node) (sym further) ∙ count_next (passes (facts node).laid) (all_children node) place own own_at

    pub one_more : (index : ℕ) → shows child ≡ true → index ≡ shown_before node place → index + 1 ≡ shown_before node (place + 1)
    one_more index passed h =
        let one = ap (λ (b : Bool). cond {A = ℕ} b 1 0) passed in
        omega (arith, counted, one, h)

    pub no_more : (index : ℕ) → shows child ≡ false → index ≡ shown_before node place → index ≡ shown_before node (place + 1)
    no_more index failed h =
        let none = ap (λ (b : Bool). cond {A = ℕ} b 1 0) failed in
        omega (arith, counted, none, h)

    -- the one that is wanted
    pub found : (wanted : ℕ) → wanted < length (flow_children node) → shows child ≡ true → wanted ≡ shown_before node place
        → HasChild node wanted (λ c. c.place ≡ place)
    found wanted within passed h =
        let list : List Child = shown_by laid_child (facts node).laid (all_children node) in
        let here : slice_get list wanted ≡ Some own =
        ap (slice_get list) h ∙ at_count (passes (facts node).laid) (all_children node) place own own_at passed in
        let there = in_flow_at wanted within in
        let same : there.0 ≡ own = same_Some there.0 own (sym (in_shown wanted there.0 there.1) ∙ here) in
        record {
          child = there.0;
          in_flow = there.1;
          among = among node wanted there.0 there.1;
          shown = shown node wanted there.0 there.1;
          holds = ap (λ (c : Child). c.place) same;
        }

  -- there is no end without it
  pub not_at_end : (place wanted index : ℕ) → wanted < length (flow_children node) → length nodes ≤ place → index ≡ shown_before node place → index ≤ wanted → ⊥
  not_at_end place wanted index within over h near =
      let list : List Child = shown_by laid_child (facts node).laid (all_children node) in
      let there = in_flow_at wanted within in
      let inside : wanted < length list = slice_get_within list wanted there.0 (in_shown wanted there.0 there.1) in
      let whole : take place (all_children node) ≡ all_children node = take_all place (all_children node) (omega (arith, over, count_from 0 nodes)) in
      let all : shown_before node place ≡ length list = ap (λ (children : List Child). length (shown_by laid_child (facts node).laid children)) whole in
      omega arith
