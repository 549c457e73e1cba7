-- The lowest element over two others, found from the lowest below each child.
use Rattle.std.proofs.Common.{◌≡◌, ◌∙◌, refl, sym, ap, subst, ℕ, Bool, true, false, ◌||◌, ◌&&◌, not, cond, List, [], ◌∷◌, ◌++◌, map, Option, Some, None}
use Rattle.std.specs.Prelude.{find}
use Rattle.std.specs.List.{AllByRecursion, flat_map, list_any}
use Rattle.std.specs.Option.{is_some, option_or}
use Rattle.std.proofs.lemmas.Bool.{and_parts}
use Rattle.std.proofs.lemmas.List.Folds.{find-append}
use Rattle.math_tree.proofs.Nodes.{by_children}
use Rattle.math_tree.specs.declared.node.Node.{Node}
use Rattle.hit_test.specs.Elements.{children_of, elements_of, has_id, holds_id, is_inside}
use Rattle.hit_test.specs.Selecting.{is_lowest, is_over, lowest}
use Rattle.hit_test.proofs.Elements.{elements_out, holds_out}

module _ (first second : ℕ) where
  -- the lowest below some elements that stand one behind the other
  abbrev pub lowest_among : List Node → Option Node
  lowest_among nodes = find (is_lowest first second) (flat_map elements_of nodes)

  pub among_more : (xs ys : List Node) → lowest_among (xs ++ ys) ≡ option_or (lowest_among xs) (lowest_among ys)
  among_more [] ys = refl
  among_more (x ∷ xs) ys =
      find-append (is_lowest first second) (elements_of x) (flat_map elements_of (xs ++ ys))
      ∙ ap (option_or (find (is_lowest first second) (elements_of x))) (among_more xs ys)
      ∙ sym (or_or (find (is_lowest first second) (elements_of x)) (lowest_among xs) (lowest_among ys))
      ∙ ap (λ o. option_or o (lowest_among ys)) (sym (find-append (is_lowest first second) (elements_of x) (flat_map elements_of xs)))
    where
      or_or : (a b c : Option Node) → option_or (option_or a b) c ≡ option_or a (option_or b c)
      or_or None b c = refl
      or_or (Some n) b c = refl

  pub one_among : (n : Node) (ys : List Node) → lowest_among (n ∷ ys) ≡ option_or (lowest first second n) (lowest_among ys)
  unfolding lowest
  one_among n ys = find-append (is_lowest first second) (elements_of n) (flat_map elements_of ys)

  -- the element itself, where it is the lowest, else the lowest below its children
  lowest_out : (n : Node) → lowest first second n ≡ cond (is_lowest first second n) (Some n) (lowest_among (children_of n))
  unfolding lowest
  lowest_out n = ap (find (is_lowest first second)) (elements_out n)

  -- there is a lowest one exactly where the element is over both
  abbrev pub IsThere : Node → Type 0
  IsThere n = is_some (lowest first second n) ≡ is_over first second n

  any_there : (nodes : List Node) → AllByRecursion IsThere nodes → is_some (lowest_among nodes) ≡ list_any (is_over first second) nodes
  any_there [] h = refl
  any_there (n ∷ nodes) h =
      ap is_some (one_among n nodes) ∙ some_or (lowest first second n) (lowest_among nodes)
      ∙ ap (λ (b : Bool). b || is_some (lowest_among nodes)) h.0
      ∙ ap (λ (b : Bool). is_over first second n || b) (any_there nodes h.1)
    where
      some_or : (a b : Option Node) → is_some (option_or a b) ≡ (is_some a || is_some b)
      some_or None b = refl
      some_or (Some x) b = refl

  or_true : (b : Bool) → (b || true) ≡ true
  or_true true = refl
  or_true false = refl

  -- what a child is over its parent is over too
  any_first : (kids : List Node) → list_any (is_over first second) kids ≡ true → (list_any (holds_id first) kids ≡ true) × (list_any (holds_id second) kids ≡ true)
  any_first [] e = absurd cc
  any_first (k ∷ kids) e = by (λ f. any_first kids f) (holds_id first k) (holds_id second k) refl refl
    where
      by : (list_any (is_over first second) kids ≡ true → (list_any (holds_id first) kids ≡ true) × (list_any (holds_id second) kids ≡ true))
          → (a b : Bool) → holds_id first k ≡ a → holds_id second k ≡ b
          → (list_any (holds_id first) (k ∷ kids) ≡ true) × (list_any (holds_id second) (k ∷ kids) ≡ true)
      by more true true f g = (ap (λ (x : Bool). x || list_any (holds_id first) kids) f, ap (λ (x : Bool). x || list_any (holds_id second) kids) g)
      by more true false f g =
          let rest = more (sym (ap (λ (x : Bool). (holds_id first k && x) || list_any (is_over first second) kids) g ∙ ap (λ (x : Bool). (x && false) || list_any (is_over first second) kids) f) ∙ e) in
          (ap (λ (x : Bool). x || list_any (holds_id first) kids) f, ap (λ (x : Bool). holds_id second k || x) rest.1 ∙ or_true (holds_id second k))
      by more false b f g =
          let rest = more (sym (ap (λ (x : Bool). (x && holds_id second k) || list_any (is_over first second) kids) f) ∙ e) in
          (ap (λ (x : Bool). holds_id first k || x) rest.0 ∙ or_true (holds_id first k), ap (λ (x : Bool). holds_id second k || x) rest.1 ∙ or_true (holds_id second k))

  above : (n : Node) → list_any (is_over first second) (children_of n) ≡ true → is_over first second n ≡ true
  above n e =
      let parts = any_first (children_of n) e in
      let f : holds_id first n ≡ true = holds_out first n ∙ ap (λ (b : Bool). has_id first n || b) parts.0 ∙ or_true (has_id first n) in
      let g : holds_id second n ≡ true = holds_out second n ∙ ap (λ (b : Bool). has_id second n || b) parts.1 ∙ or_true (has_id second n) in
      ap (λ (b : Bool). b && holds_id second n) f ∙ g

  -- so either a child is over both, and the lowest is below it, or the element is the lowest where it is
  pub steps : (n : Node) → AllByRecursion IsThere (children_of n)
      → (lowest first second n ≡ option_or (lowest_among (children_of n)) (cond (is_over first second n) (Some n) None)) × IsThere n
  steps n h = by (lowest_among (children_of n)) (is_over first second n) refl refl (any_there (children_of n) h)
    where
      by : (below : Option Node) (over : Bool) → lowest_among (children_of n) ≡ below → is_over first second n ≡ over
          → is_some (lowest_among (children_of n)) ≡ list_any (is_over first second) (children_of n)
          → (lowest first second n ≡ option_or (lowest_among (children_of n)) (cond (is_over first second n) (Some n) None)) × IsThere n
      by None true e f same =
          let none : list_any (is_over first second) (children_of n) ≡ false = sym same ∙ ap is_some e in
          let own : is_lowest first second n ≡ true = ap (λ (b : Bool). is_over first second n && not b) none ∙ ap (λ (b : Bool). b && true) f in
          let is : lowest first second n ≡ Some n = lowest_out n ∙ ap (λ (b : Bool). cond b (Some n) (lowest_among (children_of n))) own in
          (is ∙ sym (ap (λ o. option_or o (cond (is_over first second n) (Some n) None)) e ∙ ap (λ (b : Bool). cond b (Some n) None) f), ap is_some is ∙ sym f)
      by None false e f same =
          let own : is_lowest first second n ≡ false = ap (λ (b : Bool). b && not (list_any (is_over first second) (children_of n))) f in
          let is : lowest first second n ≡ None = lowest_out n ∙ ap (λ (b : Bool). cond b (Some n) (lowest_among (children_of n))) own ∙ e in
          (is ∙ sym (ap (λ o. option_or o (cond (is_over first second n) (Some n) None)) e ∙ ap (λ (b : Bool). cond b (Some n) None) f), ap is_some is ∙ sym f)
      by (Some low) over e f same =
          let some : list_any (is_over first second) (children_of n) ≡ true = sym same ∙ ap is_some e in
          let own : is_lowest first second n ≡ false = ap (λ (b : Bool). is_over first second n && not b) some ∙ and_false (is_over first second n) in
          let is : lowest first second n ≡ Some low = lowest_out n ∙ ap (λ (b : Bool). cond b (Some n) (lowest_among (children_of n))) own ∙ e in
          (is ∙ sym (ap (λ o. option_or o (cond (is_over first second n) (Some n) None)) e), ap is_some is ∙ sym (above n some))
        where
          and_false : (b : Bool) → (b && false) ≡ false
          and_false true = refl
          and_false false = refl

  there : (n : Node) → IsThere n
  there = by_children IsThere (λ n h. (steps n h).1)

  each_there : (nodes : List Node) → AllByRecursion IsThere nodes
  each_there [] = tt
  each_there (n ∷ nodes) = (there n, each_there nodes)

  pub lowest_is : (n : Node) → lowest first second n ≡ option_or (lowest_among (children_of n)) (cond (is_over first second n) (Some n) None)
  lowest_is n = (steps n (each_there (children_of n))).0

  pub over_is : (n : Node) → is_some (lowest first second n) ≡ is_over first second n
  over_is n = there n
