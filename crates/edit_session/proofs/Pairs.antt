-- Of different layouts that a tree needs there are at most two for each element.
use Rattle.std.proofs.Common.{◌≡◌, ◌∙◌, ◌⊎◌, inl, inr, refl, sym, ap, subst, ℕ, zero, suc, ◌+◌, ◌*◌, ◌≤◌, arith, List, [], ◌∷◌, length, Option, Some, None, slice_get}
use Rattle.std.proofs.lemmas.List.Sums.{sum_by-cons}
use Rattle.std.proofs.lemmas.Option.{none-some, same_Some}
use Rattle.std.specs.List.{AllByRecursion, sum_by}
use Rattle.std.specs.Option.{option_and_then}
use Rattle.std.specs.Prelude.{⊤}
use Rattle.font_metrics.specs.Metrics.{MetricsValue}
use Rattle.math_tree.specs.Trees.{IsWhole, TreeValue, element_count}
use Rattle.math_tree.specs.declared.node.Node.{Node}
use Rattle.math_tree.specs.declared.node.Node.TheViews.{out-Node}
use Rattle.math_tree.proofs.Counts.{elements_are}
use Rattle.math_tree.proofs.Nodes.{by_children}
use Rattle.tree_edits.specs.Paths.{node_at}
use Rattle.layout_model.specs.Layout.{root_context}
use Rattle.layout_model.specs.Waves.{MayBeAsked}
use Rattle.layout_model.specs.declared.context.Context.{Context}
use Rattle.layout_model.proofs.TwoContexts.{two_contexts}
use Rattle.kept_results.specs.Passes.{HasNoRepeat, Needs, Pair}
use Rattle.kept_results.proofs.Lists.{all_then}
use Rattle.kept_results.proofs.Passing.{pair_at, under}
use Rattle.memo_tree.proofs.Kept.{made_at}
use Rattle.memo_tree.specs.Trees.{context_of}

-- ---- a part of a list of pairs

abbrev and_then : Option Pair → List Pair → List Pair
and_then None pairs = pairs
and_then (Some pair) pairs = pair ∷ pairs

-- what becomes of those that a test picks
abbrev picked : (Pair → Option Pair) → List Pair → List Pair
picked test [] = []
picked test (pair ∷ pairs) = and_then (test pair) (picked test pairs)

module _ (test : Pair → Option Pair) (back : Pair → Pair) (was : (pair to : Pair) → test pair ≡ Some to → pair ≡ back to) where
  all_picked : (P : Pair → Type 0) (pairs : List Pair) → AllByRecursion P pairs → AllByRecursion (λ pair. P (back pair)) (picked test pairs)
  all_picked P [] h = tt
  all_picked P (pair ∷ pairs) h = by (test pair) refl (all_picked P pairs h.1)
    where
      by : (to : Option Pair) → test pair ≡ to → AllByRecursion (λ pair. P (back pair)) (picked test pairs) → AllByRecursion (λ pair. P (back pair)) (and_then to (picked test pairs))
      by None is rest = rest
      by (Some to) is rest = (subst P (was pair to is) h.0, rest)

  apart_picked : (pairs : List Pair) → HasNoRepeat pairs → HasNoRepeat (picked test pairs)
  apart_picked [] h = tt
  apart_picked (pair ∷ pairs) h = by (test pair) refl (apart_picked pairs h.1)
    where
      by : (to : Option Pair) → test pair ≡ to → HasNoRepeat (picked test pairs) → HasNoRepeat (and_then to (picked test pairs))
      by None is rest = rest
      by (Some to) is rest = (
        all_then (λ other. pair ≡ back other → ⊥) (λ other. to ≡ other → ⊥) (λ other differ same. differ (was pair to is ∙ ap back same)) (picked test pairs)
            (all_picked (λ other. pair ≡ other → ⊥) pairs h.0),
        rest,
      )

-- ---- pairs below the first of some siblings, and the others

abbrev first_of : List ℕ → Context → Option Pair
first_of [] context = None
first_of (zero ∷ path) context = Some (pair_at path context)
first_of (suc place ∷ path) context = None

abbrev later_of : List ℕ → Context → Option Pair
later_of [] context = Some (pair_at [] context)
later_of (zero ∷ path) context = None
later_of (suc place ∷ path) context = Some (pair_at (place ∷ path) context)

-- those below the first one, as they are seen from it
abbrev first : Pair → Option Pair
first pair = first_of pair.path pair.context

-- those that aren't, as if that one weren't there
abbrev later : Pair → Option Pair
later pair = later_of pair.path pair.context

abbrev moved : List ℕ → List ℕ
moved [] = []
moved (place ∷ path) = suc place ∷ path

abbrev back_of_later : Pair → Pair
back_of_later pair = pair_at (moved pair.path) pair.context

was_first : (path : List ℕ) (context : Context) (to : Pair) → first_of path context ≡ Some to → pair_at path context ≡ under 0 to
was_first [] context to h = absurd (none-some to h)
was_first (zero ∷ path) context to h = ap (under 0) (same_Some (pair_at path context) to h)
was_first (suc place ∷ path) context to h = absurd (none-some to h)

was_later : (path : List ℕ) (context : Context) (to : Pair) → later_of path context ≡ Some to → pair_at path context ≡ back_of_later to
was_later [] context to h = ap back_of_later (same_Some (pair_at [] context) to h)
was_later (zero ∷ path) context to h = absurd (none-some to h)
was_later (suc place ∷ path) context to h = ap back_of_later (same_Some (pair_at (place ∷ path) context) to h)

one_of : (path : List ℕ) (context : Context) (firsts laters : List Pair)
    → length (and_then (first_of path context) firsts) + length (and_then (later_of path context) laters) ≡ length firsts + length laters + 1
one_of [] context firsts laters = omega arith
one_of (zero ∷ path) context firsts laters = omega arith
one_of (suc place ∷ path) context firsts laters = omega arith

parted : (pairs : List Pair) → length pairs ≡ length (picked first pairs) + length (picked later pairs)
parted [] = refl
parted (pair ∷ pairs) = omega (arith, parted pairs, one_of pair.path pair.context (picked first pairs) (picked later pairs))

-- ---- pairs of which no three are of one element

-- the element at a path in a node is there, and so for a path from the parent of some siblings
abbrev IsThere : Node → List ℕ → Type 0
IsThere node path = (element : Node) × (node_at path node ≡ Some element)

abbrev IsAmong : List Node → List ℕ → Type 0
IsAmong nodes [] = ⊤
IsAmong nodes (place ∷ path) = (element : Node) × (option_and_then (node_at path) (slice_get nodes place) ≡ Some element)

below_all : (node : Node) (path : List ℕ) → IsThere node path → IsAmong (out-Node node).children path
below_all node [] h = tt
below_all node (place ∷ path) h = h

among_later : (node : Node) (nodes : List Node) (path : List ℕ) → IsAmong (node ∷ nodes) (moved path) → IsAmong nodes path
among_later node nodes [] h = tt
among_later node nodes (place ∷ path) h = h

none_among : (path : List ℕ) → IsAmong [] path → path ≡ []
none_among [] h = refl
none_among (place ∷ path) h = absurd (none-some h.0 h.1)

module _ (C : Pair → Type 0) where
  -- of three of one element, as they are seen from elsewhere, two are in one context
  abbrev TwoAtMost : (Pair → Pair) → Type 0
  TwoAtMost seen = (path : List ℕ) (a b d : Context) → C (seen (pair_at path a)) → C (seen (pair_at path b)) → C (seen (pair_at path d)) → (a ≡ b) ⊎ ((a ≡ d) ⊎ (b ≡ d))

  abbrev AllSeen : (Pair → Pair) → (List ℕ → Type 0) → List Pair → Type 0
  AllSeen seen P pairs = AllByRecursion (λ pair. C (seen pair) × P pair.path) pairs

  abbrev IsBounded : Node → Type 0
  IsBounded node = (seen : Pair → Pair) (pairs : List Pair) → TwoAtMost seen → HasNoRepeat pairs → AllSeen seen (IsThere node) pairs → length pairs ≤ 2 * element_count node

  same_pair : (a b : Pair) → a.path ≡ [] → b.path ≡ [] → a.context ≡ b.context → a ≡ b
  same_pair a b p q is = λ i. pair_at ((p ∙ sym q) i) (is i)

  own_few : (seen : Pair → Pair) (pairs : List Pair) → TwoAtMost seen → HasNoRepeat pairs → AllSeen seen (λ path. path ≡ []) pairs → length pairs ≤ 2
  own_few seen [] two apart h = omega arith
  own_few seen (a ∷ []) two apart h = omega arith
  own_few seen (a ∷ b ∷ []) two apart h = omega arith
  own_few seen (a ∷ b ∷ d ∷ pairs) two apart h =
      let here : (pair : Pair) → C (seen pair) → pair.path ≡ [] → C (seen (pair_at [] pair.context)) =
      λ pair is none. subst (λ (path : List ℕ). C (seen (pair_at path pair.context))) none is in
      absurd (elim (two [] a.context b.context d.context (here a h.0.0 h.0.1) (here b h.1.0.0 h.1.0.1) (here d h.1.1.0.0 h.1.1.0.1)) [
        | inl same ↦ apart.0.0 (same_pair a b h.0.1 h.1.0.1 same)
        | inr other ↦ elim other [ inl same ↦ apart.0.1.0 (same_pair a d h.0.1 h.1.1.0.1 same) | inr same ↦ apart.1.0.0 (same_pair b d h.1.0.1 h.1.1.0.1 same) ]
      ])

  all_bounded : (nodes : List Node) → AllByRecursion IsBounded nodes → (seen : Pair → Pair) (pairs : List Pair) → TwoAtMost seen → HasNoRepeat pairs → AllSeen seen (IsAmong nodes) pairs
      → length pairs ≤ 2 + 2 * sum_by element_count nodes
  all_bounded [] h seen pairs two apart all =
      let few = own_few seen pairs two apart (all_then (λ pair. C (seen pair) × IsAmong [] pair.path) (λ pair. C (seen pair) × (pair.path ≡ [])) (λ pair k. (k.0, none_among pair.path k.1)) pairs all) in
      omega (arith, few)
  all_bounded (node ∷ nodes) h seen pairs two apart all =
      let P : Pair → Type 0 = λ pair. C (seen pair) × IsAmong (node ∷ nodes) pair.path in
      let firsts = picked first pairs in
      let laters = picked later pairs in
      let one = h.0 (λ pair. seen (under 0 pair)) firsts (λ path. two (0 ∷ path))
      (apart_picked first (under 0) (λ pair to. was_first pair.path pair.context to) pairs apart)
      (all_picked first (under 0) (λ pair to. was_first pair.path pair.context to) P pairs all) in
      let moved_all = all_picked later back_of_later (λ pair to. was_later pair.path pair.context to) P pairs all in
      let rest = all_bounded nodes h.1 (λ pair. seen (back_of_later pair)) laters (λ path. two (moved path))
      (apart_picked later back_of_later (λ pair to. was_later pair.path pair.context to) pairs apart)
      (all_then (λ pair. P (back_of_later pair)) (λ pair. C (seen (back_of_later pair)) × IsAmong nodes pair.path) (λ pair k. (k.0, among_later node nodes pair.path k.1)) laters moved_all) in
      omega (arith, one, rest, parted pairs, sum_by-cons element_count node nodes)

  bounded : (node : Node) → IsBounded node
  bounded = by_children IsBounded (λ node h seen pairs two apart all.
      let few = all_bounded (out-Node node).children h seen pairs two apart
      (all_then (λ pair. C (seen pair) × IsThere node pair.path) (λ pair. C (seen pair) × IsAmong (out-Node node).children pair.path) (λ pair k. (k.0, below_all node pair.path k.1)) pairs all) in
      omega (arith, few, elements_are node))

-- ---- what a root needs

few_needed : (m : MetricsValue) (node : Node) (context : Context) (pairs : List Pair) → MayBeAsked m node context → HasNoRepeat pairs
    → AllByRecursion (Needs m node context) pairs → length pairs ≤ 2 * element_count node
few_needed m node context pairs may apart needed =
    let C : Pair → Type 0 = Needs m node context in
    bounded C node (λ pair. pair) pairs
    (λ path a b d h k l. two_contexts m node context may path h.element k.element l.element a b d h.made k.made l.made)
    apart
    (all_then C (λ pair. C pair × IsThere node pair.path) (λ pair need. (need, (need.element, made_at m pair.path node context need.element pair.context need.made))) pairs needed)

root_may : (m : MetricsValue) (tree : TreeValue) → MayBeAsked m tree.root (context_of m tree)
unfolding root_context
root_may m tree = tt

-- a whole tree needs no more than this
pub few_of_tree : (m : MetricsValue) (tree : TreeValue) (pairs : List Pair) → IsWhole tree → HasNoRepeat pairs
    → AllByRecursion (Needs m tree.root (context_of m tree)) pairs → length pairs ≤ 131_072
few_of_tree m tree pairs whole apart needed = omega (arith, whole.few, few_needed m tree.root (context_of m tree) pairs (root_may m tree) apart needed)
