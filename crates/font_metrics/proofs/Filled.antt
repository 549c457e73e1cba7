-- Tables that are filled in order of their keys.
use Rattle.std.proofs.Common.{◌≡◌, ◌∙◌, ap, refl, sym, subst, ℕ, ◌≤◌, ◌<◌, ◌+◌, List, [], ◌∷◌, ◌++◌, length, filter, Some, None, nat_lt, nat_eq, Less, Greater, Equal, nat_cmp, arith, inl, inr}
use Rattle.std.specs.BTreeMap.{insert_entry}
use Rattle.std.specs.List.{AllByRecursion}
use Rattle.std.specs.List.Sorted.{IsStrictlySortedBy}
use Rattle.std.specs.Map.{lookup, keys_of}
use Rattle.std.proofs.lemmas.List.{map-append}
use Rattle.std.proofs.lemmas.Bool.{lt-ltb, le-ltb, ne_eqb, eq-eqb, cases_order}
use Rattle.std.proofs.lemmas.Bool.Decides.{nat_tests}
use Rattle.font_metrics.specs.Metrics.{ByGlyph, items_of, with_item}

-- each key of a list is below this one
abbrev pub AreBelow : {X : Type 0} → ℕ → List (ℕ × X) → Type 0
AreBelow k es = AllByRecursion (λ j. j < k) (keys_of es)

-- ---- what stands before a key of an ordered list

less-lt : (j k : ℕ) → nat_cmp j k ≡ Less → j < k
less-lt j k h = grind (arith, nat_tests)

less-at_middle : (j : ℕ) (keys : List ℕ) (k : ℕ) (more : List ℕ)
    → AllByRecursion (λ i. nat_cmp j i ≡ Less) (keys ++ k ∷ more)
    → j < k
less-at_middle j [] k more h = less-lt j k h.0
less-at_middle j (i ∷ keys) k more h = less-at_middle j keys k more h.1

pub sorted-before : (keys : List ℕ) (k : ℕ) (more : List ℕ) → IsStrictlySortedBy nat_cmp (keys ++ k ∷ more)
    → AllByRecursion (λ j. j < k) keys
unfolding IsStrictlySortedBy
sorted-before [] k more h = tt
sorted-before (j ∷ keys) k more h = (less-at_middle j keys k more h.0, sorted-before keys k more h.1)

-- ---- a key above all others

greater : (j k : ℕ) → j < k → nat_cmp k j ≡ Greater
greater j k h = rw (le-ltb k j (omega arith), ne_eqb k j (λ same. omega arith)) refl

equal : (k : ℕ) → nat_cmp k k ≡ Equal
equal k = rw (le-ltb k k (omega arith), eq-eqb k k refl) refl

pub insert-above : {X : Type 0} (es : List (ℕ × X)) (k : ℕ) (v : X) → AreBelow k es
    → insert_entry nat_cmp es k v ≡ es ++ (k, v) ∷ []
insert-above [] k v h = refl
insert-above (e ∷ es) k v h = rw (greater e.0 k h.0, insert-above es k v h.1) refl

pub lookup-above : {X : Type 0} (es : List (ℕ × X)) (k : ℕ) → AreBelow k es → lookup (nat_eq k) es ≡ None
lookup-above [] k h = refl
lookup-above (e ∷ es) k h = rw (ne_eqb k e.0 (λ same. omega (arith, h.0)), lookup-above es k h.1) refl

insert-last : {X : Type 0} (es : List (ℕ × X)) (k : ℕ) (v w : X) → AreBelow k es
    → insert_entry nat_cmp (es ++ (k, v) ∷ []) k w ≡ es ++ (k, w) ∷ []
insert-last [] k v w h = rw (equal k) refl
insert-last (e ∷ es) k v w h = rw (greater e.0 k h.0, insert-last es k v w h.1) refl

lookup-last : {X : Type 0} (es : List (ℕ × X)) (k : ℕ) (v : X) → AreBelow k es
    → lookup (nat_eq k) (es ++ (k, v) ∷ []) ≡ Some v
lookup-last [] k v h = rw (eq-eqb k k refl) refl
lookup-last (e ∷ es) k v h = rw (ne_eqb k e.0 (λ same. omega (arith, h.0)), lookup-last es k v h.1) refl

-- ---- items behind all that a table has

-- a table with the items of one more place
abbrev pub with_items : {X : Type 0} → ByGlyph X → ℕ → List X → ByGlyph X
with_items table place [] = table
with_items table place (x ∷ xs) = table ++ (place, x ∷ xs) ∷ []

pub items_of-with_items : {X : Type 0} (table : ByGlyph X) (place : ℕ) (items : List X) → AreBelow place table
    → items_of (with_items table place items) place ≡ items
items_of-with_items table place [] h = rw (lookup-above table place h) refl
items_of-with_items table place (x ∷ xs) h = rw (lookup-last table place (x ∷ xs) h) refl

insert-with_items : {X : Type 0} (table : ByGlyph X) (place : ℕ) (items more : List X) → AreBelow place table
    → insert_entry nat_cmp (with_items table place items) place more ≡ table ++ (place, more) ∷ []
insert-with_items table place [] more h = insert-above table place more h
insert-with_items table place (x ∷ xs) more h = insert-last table place (x ∷ xs) more h

with_items-push : {X : Type 0} (table : ByGlyph X) (place : ℕ) (items : List X) (x : X)
    → table ++ (place, items ++ x ∷ []) ∷ [] ≡ with_items table place (items ++ x ∷ [])
with_items-push table place [] x = refl
with_items-push table place (y ∷ ys) x = refl

pub with_item-more : {X : Type 0} (table : ByGlyph X) (place : ℕ) (items : List X) (x : X) → AreBelow place table
    → with_item (with_items table place items) place x ≡ with_items table place (items ++ x ∷ [])
with_item-more table place items x h =
    ap (λ had. insert_entry nat_cmp (with_items table place items) place (had ++ x ∷ []))
    (items_of-with_items table place items h)
    ∙ insert-with_items table place items (items ++ x ∷ []) h
    ∙ with_items-push table place items x

-- ---- a table up to a place

-- the entries of the places below a place
abbrev pub below : {X : Type 0} → ℕ → ByGlyph X → ByGlyph X
below place table = filter (λ e. nat_lt e.0 place) table

pub below-zero : {X : Type 0} (table : ByGlyph X) → below 0 table ≡ []
below-zero [] = refl
below-zero (e ∷ es) = rw (le-ltb e.0 0 (omega arith), below-zero es) refl

pub below-all : {X : Type 0} (place : ℕ) (table : ByGlyph X) → AreBelow place table → below place table ≡ table
below-all place [] h = refl
below-all place (e ∷ es) h = rw (lt-ltb e.0 place h.0, below-all place es h.1) refl

pub below-keys : {X : Type 0} (place : ℕ) (table : ByGlyph X) → AreBelow place (below place table)
below-keys place [] = tt
below-keys place (e ∷ es) = elim (cases_order e.0 place) [
  | inl same ↦ rw (le-ltb e.0 place (omega arith)) (below-keys place es)
  | inr (inl less) ↦ rw (lt-ltb e.0 place less) (less, below-keys place es)
  | inr (inr more) ↦ rw (le-ltb e.0 place (omega arith)) (below-keys place es)
]

-- keys above a place
abbrev AreAbove : {X : Type 0} → ℕ → ByGlyph X → Type 0
AreAbove k es = AllByRecursion (λ j. k < j) (keys_of es)

above-tail : {X : Type 0} (k : ℕ) (es : ByGlyph X) → AllByRecursion (λ j. nat_cmp k j ≡ Less) (keys_of es)
    → AreAbove k es
above-tail k [] h = tt
above-tail k (e ∷ es) h = (less-lt k e.0 h.0, above-tail k es h.1)

above-lower : {X : Type 0} (j k : ℕ) (es : ByGlyph X) → j ≤ k → AreAbove k es → AreAbove j es
above-lower j k [] le h = tt
above-lower j k (e ∷ es) le h = ((omega (arith, h.0)), above-lower j k es le h.1)

below-none : {X : Type 0} (place : ℕ) (es : ByGlyph X) → AreAbove place es → below (place + 1) es ≡ []
below-none place [] h = refl
below-none place (e ∷ es) h = rw (le-ltb e.0 (place + 1) (omega (arith, h.0)), below-none place es h.1) refl

below-none_yet : {X : Type 0} (place : ℕ) (es : ByGlyph X) → AreAbove place es → below place es ≡ []
below-none_yet place [] h = refl
below-none_yet place (e ∷ es) h = rw (le-ltb e.0 place (omega (arith, h.0)), below-none_yet place es h.1) refl

lookup-below : {X : Type 0} (place : ℕ) (es : ByGlyph X) → AreAbove place es → lookup (nat_eq place) es ≡ None
lookup-below place [] h = refl
lookup-below place (e ∷ es) h = rw (ne_eqb place e.0 (λ same. omega (arith, h.0)), lookup-below place es h.1) refl

with_items-cons : {X : Type 0} (e : ℕ × List X) (table : ByGlyph X) (place : ℕ) (items : List X)
    → e ∷ with_items table place items ≡ with_items (e ∷ table) place items
with_items-cons e table place [] = refl
with_items-cons e table place (x ∷ xs) = refl

with_items-alone : {X : Type 0} (place : ℕ) (items : List X) → 1 ≤ length items
    → (place, items) ∷ [] ≡ with_items [] place items
with_items-alone place [] h = absurd (omega arith)
with_items-alone place (x ∷ xs) h = refl

-- one place further there are the items of that place
pub below-more : {X : Type 0} (place : ℕ) (table : ByGlyph X) → IsStrictlySortedBy nat_cmp (keys_of table)
    → AllByRecursion (λ e. 1 ≤ length e.1) table
    → below (place + 1) table ≡ with_items (below place table) place (items_of table place)
unfolding IsStrictlySortedBy
below-more place [] sorted some = refl
below-more place (e ∷ es) sorted some =
    let above = above-tail e.0 es sorted.0 in
    elim (cases_order e.0 place) [
      | inl same ↦
          let above' = above-lower place e.0 es (omega arith) above in
          rw (
            lt-ltb e.0 (place + 1) (omega arith),
            le-ltb e.0 place (omega arith),
            below-none place es above',
            below-none_yet place es above',
            eq-eqb place e.0 (sym same),
          )
          (rw same (with_items-alone place e.1 some.0))
      | inr (inl less) ↦
          rw (lt-ltb e.0 (place + 1) (omega arith), lt-ltb e.0 place less, ne_eqb place e.0 (λ s. omega arith))
          (ap (λ rest. e ∷ rest) (below-more place es sorted.1 some.1)
          ∙ with_items-cons e (below place es) place (items_of es place))
      | inr (inr more) ↦
          let above' = above-lower place e.0 es (omega arith) above in
          rw (
            le-ltb e.0 (place + 1) (omega arith),
            le-ltb e.0 place (omega arith),
            below-none place es above',
            below-none_yet place es above',
            ne_eqb place e.0 (λ s. omega arith),
            lookup-below place es above',
          ) refl
    ]

-- what stands before an entry of an ordered list
pub sorted-middle : {X : Type 0} (es front : List (ℕ × X)) (e : ℕ × X) (back : List (ℕ × X)) → front ++ e ∷ back ≡ es
    → IsStrictlySortedBy nat_cmp (keys_of es)
    → AreBelow e.0 front
sorted-middle es front e back same h =
    sorted-before (keys_of front) e.0 (keys_of back)
    (subst (λ (keys : List ℕ). IsStrictlySortedBy nat_cmp keys)
    (ap keys_of (sym same) ∙ map-append (λ p. p.0) front (e ∷ back)) h)
