-- Some of the items of a list, in their order; numbers that come before others in a list.
use Rattle.std.proofs.Common.{◌≡◌, ◌∙◌, ◌⊎◌, inl, inr, refl, sym, ap, subst, ℕ, zero, suc, nat_eq, Bool, true, false, ◌||◌, ◌&&◌, cond, List, [], ◌∷◌, ◌++◌, take}
use Rattle.std.specs.Prelude.{filter}
use Rattle.std.proofs.lemmas.Bool.Decides.{nat_tests}
use Rattle.std.proofs.lemmas.List.Folds.{list_any-append}
use Rattle.std.proofs.Common.{arith}
use Rattle.std.specs.List.{AllByRecursion, IsDistinct, list_any}

-- ---- some of the items

abbrev pub Sub : {A : Type 0} → List A → List A → Type 0
Sub xs [] = xs ≡ []
Sub {A} xs (y ∷ ys) = Sub xs ys ⊎ ((rest : List A) × (xs ≡ y ∷ rest) × Sub rest ys)

module _ {A : Type 0} where
  pub sub_none : (ys : List A) → Sub [] ys
  sub_none [] = refl
  sub_none (y ∷ ys) = inl (sub_none ys)

  pub sub_all : (ys : List A) → Sub ys ys
  sub_all [] = refl
  sub_all (y ∷ ys) = inr (ys, refl, sub_all ys)

  pub sub_append : (xs zs ys ws : List A) → Sub xs ys → Sub zs ws → Sub (xs ++ zs) (ys ++ ws)
  sub_append xs zs [] ws h k = subst (λ (front : List A). Sub (front ++ zs) ws) (sym h) k
  sub_append xs zs (y ∷ ys) ws (inl h) k = inl (sub_append xs zs ys ws h k)
  sub_append xs zs (y ∷ ys) ws (inr h) k =
      inr (h.0 ++ zs, ap (λ (front : List A). front ++ zs) h.1, sub_append h.0 zs ys ws h.2 k)

  pub sub_head : (x : A) (xs ys : List A) → Sub xs ys → Sub (x ∷ xs) (x ∷ ys)
  sub_head x xs ys h = inr (xs, refl, h)

  pub sub_skip : (xs : List A) (y : A) (ys : List A) → Sub xs ys → Sub xs (y ∷ ys)
  sub_skip xs y ys h = inl h

  -- what holds of all holds of some
  pub sub_holds : (P : A → Type 0) (xs ys : List A) → Sub xs ys → AllByRecursion P ys → AllByRecursion P xs
  sub_holds P xs [] h all = subst (AllByRecursion P) (sym h) tt
  sub_holds P xs (y ∷ ys) (inl h) all = sub_holds P xs ys h all.1
  sub_holds P xs (y ∷ ys) (inr h) all = subst (AllByRecursion P) (sym h.1) (all.0, sub_holds P h.0 ys h.2 all.1)

  pub sub_filter : (test : A → Bool) (xs : List A) → Sub (filter test xs) xs
  sub_filter test [] = refl
  sub_filter test (x ∷ xs) = by (test x) (sub_filter test xs)
    where
      by : (b : Bool) → Sub (filter test xs) xs → Sub (cond b (x ∷ filter test xs) (filter test xs)) (x ∷ xs)
      by true rest = sub_head x (filter test xs) xs rest
      by false rest = sub_skip (filter test xs) x xs rest

-- some of distinct numbers are distinct
pub sub_distinct : (xs ys : List ℕ) → Sub xs ys → IsDistinct nat_eq ys → IsDistinct nat_eq xs
unfolding IsDistinct
sub_distinct xs [] h d = subst (IsDistinct nat_eq) (sym h) tt
sub_distinct xs (y ∷ ys) (inl h) d = sub_distinct xs ys h d.1
sub_distinct xs (y ∷ ys) (inr h) d =
    subst (IsDistinct nat_eq) (sym h.1) (sub_holds (λ z. nat_eq y z ≡ false) h.0 ys h.2 d.0, sub_distinct h.0 ys h.2 d.1)

-- ---- document order, of ids

abbrev pub Relation : Type 0
Relation = ℕ → ℕ → Bool

-- none of the ids is related to one that isn't behind it
abbrev pub InOrder : Relation → List ℕ → Type 0
InOrder related [] = Unit {0}
InOrder related (id ∷ ids) = AllByRecursion (λ later. related later id ≡ false) (id ∷ ids) × InOrder related ids

pub sub_in_order : (related : Relation) (xs ys : List ℕ) → Sub xs ys → InOrder related ys → InOrder related xs
sub_in_order related xs [] h all = subst (InOrder related) (sym h) tt
sub_in_order related xs (y ∷ ys) (inl h) all = sub_in_order related xs ys h all.1
sub_in_order related xs (y ∷ ys) (inr h) all =
    subst (InOrder related) (sym h.1)
    ((all.0.0, sub_holds (λ later. related later y ≡ false) h.0 ys h.2 all.0.1), sub_in_order related h.0 ys h.2 all.1)

-- ---- one id before another

abbrev pub is_in : ℕ → List ℕ → Bool
is_in id ids = list_any (λ other. nat_eq other id) ids

abbrev pub before : List ℕ → Relation
before [] outer inner = false
before (id ∷ ids) outer inner = (nat_eq id outer && is_in inner ids) || before ids outer inner

or_true : (b : Bool) → (b || true) ≡ true
or_true true = refl
or_true false = refl

pub or_right : (a b : Bool) → b ≡ true → (a || b) ≡ true
or_right a b e = ap (λ (c : Bool). a || c) e ∙ or_true a

pub or_left : (a b : Bool) → a ≡ true → (a || b) ≡ true
or_left a b e = ap (λ (c : Bool). c || b) e

-- in a longer list too
pub before_front : (xs ys : List ℕ) (outer inner : ℕ) → before xs outer inner ≡ true → before (xs ++ ys) outer inner ≡ true
before_front [] ys outer inner e = absurd cc
before_front (x ∷ xs) ys outer inner e = by (λ f. before_front xs ys outer inner f) (nat_eq x outer) (is_in inner xs) refl e
  where
    longer : is_in inner xs ≡ true → is_in inner (xs ++ ys) ≡ true
    longer f = list_any-append (λ other. nat_eq other inner) xs ys ∙ or_left (is_in inner xs) (is_in inner ys) f

    by : (before xs outer inner ≡ true → before (xs ++ ys) outer inner ≡ true) → (a b : Bool) → is_in inner xs ≡ b → ((a && b) || before xs outer inner) ≡ true
        → ((a && is_in inner (xs ++ ys)) || before (xs ++ ys) outer inner) ≡ true
    by rest true true k f = ap (λ (c : Bool). c || before (xs ++ ys) outer inner) (longer k)
    by rest true false k f = or_right (is_in inner (xs ++ ys)) (before (xs ++ ys) outer inner) (rest f)
    by rest false b k f = rest f

pub before_back : (xs ys : List ℕ) (outer inner : ℕ) → before ys outer inner ≡ true → before (xs ++ ys) outer inner ≡ true
before_back [] ys outer inner e = e
before_back (x ∷ xs) ys outer inner e =
    or_right (nat_eq x outer && is_in inner (xs ++ ys)) (before (xs ++ ys) outer inner) (before_back xs ys outer inner e)

-- an id that isn't in a list comes before none there, and none before it
apart : (id : ℕ) (ids : List ℕ) → AllByRecursion (λ y. nat_eq id y ≡ false) ids → is_in id ids ≡ false
apart id [] all = refl
apart id (y ∷ ids) all =
    let flipped : nat_eq y id ≡ false = let e = all.0 in grind (arith, nat_tests) in
    ap (λ (b : Bool). b || is_in id ids) flipped ∙ apart id ids all.1

none_before : (ids : List ℕ) (outer inner : ℕ) → is_in inner ids ≡ false → before ids outer inner ≡ false
none_before [] outer inner e = refl
none_before (x ∷ ids) outer inner e =
    let rest = or_parts (nat_eq x inner) (is_in inner ids) e in
    ap (λ (b : Bool). (nat_eq x outer && b) || before ids outer inner) rest
    ∙ ap (λ (b : Bool). b || before ids outer inner) (and_false (nat_eq x outer)) ∙ none_before ids outer inner rest
  where
    or_parts : (a b : Bool) → (a || b) ≡ false → b ≡ false
    or_parts true b f = absurd cc
    or_parts false b f = f

    and_false : (a : Bool) → (a && false) ≡ false
    and_false true = refl
    and_false false = refl

-- with an id more in front, of which none is in the list
order_more : (id : ℕ) (ids some : List ℕ) → AllByRecursion (λ y. nat_eq id y ≡ false) some → InOrder (before ids) some → InOrder (before (id ∷ ids)) some
order_more id ids [] apart_all ordered = tt
order_more id ids (x ∷ some) apart_all ordered =
    (each (x ∷ some) apart_all ordered.0, order_more id ids some apart_all.1 ordered.1)
  where
    each : (others : List ℕ) → AllByRecursion (λ y. nat_eq id y ≡ false) others → AllByRecursion (λ later. before ids later x ≡ false) others
        → AllByRecursion (λ later. before (id ∷ ids) later x ≡ false) others
    each [] a b = tt
    each (later ∷ others) a b =
        (ap (λ (c : Bool). (c && is_in x ids) || before ids later x) a.0 ∙ b.0, each others a.1 b.1)

-- distinct ids stand in the order of their list
pub distinct_in_order : (ids : List ℕ) → IsDistinct nat_eq ids → InOrder (before ids) ids
unfolding IsDistinct
distinct_in_order [] d = tt
distinct_in_order (id ∷ ids) d =
    (each (id ∷ ids), order_more id ids ids d.0 (distinct_in_order ids d.1))
  where
    none : (later : ℕ) → before (id ∷ ids) later id ≡ false
    none later =
        ap (λ (b : Bool). (nat_eq id later && b) || before ids later id) (apart id ids d.0)
        ∙ ap (λ (b : Bool). b || before ids later id) (and_none (nat_eq id later)) ∙ none_before ids later id (apart id ids d.0)
      where
        and_none : (a : Bool) → (a && false) ≡ false
        and_none true = refl
        and_none false = refl

    each : (others : List ℕ) → AllByRecursion (λ later. before (id ∷ ids) later id ≡ false) others
    each [] = tt
    each (later ∷ others) = (none later, each others)

-- a smaller relation keeps the order
pub order_within : (related other : Relation) → ((outer inner : ℕ) → related outer inner ≡ true → other outer inner ≡ true) → (ids : List ℕ)
    → InOrder other ids → InOrder related ids
order_within related other implies [] ordered = tt
order_within related other implies (id ∷ ids) ordered = (each (id ∷ ids) ordered.0, order_within related other implies ids ordered.1)
  where
    one : (later : ℕ) (b : Bool) → related later id ≡ b → other later id ≡ false → b ≡ false
    one later true e f = absurd (let g = sym (implies later id e) ∙ f in cc)
    one later false e f = refl

    each : (others : List ℕ) → AllByRecursion (λ later. other later id ≡ false) others → AllByRecursion (λ later. related later id ≡ false) others
    each [] all = tt
    each (later ∷ others) all = (one later (related later id) refl all.0, each others all.1)
