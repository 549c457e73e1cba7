-- What is found first in a list.
use Rattle.std.proofs.Common.{◌≡◌, ℕ, zero, suc, ◌<◌, ◌||◌, Bool, true, false, cond, List, [], ◌∷◌, ◌++◌, length, get_or, Contains, Option, Some, None, is_some, refl, ap, sym, ◌∙◌, arith}
use Rattle.std.proofs.lemmas.List.Folds.{Any-from_list_any, list_any_at, find-append}
use Rattle.std.proofs.lemmas.Map.Keys.{apart_from_distinct}
use Rattle.std.proofs.lemmas.Option.{none-some}
use Rattle.std.specs.List.{find, list_any, IsDistinct}
use Rattle.std.specs.Option.{option_map, option_or}

option_map-option_or : {X Y : Type 0} (f : X → Y) (o p : Option X)
    → option_map f (option_or o p) ≡ option_or (option_map f o) (option_map f p)
option_map-option_or f None p = refl
option_map-option_or f (Some x) p = refl

-- the first item that passes, after one more item
pub found-push : {X Y : Type 0} (f : X → Y) (p : X → Bool) (xs : List X) (x : X)
    → option_map f (find p (xs ++ x ∷ [])) ≡ option_or (option_map f (find p xs)) (cond (p x) (Some (f x)) None)
found-push f p xs x =
    ap (option_map f) (find-append p xs (x ∷ []))
    ∙ option_map-option_or f (find p xs) (find p (x ∷ []))
    ∙ ap (option_or (option_map f (find p xs))) (one (p x))
  where
    one : (b : Bool) → option_map f (cond b (Some x) None) ≡ cond b (Some (f x)) None
    one true = refl
    one false = refl

pub is_some-option_map : {X Y : Type 0} (f : X → Y) (o : Option X) → is_some (option_map f o) ≡ is_some o
is_some-option_map f None = refl
is_some-option_map f (Some x) = refl

-- one is found where any passes
pub found-any : {X : Type 0} (p : X → Bool) (xs : List X) → is_some (find p xs) ≡ list_any p xs
found-any p [] = refl
found-any p (x ∷ xs) = by (p x) (found-any p xs)
  where
    by : (b : Bool) → is_some (find p xs) ≡ list_any p xs → is_some (cond b (Some x) (find p xs)) ≡ (b || list_any p xs)
    by true rest = refl
    by false rest = rest

-- ---- one item that passes a test

-- the item at a place is found where none before it passes
find-at : {X : Type 0} (p : X → Bool) (xs : List X) (i : ℕ) (d : X) → i < length xs → p (get_or xs i d) ≡ true
    → ((j : ℕ) → j < i → p (get_or xs j d) ≡ false) → find p xs ≡ Some (get_or xs i d)
find-at p [] i d l h before = absurd (omega arith)
find-at p (x ∷ xs) zero d l h before = ap (λ b. cond b (Some x) (find p xs)) h
find-at p (x ∷ xs) (suc i) d l h before =
    ap (λ b. cond b (Some x) (find p xs)) (before 0 (omega arith))
    ∙ find-at p xs i d (omega arith) h (λ j k. before (suc j) (omega arith))

-- of distinct items, one that passes is found where all others that pass would clash with it
pub find-distinct : {X : Type 0} (e : X → X → Bool) (p : X → Bool) (xs : List X) (x : X) → IsDistinct e xs
    → Contains xs x
    → p x ≡ true → ((y : X) → p y ≡ true → e y x ≡ true) → find p xs ≡ Some x
find-distinct {X} e p xs x distinct at passes clash =
    find-at p xs at.0 x at.1 (ap p at.2 ∙ passes) (λ j l. by j l (p (get_or xs j x)) refl) ∙ ap Some at.2
  where
    by : (j : ℕ) → j < at.0 → (b : Bool) → p (get_or xs j x) ≡ b → b ≡ false
    by j l true h =
        let apart : e (get_or xs j x) (get_or xs at.0 x) ≡ false = apart_from_distinct e xs j at.0 x distinct l at.1 in
        let clashes : e (get_or xs j x) x ≡ true = clash (get_or xs j x) h in
        sym clashes ∙ ap (e (get_or xs j x)) (sym at.2) ∙ apart
    by j l false h = refl

-- what is found passes, and is an item
pub find-Some : {X : Type 0} (p : X → Bool) (xs : List X) (x : X) → find p xs ≡ Some x
    → (p x ≡ true) × Contains xs x
find-Some p [] x h = absurd (none-some x h)
find-Some {X} p (y ∷ ys) x h = by (p y) refl h (find-Some p ys x)
  where
    by : (b : Bool) → p y ≡ b → cond b (Some y) (find p ys) ≡ Some x
        → (find p ys ≡ Some x → (p x ≡ true) × Contains ys x) → (p x ≡ true) × Contains (y ∷ ys) x
    by true passes e rest = let same : y ≡ x = cc in (ap p (sym same) ∙ passes, (0, omega arith, same))
    by false passes e rest = let r = rest e in (r.0, (suc r.1.0, omega (arith, r.1.1), r.1.2))

-- an item of each list passes, and two such items meet
pub any-meet : {X : Type 0} (p : X → Bool) (meet : X → X → Bool)
    → ((x y : X) → p x ≡ true → p y ≡ true → meet x y ≡ true)
    → (xs ys : List X) → list_any p xs ≡ true → list_any p ys ≡ true → list_any (λ x. list_any (meet x) ys) xs ≡ true
any-meet p meet step xs ys h k =
    let x = Any-from_list_any p xs h in
    let y = Any-from_list_any p ys k in
    list_any_at (λ x. list_any (meet x) ys) xs x.0 x.1 x.2
    (ap (λ x. list_any (meet x) ys) x.3 ∙ list_any_at (meet x.1) ys y.0 y.1 y.2 (ap (meet x.1) y.3 ∙ step x.1 y.1 x.4 y.4))
