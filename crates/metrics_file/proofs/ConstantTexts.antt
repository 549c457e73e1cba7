-- The text at a place of a table of texts, and the place of a text.
use Rattle.std.proofs.Common.{◌≡◌, ◌<◌, ◌≤◌, ◌∙◌, ℕ, sym, ap, Bool, true, false, cond, nat_lt, Some, None, List, [], Bor, length, map, get_or, position, arith}
use Rattle.std.specs.List.{position_or_len}
use Rattle.std.proofs.lemmas.Bool.Decides.{nat_tests}
use Rattle.std.proofs.lemmas.List.{get_or-map, length-map}
use Rattle.std.proofs.lemmas.List.Sums.{position_or_len_is}

pub text_at-place : (texts : List (Bor (List ℕ))) (names : List (List ℕ)) (index place : ℕ) (d : Bor (List ℕ))
    → index ≡ place → place < length names → map (λ text. text.now) texts ≡ names
    → (get_or texts index d).now ≡ get_or names place []
text_at-place texts names index place d at small same =
    let count : length texts ≡ length names = sym (length-map texts (λ text. text.now)) ∙ ap length same in
    rw (at, ← same)
    (sym (get_or-map (λ (text : Bor (List ℕ)). text.now) texts place d [] (rw count small)))

-- the first item that passes a test
pub first-is : (p : List ℕ → Bool) (xs : List (List ℕ)) (i : ℕ) → i < length xs
    → ((k : ℕ) → k < i → p (get_or xs k []) ≡ false) → p (get_or xs i []) ≡ true → position p xs ≡ Some i
first-is p xs i below before is =
    let at : position_or_len p xs ≡ i = position_or_len_is p xs i [] (omega arith) before (λ _. is) in
    let less : nat_lt i (length xs) ≡ true = grind (arith, nat_tests) in
    ap (λ n. cond (nat_lt n (length xs)) (Some n) None) at ∙ ap (λ b. cond b (Some i) None) less

-- none passes
pub none-is : (p : List ℕ → Bool) (xs : List (List ℕ)) (i : ℕ) → length xs ≤ i
    → ((k : ℕ) → k < i → p (get_or xs k []) ≡ false) → position p xs ≡ None
none-is p xs i all before =
    let at : position_or_len p xs ≡ length xs =
    position_or_len_is p xs (length xs) [] (omega arith) (λ k below. before k (omega arith)) (λ below. absurd (omega arith)) in
    let less : nat_lt (length xs) (length xs) ≡ false = grind (arith, nat_tests) in
    ap (λ n. cond (nat_lt n (length xs)) (Some n) None) at ∙ ap (λ b. cond b (Some (length xs)) None) less
