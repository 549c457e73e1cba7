-- Where the first line of some bytes ends.
use Rattle.std.proofs.Common.{◌≡◌, ◌⊎◌, inl, inr, ℕ, ◌+◌, ◌-◌, ◌<◌, ◌≤◌, Bool, true, false, cond, not, nat_lt, List, [], ◌∷◌, ◌++◌, length, take, drop, position, ap, sym, refl, subst, ◌∙◌, arith, length-append, append-nil, Option, Some, None}
use Rattle.std.proofs.lemmas.Bool.Decides.{Decides-ltb, nat_tests}
use Rattle.std.proofs.lemmas.Option.{none-some, same_Some}
use Rattle.std.proofs.lemmas.List.{drop_at, take_rest}
use Rattle.std.specs.List.{position_or_len}

module _ {X : Type 0} (p : X → Bool) where
  -- it isn't past the end
  pub line_within : (xs : List X) → position_or_len p xs ≤ length xs
  line_within [] = omega arith
  line_within (x ∷ xs) = by (p x) (line_within xs)
    where
      by : (b : Bool) → position_or_len p xs ≤ length xs → cond (not b) (1 + position_or_len p xs) 0 ≤ length (x ∷ xs)
      by true h = omega arith
      by false h = omega (arith, h)

  -- where the bytes have no line feed, it is one of the bytes behind them
  pub line_behind : (xs ys : List X) → position_or_len p xs ≡ length xs
      → position_or_len p (xs ++ ys) ≡ length xs + position_or_len p ys
  line_behind [] ys h = omega arith
  line_behind (x ∷ xs) ys h = by (p x) (line_behind xs ys) h
    where
      by : (b : Bool) → (position_or_len p xs ≡ length xs → position_or_len p (xs ++ ys) ≡ length xs + position_or_len p ys)
          → cond (not b) (1 + position_or_len p xs) 0 ≡ length (x ∷ xs)
          → cond (not b) (1 + position_or_len p (xs ++ ys)) 0 ≡ length (x ∷ xs) + position_or_len p ys
      by true more k = absurd (omega (arith, k))
      by false more k = omega (arith, more (omega (arith, k)))

  -- else no byte behind them matters
  pub line_front : (xs ys : List X) → position_or_len p xs < length xs
      → position_or_len p (xs ++ ys) ≡ position_or_len p xs
  line_front [] ys h = absurd (omega (arith, h))
  line_front (x ∷ xs) ys h = by (p x) (line_front xs ys) h
    where
      by : (b : Bool) → (position_or_len p xs < length xs → position_or_len p (xs ++ ys) ≡ position_or_len p xs)
          → cond (not b) (1 + position_or_len p xs) 0 < length (x ∷ xs)
          → cond (not b) (1 + position_or_len p (xs ++ ys)) 0 ≡ cond (not b) (1 + position_or_len p xs) 0
      by true more k = refl
      by false more k = ap (λ n. 1 + n) (more (omega (arith, k)))

  -- more bytes make it no shorter
  pub line_more : (xs ys : List X) → position_or_len p xs ≤ position_or_len p (xs ++ ys)
  line_more [] ys = omega arith
  line_more (x ∷ xs) ys = by (p x) (line_more xs ys)
    where
      by : (b : Bool) → position_or_len p xs ≤ position_or_len p (xs ++ ys)
          → cond (not b) (1 + position_or_len p xs) 0 ≤ cond (not b) (1 + position_or_len p (xs ++ ys)) 0
      by true h = omega arith
      by false h = omega (arith, h)

  -- what a search for a line feed gives
  pub found_line : (xs : List X) (r : Option ℕ) (i : ℕ) → r ≡ position p xs → r ≡ Some i → i ≡ position_or_len p xs
  found_line xs r i h is = by (nat_lt (position_or_len p xs) (length xs)) (sym h ∙ is)
    where
      by : (b : Bool) → cond b (Some (position_or_len p xs)) None ≡ Some i → i ≡ position_or_len p xs
      by true k = sym (same_Some _ i k)
      by false k = absurd (none-some i k)

  pub no_line : (xs : List X) (r : Option ℕ) → r ≡ position p xs → r ≡ None → length xs ≡ position_or_len p xs
  no_line xs r h is = by (nat_lt (position_or_len p xs) (length xs)) refl (sym h ∙ is)
    where
      by : (b : Bool) → nat_lt (position_or_len p xs) (length xs) ≡ b → cond b (Some (position_or_len p xs)) None ≡ None
          → length xs ≡ position_or_len p xs
      by true e k = absurd (none-some _ (sym k))
      by false e k = let past : length xs ≤ position_or_len p xs = grind (arith, nat_tests) in omega (arith, past, line_within xs)

  -- after some bytes more, of which just these were looked at
  pub line_so_far : (held read held' : List X) (n more : ℕ) → n ≡ position_or_len p held → n ≡ length held → held' ≡ held ++ read
      → more ≡ position_or_len p (take (length held' - n) (drop n held')) → n + more ≡ position_or_len p held'
  line_so_far held read held' n more first all is next =
      let behind : drop n held' ≡ read = ap (drop n) is ∙ drop_at held read n (sym all) in
      let more_is : more ≡ position_or_len p read = next ∙ ap (position_or_len p) (take_rest held' n ∙ behind) in
      let both : position_or_len p held' ≡ length held + position_or_len p read = ap (position_or_len p) is ∙ line_behind held read (sym first ∙ all) in
      omega (arith, both, more_is, all)
