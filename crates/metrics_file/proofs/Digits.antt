-- Numbers that digits write, read from the front.
use Rattle.std.proofs.Common.{◌≡◌, ℕ, ◌+◌, ◌*◌, ◌^◌, ◌<◌, ◌≤◌, Bool, true, false, cond, ◌&&◌, nat_lt, List, ◌∷◌, length, drop, get_or, Option, Some, None, refl, ap, ◌∙◌, arith}
use Rattle.std.proofs.Math.Nat.{mul-le-mul_left}
use Rattle.std.proofs.Math.Pow.{pow_mono}
use Rattle.std.proofs.lemmas.Bool.Decides.{Decides-ltb}
use Rattle.std.proofs.lemmas.List.{drop_more}
use Rattle.std.proofs.lemmas.Nat.{pow-add}
use Rattle.std.specs.Char.{digit_value, is_digit}
use Rattle.std.specs.List.{list_all}
use Rattle.std.specs.Str.Parse.{digits_value_after}
use Rattle.metrics_file.specs.Words.{value_of_digits}

-- the number that digits write behind those of n
abbrev pub value_behind : ℕ → ℕ → List ℕ → Option ℕ
value_behind base n digits = cond (list_all (λ b. is_digit b base) digits) (Some (digits_value_after base n digits)) None

pub value_in_front : (base : ℕ) (digits : List ℕ) → value_of_digits base digits ≡ value_behind base 0 digits
unfolding value_of_digits
value_in_front base digits = refl

untrue : (b : Bool) → (b ≡ true → ⊥) → b ≡ false
untrue true h = absurd (h refl)
untrue false h = refl

module _ (base n : ℕ) (digits : List ℕ) (i : ℕ) (within : i < length digits) where
  abbrev byte : ℕ
  byte = get_or digits i 0

  front : drop i digits ≡ byte ∷ drop (i + 1) digits
  front = drop_more digits i 0 within

  -- one digit more
  pub next_digit : digit_value byte < base
      → value_behind base n (drop i digits) ≡ value_behind base (n * base + digit_value byte) (drop (i + 1) digits)
  next_digit h =
      let more = drop (i + 1) digits in
      ap (value_behind base n) front
      ∙ ap (λ b. cond (b && list_all (λ b. is_digit b base) more) (Some (digits_value_after base (n * base + digit_value byte) more)) None)
      ((Decides-ltb (digit_value byte) base).1 h)

  -- a byte that is none
  pub no_digit : (digit_value byte < base → ⊥) → value_behind base n (drop i digits) ≡ None
  no_digit h =
      let more = drop (i + 1) digits in
      ap (value_behind base n) front
      ∙ ap (λ b. cond (b && list_all (λ b. is_digit b base) more) (Some (digits_value_after base (n * base + digit_value byte) more)) None)
      (untrue (nat_lt (digit_value byte) base) (λ k. h ((Decides-ltb (digit_value byte) base).0 k)))

-- i digits of a base of at most 16 write less than 2 ^ (4 * i)
pub next_small : (base n d i : ℕ) → base ≤ 16 → d < base → n < 2 ^ (4 * i) → n * base + d < 2 ^ (4 * (i + 1))
next_small base n d i most below small =
    let more : 2 ^ (4 * (i + 1)) ≡ 2 ^ (4 * i) * 16 = ap (λ k. 2 ^ k) (omega arith) ∙ pow-add 2 (4 * i) 4 in
    let times : n * base ≤ n * 16 = mul-le-mul_left n most in
    rw more (omega (arith, times))

pub six_small : (i n : ℕ) → i ≤ 6 → n < 2 ^ (4 * i) → n < 2 ^ 24
six_small i n h small = let most : 2 ^ (4 * i) ≤ 2 ^ 24 = let fits : 4 * i ≤ 24 = omega arith in pow_mono fits in omega (arith, most)
