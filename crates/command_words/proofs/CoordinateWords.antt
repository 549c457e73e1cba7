-- The number that a word of digits behind an optional minus writes, as `parse` gives it.
use Rattle.std.proofs.Common.{◌≡◌, ◌≢◌, ◌∙◌, refl, sym, ap, subst, inl, inr, ℕ, ◌<◌, ◌≤◌, ◌^◌, List, [], ◌∷◌, length, drop, get_or, Bool, true, false, ◌&&◌, nat_eq, nat_lt, nat_le, Option, Some, None, rules, ℤ, pos, arith, lit<, w64}
use Rattle.std.specs.Prelude.{Result, Ok, Err, if◌then◌else◌, neg_ℤ}
use Rattle.std.specs.Char.{is_ascii_digit}
use Rattle.std.specs.List.{list_all}
use Rattle.std.specs.Option.{option_map}
use Rattle.std.specs.Result.{OkIff, result_ok}
use Rattle.std.specs.Str.Parse.{ParsesSigned, digits_value}
use Rattle.std.proofs.lemmas.Bool.{and_parts, cases_lt, eqb-true, eqb-false, le-ltb, leb-true, lt-ltb}
use Rattle.std.proofs.lemmas.Str.Parse.{IsNumeralModel, digits_value_short, numerals_by_value, parse_signed_digits, parse_signed_minus}
use Rattle.command_words.specs.Numerals.{behind_minus, coordinate_in, is_short_numeral, negated, number_in}
use Rattle.command_words.proofs.DigitWords.{by_tests, no_number}

own : IsNumeralModel (λ ds. list_all is_ascii_digit ds ≡ true) (digits_value 10)
own = numerals_by_value (λ ds. list_all is_ascii_digit ds ≡ true) (search rules)

module _ (digits : List ℕ) (short : is_short_numeral 11 digits ≡ true) where
  alone : list_all is_ascii_digit digits ≡ true
  alone = (and_parts (list_all is_ascii_digit digits) (nat_le (length digits) 11) short).0

  few : length digits ≤ 11
  few = leb-true (length digits) 11 (and_parts (list_all is_ascii_digit digits) (nat_le (length digits) 11) short).1

  small : digits_value 10 digits < 10 ^ 11
  small = digits_value_short own digits 11 alone few

  -- a number with a sign, where there is a digit
  signed_by : {E : Type 0} → (sign : ℕ → ℤ) (limit : Type 0) → limit → (r : Result ℤ E)
      → OkIff r ((0 < length digits) × limit) (sign (digits_value 10 digits)) → result_ok r ≡ option_map sign (number_in 11 digits)
  signed_by sign limit within (Ok value) given =
      ap (λ (z : ℤ). Some z) given.1
      ∙ sym (ap (option_map sign) (by_tests 11 digits short true true (lt-ltb 0 (length digits) given.0.0) (lt-ltb (digits_value 10 digits) (2 ^ 64) (let l = small in omega (arith, l)))))
  signed_by sign limit within (Err error) none = elim (cases_lt 0 (length digits)) [
    | inl some ↦ absurd (none (some, within))
    | inr empty ↦ sym (ap (option_map sign) (by_tests 11 digits short false _ (le-ltb 0 (length digits) empty) refl))
  ]

  -- what is known of the digits anyway
  known_digits : {E : Type 0} → (limit : Type 0) (r : Result ℤ E) (value : ℤ) → OkIff r ((list_all is_ascii_digit digits ≡ true) × (0 < length digits) × limit) value
      → OkIff r ((0 < length digits) × limit) value
  known_digits limit (Ok z) value given = ((given.0.1, given.0.2), given.1)
  known_digits limit (Err error) value none = λ both. none (alone, both.0, both.1)

pub coordinate_parsed : {E : Type 0} → (word : List ℕ) (r : Result ℤ E) → is_short_numeral 11 (behind_minus word) ≡ true → ParsesSigned w64 10 word r
    → result_ok r ≡ coordinate_in word
unfolding coordinate_in
coordinate_parsed [] r short parses = by r (parse_signed_digits own w64 [] r parses refl)
  where
    by : {E : Type 0} → (r : Result ℤ E) → OkIff r ((0 < 0) × (0 < 2 ^ 63)) (pos 0) → result_ok r ≡ None
    by (Ok value) given = absurd (let l = given.0.0 in omega (arith, l))
    by (Err error) none = refl
coordinate_parsed (first ∷ others) r short parses = by (nat_eq first 45) refl short
  where
    by : (b : Bool) → nat_eq first 45 ≡ b → is_short_numeral 11 (if b then others else first ∷ others) ≡ true
        → result_ok r ≡ (if b then option_map negated (number_in 11 others) else option_map pos (number_in 11 (first ∷ others)))
    by true e s =
        signed_by others s negated (digits_value 10 others ≤ 2 ^ 63) (let l = small others s in omega (arith, l)) r
        (known_digits others s (digits_value 10 others ≤ 2 ^ 63) r (negated (digits_value 10 others)) (parse_signed_minus own w64 (first ∷ others) r parses (eqb-true first 45 e)))
    by false e s =
        signed_by (first ∷ others) s pos (digits_value 10 (first ∷ others) < 2 ^ 63) (let l = small (first ∷ others) s in omega (arith, l)) r
        (parse_signed_digits own w64 (first ∷ others) r parses (alone (first ∷ others) s))

pub no_coordinate : (word : List ℕ) → is_short_numeral 11 (behind_minus word) ≡ false → coordinate_in word ≡ None
unfolding coordinate_in
no_coordinate [] short = refl
no_coordinate (first ∷ others) short = by (nat_eq first 45) short
  where
    by : (b : Bool) → is_short_numeral 11 (if b then others else first ∷ others) ≡ false
        → (if b then option_map negated (number_in 11 others) else option_map pos (number_in 11 (first ∷ others))) ≡ None
    by true s = ap (option_map negated) (no_number 11 others s)
    by false s = ap (option_map pos) (no_number 11 (first ∷ others) s)
