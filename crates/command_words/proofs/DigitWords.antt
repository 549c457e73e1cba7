-- The number that a word of digits writes, as `parse` gives it.
use Rattle.std.proofs.Common.{◌≡◌, ◌∙◌, refl, sym, ap, inl, inr, ℕ, ◌<◌, ◌≤◌, ◌^◌, List, length, Bool, true, false, ◌&&◌, nat_lt, nat_le, Option, Some, None, rules}
use Rattle.std.specs.Prelude.{Result, Ok, Err, if◌then◌else◌}
use Rattle.std.specs.Char.{is_ascii_digit}
use Rattle.std.specs.List.{list_all}
use Rattle.std.specs.Result.{OkIff, result_ok}
use Rattle.std.specs.Str.Parse.{ParsesUnsigned, digits_value}
use Rattle.std.proofs.lemmas.Bool.{and_parts, cases_lt, le-ltb, lt-ltb}
use Rattle.std.proofs.lemmas.Str.Parse.{IsNumeralModel, numerals_by_value, parse_digits}
use Rattle.command_words.specs.Numerals.{is_short_numeral, number_in}

own : IsNumeralModel (λ ds. list_all is_ascii_digit ds ≡ true) (digits_value 10)
own = numerals_by_value (λ ds. list_all is_ascii_digit ds ≡ true) (search rules)

module _ (most : ℕ) (word : List ℕ) where
  pub no_number : is_short_numeral most word ≡ false → number_in most word ≡ None
  unfolding number_in
  no_number is =
      ap (λ (short : Bool). if short && nat_lt 0 (length word) && nat_lt (digits_value 10 word) (2 ^ 64) then Some (digits_value 10 word) else None) is

  -- by whether there is a digit, and whether the number is small enough
  pub by_tests : is_short_numeral most word ≡ true → (some small : Bool)
      → nat_lt 0 (length word) ≡ some → nat_lt (digits_value 10 word) (2 ^ 64) ≡ small
      → number_in most word ≡ (if some && small then Some (digits_value 10 word) else None)
  unfolding number_in
  by_tests short some small is_some is_small =
      λ i. if short i && is_some i && is_small i then Some (digits_value 10 word) else None

  by_result : {E : Type 0} → is_short_numeral most word ≡ true → (r : Result ℕ E)
      → OkIff r ((0 < length word) × (digits_value 10 word < 2 ^ 64)) (digits_value 10 word) → result_ok r ≡ number_in most word
  by_result short (Ok value) given =
      ap (λ (n : ℕ). Some n) given.1
      ∙ sym (by_tests short true true (lt-ltb 0 (length word) given.0.0) (lt-ltb (digits_value 10 word) (2 ^ 64) given.0.1))
  by_result short (Err error) none = elim (cases_lt 0 (length word)) [
    | inl some ↦ elim (cases_lt (digits_value 10 word) (2 ^ 64)) [
      | inl small ↦ absurd (none (some, small))
      | inr large ↦ sym (by_tests short true false (lt-ltb 0 (length word) some) (le-ltb (digits_value 10 word) (2 ^ 64) large))
    ]
    | inr empty ↦ sym (by_tests short false _ (le-ltb 0 (length word) empty) refl)
  ]

  pub parsed : {E : Type 0} → is_short_numeral most word ≡ true → (r : Result ℕ E) → ParsesUnsigned 64 10 word r → result_ok r ≡ number_in most word
  parsed short r parses = by_result short r (parse_digits own 64 word r parses (and_parts _ _ short).0)
