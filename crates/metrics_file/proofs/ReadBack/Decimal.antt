-- Reading the text of a number gives the number.
use Rattle.std.proofs.Common.{◌≡◌, ◌∙◌, ap, refl, ℕ, ◌≤◌, ◌<◌, suc, ℤ, pos, negsuc, ◌≤ℤ◌, nat_eq, T, Bool, true, false, List, [], ◌∷◌, length, Some, Ok, decimal, arith, lit<}
use Rattle.std.proofs.lemmas.Int.{ints}
use Rattle.std.specs.Char.{is_digit, digit_value}
use Rattle.std.specs.Fmt.{signed_decimal}
use Rattle.std.specs.List.{list_all}
use Rattle.std.specs.Str.Parse.{AllDigits, digits_value}
use Rattle.std.proofs.lemmas.Bool.{and_from, le-leb, lt-ltb, ne_eqb}
use Rattle.std.proofs.lemmas.Fmt.{decimal_is_IsNumeral, length-decimal-le}
use Rattle.std.proofs.lemmas.Str.Parse.{digit_from_value}
use Rattle.metrics_file.specs.Words.{value_of_digits, numeral_of, minus, number_of, is_between, number_in, natural_in}

-- ---- digits of any base

pub all-digits : (base : ℕ) (ds : List ℕ) → AllDigits base ds → list_all (λ b. is_digit b base) ds ≡ true
all-digits base [] h = refl
all-digits base (c ∷ cs) h = and_from _ _ (lt-ltb (digit_value c) base h.0) (all-digits base cs h.1)

pub numeral-digits : (base fewest most : ℕ) (ds : List ℕ) → fewest ≤ length ds → length ds ≤ most
    → AllDigits base ds
    → numeral_of base fewest most ds ≡ Some (digits_value base ds)
unfolding numeral_of value_of_digits
numeral-digits base fewest most ds low high h =
    rw (le-leb fewest (length ds) low, le-leb (length ds) most high, all-digits base ds h) refl

-- ---- numbers

pub numeral-decimal : (n : ℕ) → n < 1000000 → numeral_of 10 1 6 (decimal n) ≡ Some n
numeral-decimal n small =
    let is = decimal_is_IsNumeral n (omega arith) in
    numeral-digits 10 1 6 (decimal n) (omega (arith, is.0.0))
    (length-decimal-le 6 n (lit< tt) (omega arith) (omega arith)) is.0.1
    ∙ ap Some is.1

-- no digit is a minus
number_of-digits : (ds : List ℕ) (n : ℕ) → AllDigits 10 ds → numeral_of 10 1 6 ds ≡ Some n
    → number_of ds ≡ Some (pos n)
unfolding number_of numeral_of
number_of-digits [] n h e = cc
number_of-digits (b ∷ bs) n h e =
    let range = digit_from_value b h.0 in
    let other : nat_eq b minus ≡ false = ne_eqb b minus (λ same. omega (arith, range, same)) in
    rw (other, e) refl

number_of-decimal : (n : ℕ) → n < 1000000 → number_of (decimal n) ≡ Some (pos n)
number_of-decimal n small =
    number_of-digits (decimal n) n (decimal_is_IsNumeral n (omega arith)).0.1 (numeral-decimal n small)

-- every number from -32768 to 65535 is read as itself
number_of-signed : (z : ℤ) → negsuc 32767 ≤ℤ z → z ≤ℤ pos 65535 → number_of (signed_decimal z) ≡ Some z
unfolding number_of
number_of-signed (pos n) low high = number_of-decimal n (omega (arith, ints))
number_of-signed (negsuc n) low high =
    let small : suc n < 1000000 = omega (arith, ints) in
    rw (numeral-decimal (suc n) small) refl

true-from_T : (b : Bool) → T b → b ≡ true
true-from_T true h = refl
true-from_T false h = absurd h

between-true : (low high z : ℤ) → low ≤ℤ z → z ≤ℤ high → is_between low high z ≡ true
between-true low high z l h = and_from _ _ (true-from_T _ l.le) (true-from_T _ h.le)

number_in-within : (low high z : ℤ) (word : List ℕ) → number_of word ≡ Some z → low ≤ℤ z → z ≤ℤ high
    → number_in low high word ≡ Ok z
unfolding number_in
number_in-within low high z word e l h = rw (e, between-true low high z l h) refl

pub number_in-signed : (low high z : ℤ) → negsuc 32767 ≤ℤ z → z ≤ℤ pos 65535 → low ≤ℤ z → z ≤ℤ high
    → number_in low high (signed_decimal z) ≡ Ok z
number_in-signed low high z least most l h =
    number_in-within low high z (signed_decimal z) (number_of-signed z least most) l h

pub natural_in-decimal : (low high n : ℕ) → n < 1000000 → low ≤ n → n ≤ high
    → natural_in low high (decimal n) ≡ Ok n
unfolding natural_in
natural_in-decimal low high n small l h =
    let least : pos low ≤ℤ pos n = omega (arith, ints) in
    let most : pos n ≤ℤ pos high = omega (arith, ints) in
    rw (number_in-within (pos low) (pos high) (pos n) (decimal n) (number_of-decimal n small) least most)
    refl
