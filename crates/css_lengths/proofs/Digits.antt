-- Numbers that decimal digits write.
use Rattle.std.proofs.Common.{◌≡◌, ◌∙◌, sym, ℕ, zero, suc, lit<, ◌+◌, ◌-◌, ◌*◌, ◌^◌, ◌<◌, IsTrue, List, take, get_or-take, length-take, ap, arith}
use Rattle.std.proofs.Math.Nat.{mul-lt-mul_of_pos_right}
use Rattle.std.proofs.lemmas.Bool.Decides.{nat_tests}
use Rattle.std.proofs.lemmas.List.Sums.{prefix_len_passes}
use Rattle.std.proofs.lemmas.Nat.{pow-add}
use Rattle.std.specs.Char.{digit_value, is_ascii_digit}
use Rattle.std.specs.List.{prefix_len}
use Rattle.css_lengths.specs.Lengths.{AreDigits}

-- a digit is as far behind the digit 0 as its value says
pub digit_behind_zero : (b : ℕ) → IsTrue (is_ascii_digit b) → (b - 48 ≡ digit_value b) × (digit_value b < 10)
digit_behind_zero b is = (grind (arith, nat_tests), grind (arith, nat_tests))

-- i digits write less than 10 ^ i
pub one_digit_more : (n d i : ℕ) → n < 10 ^ i → d < 10 → n * 10 + d < 10 ^ (i + 1)
one_digit_more n d i small below = let more = pow-add 10 i 1 in omega (arith, more)

power_positive : (k : ℕ) → 0 < 10 ^ k
power_positive zero = lit< tt
power_positive (suc k) =
    let more = pow-add 10 k 1 in
    let before = power_positive k in
    let next : 10 ^ suc k ≡ 10 ^ (k + 1) = ap (λ j. 10 ^ j) (omega arith) in
    omega (arith, more, before, next)

-- n of i digits, in units of the last of six
pub six_digits : (n i k : ℕ) → n < 10 ^ i → i + k ≡ 6 → n * 10 ^ k < 10 ^ 6
six_digits n i k small e =
    let times : n * 10 ^ k < 10 ^ i * 10 ^ k = mul-lt-mul_of_pos_right small (power_positive k) in
    let six = sym (pow-add 10 i k) ∙ ap (λ j. 10 ^ j) e in
    omega (arith, times, six)

-- the digits in front are digits
pub front_digits : (text front : List ℕ) → front ≡ take (prefix_len is_ascii_digit text) text
    → AreDigits front
front_digits text front e = rw e by
  where
    n : ℕ
    n = prefix_len is_ascii_digit text

    by : AreDigits (take n text)
    by i h =
        let below : i < prefix_len is_ascii_digit text = omega (arith, h, length-take n text) in
        rw get_or-take (prefix_len_passes is_ascii_digit text i 0 below)
