-- Reading the text of a character's code gives the code.
use Rattle.std.proofs.Common.{◌≡◌, ◌∙◌, ap, refl, ℕ, ◌≤◌, ◌<◌, ◌+◌, ◌-◌, ◌*◌, ◌/◌, ◌%◌, ◌^◌, zero, suc, nat_eq, true, false, List, [], ◌∷◌, ◌++◌, length, replicate, Some, Ok, All, arith, lit<, lit≤, pow-suc, length-append, inl, inr}
use Rattle.std.specs.Char.{digit_value}
use Rattle.std.specs.Fmt.{digits, digits_onto, digit_glyph}
use Rattle.std.specs.List.{slice_split, AllByRecursion}
use Rattle.std.specs.Str.Parse.{AllDigits, digits_value}
use Rattle.std.proofs.lemmas.Bool.{and_parts, ne_eqb, eq-eqb, cases_Bool}
use Rattle.std.proofs.lemmas.Bool.Decides.{nat_tests}
use Rattle.std.proofs.lemmas.Fmt.{digits_is_IsNumeral}
use Rattle.std.proofs.lemmas.List.{length-replicate}
use Rattle.std.proofs.lemmas.List.Elements.{All-from_recursion}
use Rattle.std.proofs.lemmas.List.Splits.{slice_split_none, slice_split_at}
use Rattle.op_dictionary.specs.declared.text.OpText.{OpText}
use Rattle.op_dictionary.specs.declared.text.OpText.TheVariants.{Empty, One, Two, Other}
use Rattle.metrics_file.specs.Words.{code_of, letter_in, plus, operator_text_in}
use Rattle.font_metrics.specs.Names.{is_scalar, is_in_pair}
use Rattle.font_metrics.specs.Taken.{IsOperatorText}
use Rattle.metrics_file.specs.Print.{code_text, operator_text}
use Rattle.metrics_file.proofs.ReadBack.Decimal.{numeral-digits}

-- ---- digits

-- a number below 16 ^ most has at most so many digits
length-digits_onto : (k most n : ℕ) (acc : List ℕ) → n < 16 ^ suc most
    → length (digits_onto k 16 true n acc) ≤ suc most + length acc
length-digits_onto zero most n acc small = omega arith
length-digits_onto (suc k) zero n acc small =
    let last : nat_eq (n / 16) 0 ≡ true = eq-eqb (n / 16) 0 (omega arith) in
    rw last (omega arith)
length-digits_onto (suc k) (suc most) n acc small =
    let power : 16 ^ suc (suc most) ≡ 16 ^ suc most * 16 = pow-suc 16 (suc most) in
    let front : n / 16 < 16 ^ suc most = omega (arith, power) in
    let longer = length-digits_onto k most (n / 16) (digit_glyph true (n % 16) ∷ acc) front in
    elim (cases_Bool (nat_eq (n / 16) 0)) [ inl last ↦ rw last (omega arith) | inr more ↦ rw more (omega arith) ]

length-digits : (n : ℕ) → n < 0x1000000 → length (digits 16 true n) ≤ 6
unfolding digits
length-digits n small = omega (arith, length-digits_onto 64 5 n [] small)

all-zeros : (k : ℕ) (ds : List ℕ) → AllDigits 16 ds → AllDigits 16 (replicate k 48 ++ ds)
all-zeros zero ds h = h
all-zeros (suc k) ds h = (lit< tt, all-zeros k ds h)

value-zeros : (k : ℕ) (ds : List ℕ) → digits_value 16 (replicate k 48 ++ ds) ≡ digits_value 16 ds
value-zeros zero ds = refl
value-zeros (suc k) ds = value-zeros k ds

-- ---- one code

pub code_text-digits : (n : ℕ) → n < 0x1000000 → AllDigits 16 (code_text n)
code_text-digits n small =
    all-zeros (4 - length (digits 16 true n)) (digits 16 true n)
    (digits_is_IsNumeral 16 true (lit≤ tt) (lit≤ tt) n (omega arith)).0.1

pub length-code_text : (n : ℕ) → n < 0x1000000 → (4 ≤ length (code_text n)) × (length (code_text n) ≤ 6)
length-code_text n small =
    let short = length-digits n small in
    let is : length (code_text n) ≡ (4 - length (digits 16 true n)) + length (digits 16 true n) =
    length-append (replicate (4 - length (digits 16 true n)) 48) (digits 16 true n)
    ∙ ap (λ k. k + length (digits 16 true n)) (length-replicate (4 - length (digits 16 true n)) 48) in
    (omega arith, omega arith)

pub code_of-text : (n : ℕ) → n < 0x1000000 → code_of (code_text n) ≡ Some n
unfolding code_of
code_of-text n small =
    let long = length-code_text n small in
    numeral-digits 16 4 6 (code_text n) long.0 long.1 (code_text-digits n small)
    ∙ ap Some (value-zeros (4 - length (digits 16 true n)) (digits 16 true n)
    ∙ (digits_is_IsNumeral 16 true (lit≤ tt) (lit≤ tt) n (omega arith)).1)

pub scalar-small : (n : ℕ) → is_scalar n ≡ true → n < 0x1000000
scalar-small n h = grind (arith, nat_tests)

pub letter_in-text : (n : ℕ) → is_scalar n ≡ true → letter_in (code_text n) ≡ Ok n
unfolding letter_in
letter_in-text n scalar = rw (code_of-text n (scalar-small n scalar), scalar) refl

-- ---- an operator's text

no-plus : (ds : List ℕ) → AllDigits 16 ds → AllByRecursion (λ b. nat_eq b plus ≡ false) ds
no-plus [] h = tt
no-plus (c ∷ cs) h =
    (ne_eqb c plus (λ same. let e : digit_value c ≡ 36 = ap digit_value same in omega (arith, h.0)), no-plus cs h.1)

no-plus_in_code : (n : ℕ) → n < 0x1000000 → All (λ b. nat_eq b plus ≡ false) (code_text n)
no-plus_in_code n small = All-from_recursion _ (code_text n) (no-plus (code_text n) (code_text-digits n small))

pub pair-small : (n : ℕ) → is_in_pair n ≡ true → n < 0x1000000
pair-small n h = scalar-small n (and_parts _ _ h).0

codes-parted : (first second : ℕ) → first < 0x1000000 → second < 0x1000000
    → slice_split (λ b. nat_eq b plus) (code_text first ++ plus ∷ code_text second)
    ≡ code_text first ∷ code_text second ∷ []
codes-parted first second small small' =
    let none : All (λ b. nat_eq b plus ≡ false) (code_text first) = no-plus_in_code first small in
    slice_split_at (λ b. nat_eq b plus) (code_text first) plus (code_text second) none refl
    ∙ ap (λ parts. code_text first ∷ parts)
    (slice_split_none (λ b. nat_eq b plus) (code_text second) (no-plus_in_code second small'))

pub operator_text_in-text : (text : OpText) → IsOperatorText text → operator_text_in (operator_text text) ≡ Ok text
unfolding operator_text_in
operator_text_in-text Empty h = absurd h
operator_text_in-text (One letter) h =
    rw (slice_split_none (λ b. nat_eq b plus) (code_text letter) (no-plus_in_code letter (scalar-small letter h)))
    (rw (letter_in-text letter h) refl)
operator_text_in-text (Two first second) h =
    let small = pair-small first h.0 in
    let small' = pair-small second h.1 in
    rw (codes-parted first second small small', code_of-text first small, code_of-text second small', h.0, h.1) refl
operator_text_in-text Other h = absurd h
