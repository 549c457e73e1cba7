-- The parts of a length text: what `length_of` finds in a text that is joined from them.
use Rattle.std.proofs.Common.{◌≡◌, ◌↔◌, ◌∙◌, refl, sym, ap, ℕ, ◌+◌, ◌-◌, ◌*◌, ◌<◌, ◌≤◌, ◌⊎◌, inl, inr, arith, Bool, true, false, ◌&&◌, ◌||◌, not, cond, nat_eq, nat_le, List, [], ◌∷◌, ◌++◌, length, length-append, length-drop, length-take, map, reverse, take, drop, get_or, codes, Option, Some, None}
use Rattle.std.proofs.Math.Seq.{take-append_seam, drop-append_seam}
use Rattle.std.proofs.lemmas.Bool.{and_parts, and_from}
use Rattle.std.proofs.lemmas.Bool.Decides.{nat_tests}
use Rattle.std.proofs.lemmas.List.{get_or_append_left, get_or-append-add, get_or-drop, get_or-reverse, get_or-take, take-append-drop}
use Rattle.std.proofs.lemmas.List.Folds.{list_all-append, list_all-map}
use Rattle.std.proofs.lemmas.List.Sums.{AllPass-from_list_all, list_all-from_AllPass, suffix_len_is, suffix_len-le-length, prefix_len_passes}
use Rattle.std.proofs.lemmas.Slice.Eq.{bytes_eq-Decides}
use Rattle.std.specs.Char.{is_ascii_digit, is_ascii_whitespace, to_ascii_lowercase}
use Rattle.std.specs.List.{AllPass, list_all, prefix_len, suffix_len}
use Rattle.std.specs.Str.Parse.{digits_value}
use Rattle.css_lengths.specs.Grammar.{AreParts, IsFraction, IsSign, LengthParts, Writes, millionths_in, number_and_unit}
use Rattle.css_lengths.specs.Lengths.{signed, plus, minus, point, trimmed, without_start, without_end, is_negative, behind_sign, digits_in_front, behind_digits, behind_point, fraction_of, fraction_value, number_of, unit_of, unit_at, length_of}
use Rattle.css_lengths.specs.Optional.{◌>>=◌, ◌>>◌, only_if}
use Rattle.fixed_units.specs.Words.{is_word}
use Rattle.css_lengths.specs.declared.lengths.LengthText.{LengthText}
use Rattle.css_lengths.specs.declared.lengths.Unit.{Unit as LengthUnit}

-- ---- a front that passes a test, before what doesn't begin so
prefix_of : (p : ℕ → Bool) (front rest : List ℕ) → list_all p front ≡ true → prefix_len p rest ≡ 0 → prefix_len p (front ++ rest) ≡ length front
prefix_of p [] rest all stops = stops
prefix_of p (b ∷ front) rest all stops =
    let parts = and_parts (p b) (list_all p front) all in
    rw parts.0 (omega (arith, prefix_of p front rest parts.1 stops))

-- ---- the letters of units
-- a small letter, or the percent sign
letter : ℕ → Bool
letter b = nat_eq b 37 || (nat_le 97 b && nat_le b 122)

-- in any case
abbrev any_letter : ℕ → Bool
any_letter b = letter (to_ascii_lowercase b)

no_blank : (b : ℕ) → any_letter b ≡ true → is_ascii_whitespace b ≡ false
unfolding letter
no_blank b is = grind (arith, nat_tests)

no_digit : (b : ℕ) → any_letter b ≡ true → is_ascii_digit b ≡ false
unfolding letter
no_digit b is = grind (arith, nat_tests)

no_point : (b : ℕ) → any_letter b ≡ true → nat_eq b point ≡ false
unfolding letter
no_point b is = grind (arith, nat_tests)

letters_of_word : (name word : List ℕ) → list_all any_letter word ≡ true → is_word name word ≡ true → list_all any_letter name ≡ true
letters_of_word name word all is =
    let same = (bytes_eq-Decides (map to_ascii_lowercase name) (map to_ascii_lowercase word)).0 is in
    sym (list_all-map letter to_ascii_lowercase name) ∙ ap (list_all letter) same ∙ list_all-map letter to_ascii_lowercase word ∙ all

choice : {A : Type 0} (test : Bool) (this : A) (others : Option A) (found : A) → cond test (Some this) others ≡ Some found → (test ≡ true) ⊎ (others ≡ Some found)
choice true this others found e = inl refl
choice false this others found e = inr e

letters_of_unit : (name : List ℕ) (unit : LengthUnit) → unit_of name ≡ Some unit → list_all any_letter name ≡ true
unfolding unit_of letter
letters_of_unit name unit e0 =
    elim (choice _ _ _ _ e0) [
      | inl is ↦ letters_of_word name (codes "em") refl is
      | inr e1 ↦
          elim (choice _ _ _ _ e1) [
            | inl is ↦ letters_of_word name (codes "ex") refl is
            | inr e2 ↦
                elim (choice _ _ _ _ e2) [
                  | inl is ↦ letters_of_word name (codes "px") refl is
                  | inr e3 ↦
                      elim (choice _ _ _ _ e3) [
                        | inl is ↦ letters_of_word name (codes "pt") refl is
                        | inr e4 ↦
                            elim (choice _ _ _ _ e4) [
                              | inl is ↦ letters_of_word name (codes "pc") refl is
                              | inr e5 ↦
                                  elim (choice _ _ _ _ e5) [
                                    | inl is ↦ letters_of_word name (codes "in") refl is
                                    | inr e6 ↦
                                        elim (choice _ _ _ _ e6) [
                                          | inl is ↦ letters_of_word name (codes "cm") refl is
                                          | inr e7 ↦
                                              elim (choice _ _ _ _ e7) [
                                                | inl is ↦ letters_of_word name (codes "mm") refl is
                                                | inr e8 ↦
                                                    elim (choice _ _ _ _ e8) [
                                                      | inl is ↦ letters_of_word name (codes "q") refl is
                                                      | inr e9 ↦
                                                          elim (choice _ _ _ _ e9) [ inl is ↦ letters_of_word name (codes "%") refl is | inr e10 ↦ absurd cc ]
                                                    ]
                                              ]
                                        ]
                                  ]
                            ]
                      ]
                ]
          ]
    ]

-- ---- white space at both ends
visible : ℕ → Bool
visible b = not (is_ascii_whitespace b)

blank_or_not : (b : ℕ) → visible b ≡ true → is_ascii_whitespace b ≡ false
unfolding visible
blank_or_not b is = grind arith

-- of a text without white space and white space behind it, that is the white space at the end
blanks_behind : (core after : List ℕ) → list_all visible core ≡ true → AllPass is_ascii_whitespace after
    → suffix_len is_ascii_whitespace (core ++ after) ≡ length (core ++ after) - length core
blanks_behind core after inner ends =
    let long = length-append core after in
    let all = AllPass-from_list_all visible core inner in
    suffix_len_is is_ascii_whitespace (core ++ after) (length core) 0 (omega (arith, long))
    (λ k from below.
    let j = k - length core in
    let at : k ≡ length core + j = omega arith in
    let same : get_or (core ++ after) k 0 ≡ get_or after j 0 = ap (λ n. get_or (core ++ after) n 0) at ∙ get_or-append-add core after j 0 in
    rw same (ends j 0 (omega (arith, long))))
    (λ there.
    let i = length core - 1 in
    let same : get_or (core ++ after) i 0 ≡ get_or core i 0 = get_or_append_left core after 0 i (omega arith) in
    rw same (blank_or_not (get_or core i 0) (all i 0 (omega arith))))

-- what is left between white space, where no white space stands in it
trimmed_of : (before core after : List ℕ) → AllPass is_ascii_whitespace before → 0 < length core → list_all visible core ≡ true
    → AllPass is_ascii_whitespace after → trimmed (before ++ (core ++ after)) ≡ core
unfolding trimmed
trimmed_of before [] after blanks some inner ends = absurd (omega arith)
trimmed_of before (c ∷ cs) after blanks some inner ends =
    let core = c ∷ cs in
    let rest = core ++ after in
    let first : is_ascii_whitespace c ≡ false = blank_or_not c (and_parts (visible c) (list_all visible cs) inner).0 in
    let stops : prefix_len is_ascii_whitespace rest ≡ 0 = rw first refl in
    let front = prefix_of is_ascii_whitespace before rest (list_all-from_AllPass is_ascii_whitespace before blanks) stops in
    let start : without_start (before ++ rest) ≡ rest = ap (λ n. drop n (before ++ rest)) front ∙ drop-append_seam before rest in
    let behind = blanks_behind core after inner ends in
    let kept : length rest - suffix_len is_ascii_whitespace rest ≡ length core = omega (arith, length-append core after, behind) in
    ap without_end start ∙ ap (λ n. take n rest) kept ∙ take-append_seam core after

-- ---- the sign
-- what begins with a digit or a point has no sign
abbrev starts_a_number : List ℕ → Type 0
starts_a_number [] = ⊥
starts_a_number (b ∷ bs) = (is_ascii_digit b ≡ true) ⊎ (b ≡ point)

behind_no_sign : (number : List ℕ) → starts_a_number number → (behind_sign number ≡ number) × (is_negative number ≡ false)
unfolding behind_sign is_negative
behind_no_sign [] is = absurd is
behind_no_sign (b ∷ bs) (inl is) =
    let no_minus : nat_eq b minus ≡ false = grind (arith, nat_tests) in
    let no_plus : nat_eq b plus ≡ false = grind (arith, nat_tests) in
    (rw (no_minus, no_plus) refl, no_minus)
behind_no_sign (b ∷ bs) (inr is) = rw is (refl, refl)

behind_a_sign : (sign number : List ℕ) → IsSign sign → starts_a_number number
    → (behind_sign (sign ++ number) ≡ number) × (is_negative (sign ++ number) ≡ is_negative sign)
unfolding behind_sign is_negative
behind_a_sign sign number (inl none) starts = rw none (behind_no_sign number starts)
behind_a_sign sign number (inr (inl is)) starts = rw is (refl, refl)
behind_a_sign sign number (inr (inr is)) starts = rw is (refl, refl)

-- ---- digits
-- a unit's name, or nothing, begins with no digit and no point
digits_of : (digits rest : List ℕ) → AllPass is_ascii_digit digits → prefix_len is_ascii_digit rest ≡ 0
    → (digits_in_front (digits ++ rest) ≡ digits) × (behind_digits (digits ++ rest) ≡ rest)
unfolding digits_in_front behind_digits
digits_of digits rest all stops =
    let front = prefix_of is_ascii_digit digits rest (list_all-from_AllPass is_ascii_digit digits all) stops in
    (ap (λ n. take n (digits ++ rest)) front ∙ take-append_seam digits rest, ap (λ n. drop n (digits ++ rest)) front ∙ drop-append_seam digits rest)

no_digit_first : (name : List ℕ) → list_all any_letter name ≡ true → prefix_len is_ascii_digit name ≡ 0
no_digit_first [] all = refl
no_digit_first (b ∷ bs) all =
    let first = no_digit b (and_parts (any_letter b) (list_all any_letter bs) all).0 in rw first refl

-- the fraction in front of a name
fraction_of_name : (name : List ℕ) → list_all any_letter name ≡ true → fraction_of name ≡ Some ([], name)
unfolding fraction_of
fraction_of_name [] all = refl
fraction_of_name (b ∷ bs) all =
    let first = no_point b (and_parts (any_letter b) (list_all any_letter bs) all).0 in rw first refl

fraction_of_parts : (fraction name : List ℕ) → IsFraction fraction → list_all any_letter name ≡ true
    → (fraction_of (fraction ++ name) ≡ Some (drop 1 fraction, name)) × (prefix_len is_ascii_digit (fraction ++ name) ≡ 0)
unfolding fraction_of
fraction_of_parts fraction name (inl none) all = rw none (fraction_of_name name all, no_digit_first name all)
fraction_of_parts fraction name (inr is) all =
    let digits = is.0 in
    let split = digits_of digits name is.2 (no_digit_first name all) in
    let some : nat_le 1 (length digits) ≡ true = grind (arith, nat_tests) in
    rw is.1 (rw (split.0, split.1, some) refl, refl)

-- ---- the whole text
-- the letters of a unit's name are none of the others
no_blanks : (name : List ℕ) → list_all any_letter name ≡ true → list_all visible name ≡ true
unfolding visible
no_blanks [] all = refl
no_blanks (b ∷ bs) all =
    let parts = and_parts (any_letter b) (list_all any_letter bs) all in
    rw (no_blank b parts.0, no_blanks bs parts.1) refl

digits_visible : (digits : List ℕ) → list_all is_ascii_digit digits ≡ true → list_all visible digits ≡ true
unfolding visible
digits_visible [] all = refl
digits_visible (b ∷ bs) all =
    let parts = and_parts (is_ascii_digit b) (list_all is_ascii_digit bs) all in
    let first : is_ascii_whitespace b ≡ false = grind (arith, nat_tests) in
    rw (first, digits_visible bs parts.1) refl

sign_visible : (sign : List ℕ) → IsSign sign → list_all visible sign ≡ true
unfolding visible
sign_visible sign (inl none) = rw none refl
sign_visible sign (inr (inl is)) = rw is refl
sign_visible sign (inr (inr is)) = rw is refl

fraction_visible : (fraction : List ℕ) → IsFraction fraction → list_all visible fraction ≡ true
unfolding visible
fraction_visible fraction (inl none) = rw none refl
fraction_visible fraction (inr is) = rw is.1 (digits_visible is.0 (list_all-from_AllPass is_ascii_digit is.0 is.2))

unit_letters : (millionths : ℕ) (name : List ℕ) (unit : LengthUnit) → unit_at millionths name ≡ Some unit → list_all any_letter name ≡ true
unfolding unit_at
unit_letters millionths [] unit is = refl
unit_letters millionths (b ∷ bs) unit is = letters_of_unit (b ∷ bs) unit is

both : (a b : List ℕ) → list_all visible a ≡ true → list_all visible b ≡ true → list_all visible (a ++ b) ≡ true
both a b p q = list_all-append visible a b ∙ and_from (list_all visible a) (list_all visible b) p q

starts : (whole fraction name : List ℕ) → AllPass is_ascii_digit whole → IsFraction fraction → 0 < length whole + length fraction
    → starts_a_number (whole ++ (fraction ++ name))
starts [] fraction name digits (inl none) some = absurd (omega (arith, ap length none))
starts [] fraction name digits (inr is) some = rw is.1 (inr refl)
starts (b ∷ bs) fraction name digits is some = inl (digits 0 0 (omega arith))

any_digit : (whole fraction : List ℕ) → IsFraction fraction → 0 < length whole + length fraction → 1 ≤ length whole + length (drop 1 fraction)
any_digit whole fraction (inl none) some = rw none (omega (arith, some, ap length none))
any_digit whole fraction (inr is) some = rw is.1 (omega (arith, is.3))

number_of_parts : (whole fraction name : List ℕ) → AllPass is_ascii_digit whole → IsFraction fraction → list_all any_letter name ≡ true
    → length whole ≤ 9 → 0 < length whole + length fraction
    → number_of (whole ++ (fraction ++ name)) ≡ Some (digits_value 10 whole * 1000000 + fraction_value (drop 1 fraction), name)
unfolding number_of
number_of_parts whole fraction name digits is letters nine some =
    let f = fraction_of_parts fraction name is letters in
    let split = digits_of whole (fraction ++ name) digits f.1 in
    let few : nat_le (length whole) 9 ≡ true = grind (arith, nat_tests) in
    let one = any_digit whole fraction is some in
    let any : nat_le 1 (length whole + length (drop 1 fraction)) ≡ true = grind (arith, nat_tests) in
    rw (split.0, split.1, f.0, few, any) refl

-- what is joined from the parts is read as they say
pub read_from_parts : (text : List ℕ) (written : LengthText) (parts : LengthParts) → AreParts text written parts → length_of text ≡ Some written
unfolding length_of
read_from_parts text written parts p =
    let letters = unit_letters (millionths_in parts) parts.unit written.unit p.unit in
    let number = number_and_unit parts in
    let starts = starts parts.whole parts.fraction parts.unit p.whole p.fraction p.some in
    let sign = behind_a_sign parts.sign number p.sign starts in
    let inner = both parts.sign number (sign_visible parts.sign p.sign)
    (both parts.whole (parts.fraction ++ parts.unit) (digits_visible parts.whole (list_all-from_AllPass is_ascii_digit parts.whole p.whole))
    (both parts.fraction parts.unit (fraction_visible parts.fraction p.fraction) (no_blanks parts.unit letters))) in
    let trim = trimmed_of parts.before (parts.sign ++ number) parts.after p.before (omega (arith, p.some, length-append parts.sign number, length-append parts.whole (parts.fraction ++ parts.unit), length-append parts.fraction parts.unit)) inner p.after in
    let value = number_of_parts parts.whole parts.fraction parts.unit p.whole p.fraction letters p.nine p.some in
    rw (p.joined, trim, sign.0, sign.1, value, p.unit, ← p.number) refl

-- ---- from a text that is read to its parts
passes_in_front : (p : ℕ → Bool) (bs : List ℕ) → AllPass p (take (prefix_len p bs) bs)
passes_in_front p bs k d h =
    let below : k < prefix_len p bs = omega (arith, h, length-take (prefix_len p bs) bs) in
    rw get_or-take (prefix_len_passes p bs k d below)

passes_behind : (p : ℕ → Bool) (bs : List ℕ) → AllPass p (drop (length bs - suffix_len p bs) bs)
passes_behind p bs k d h =
    let n = suffix_len p bs in
    let short = suffix_len-le-length p bs in
    let long = length-drop (length bs - n) bs in
    let below : k < n = omega (arith, h, long, short) in
    let i = n - 1 - k in
    let at : length bs - 1 - i ≡ length bs - n + k = omega (arith, below, short) in
    let same : get_or (drop (length bs - n) bs) k d ≡ get_or (reverse bs) i d =
    get_or-drop (length bs - n) bs k d ∙ ap (λ m. get_or bs m d) (sym at) ∙ sym (get_or-reverse bs i d (omega (arith, below, short))) in
    rw same (prefix_len_passes p (reverse bs) i d (omega (arith, below)))

-- a step that gave something
bound : {A B : Type 0} (first : Option A) (second : A → Option B) (found : B) → (first >>= second) ≡ Some found
    → (x : A) × (first ≡ Some x) × (second x ≡ Some found)
bound None second found e = absurd cc
bound (Some x) second found e = (x, refl, e)

passed : {B : Type 0} (test : Bool) (second : Option B) (found : B) → (only_if test >> second) ≡ Some found → (test ≡ true) × (second ≡ Some found)
passed true second found e = (refl, e)
passed false second found e = absurd cc

sign_in : List ℕ → List ℕ
sign_in [] = []
sign_in (b ∷ bs) = cond (nat_eq b minus || nat_eq b plus) (b ∷ []) []

signs : (number : List ℕ) → IsSign (sign_in number) × (number ≡ sign_in number ++ behind_sign number) × (is_negative number ≡ is_negative (sign_in number))
unfolding sign_in behind_sign is_negative
signs [] = (inl refl, refl, refl)
signs (b ∷ bs) = by (nat_eq b minus) (nat_eq b plus) refl refl
  where
    by : (m p : Bool) → nat_eq b minus ≡ m → nat_eq b plus ≡ p
        → IsSign (cond (nat_eq b minus || nat_eq b plus) (b ∷ []) [])
        × (b ∷ bs ≡ cond (nat_eq b minus || nat_eq b plus) (b ∷ []) [] ++ cond (nat_eq b minus || nat_eq b plus) bs (b ∷ bs))
        × (nat_eq b minus ≡ is_negative (cond (nat_eq b minus || nat_eq b plus) (b ∷ []) []))
    by true p e f = let is : b ≡ minus = grind (arith, nat_tests) in rw is (inr (inr refl), refl, refl)
    by false true e f = let is : b ≡ plus = grind (arith, nat_tests) in rw is (inr (inl refl), refl, refl)
    by false false e f = rw (e, f) (inl refl, refl, refl)

digits_pass : (text : List ℕ) → AllPass is_ascii_digit (digits_in_front text)
unfolding digits_in_front
digits_pass text = passes_in_front is_ascii_digit text

digits_split : (text : List ℕ) → digits_in_front text ++ behind_digits text ≡ text
unfolding digits_in_front behind_digits
digits_split text = take-append-drop (prefix_len is_ascii_digit text) text

same_pair : {A B : Type 0} (a c : A) (b d : B) → ◌≡◌ {A = Option (A × B)} (Some (a, b)) (Some (c, d)) → (a ≡ c) × (b ≡ d)
same_pair {A} {B} a c b d e =
    let same : ◌≡◌ {A = A × B} (a, b) (c, d) = cc in
    (ap (λ (p : A × B). p.0) same, ap (λ (p : A × B). p.1) same)

-- the fraction in front of a name, from what `fraction_of` found
record FractionFound (text digits name : List ℕ) : Type 0 where
  fraction : List ℕ
  form : IsFraction fraction
  joined : text ≡ fraction ++ name
  behind_point : drop 1 fraction ≡ digits

fraction_found : (text digits name : List ℕ) → fraction_of text ≡ Some (digits, name) → FractionFound text digits name
unfolding fraction_of
fraction_found [] digits name e =
    let same = same_pair [] digits [] name e in
    record {
      fraction = [];
      form = inl refl;
      joined = same.1;
      behind_point = same.0;
    }
fraction_found (b ∷ bs) digits name e = by (nat_eq b point) refl e
  where
    by : (t : Bool) → nat_eq b point ≡ t → cond t (behind_point bs) (Some ([], b ∷ bs)) ≡ Some (digits, name) → FractionFound (b ∷ bs) digits name
    by true is e =
        let front = digits_in_front bs in
        let step = passed (nat_le 1 (length front)) (Some (front, behind_digits bs)) (digits, name) e in
        let same : b ≡ point = grind (arith, nat_tests) in
        let some : 1 ≤ length front = let t = step.0 in grind (arith, nat_tests) in
        let found = same_pair front digits (behind_digits bs) name step.1 in
        record {
          fraction = point ∷ front;
          form = inr (front, refl, digits_pass bs, some);
          joined = rw (same, ← found.1) (ap (λ l. point ∷ l) (sym (digits_split bs)));
          behind_point = found.0;
        }
    by false is e =
        let same = same_pair [] digits (b ∷ bs) name e in
        record {
          fraction = [];
          form = inl refl;
          joined = same.1;
          behind_point = same.0;
        }

-- the number in front of a name, from what `number_of` found
record NumberFound (text : List ℕ) (millionths : ℕ) (name : List ℕ) : Type 0 where
  whole : List ℕ
  fraction : List ℕ
  joined : text ≡ whole ++ (fraction ++ name)
  digits : AllPass is_ascii_digit whole
  form : IsFraction fraction
  nine : length whole ≤ 9
  some : 0 < length whole + length fraction
  value : digits_value 10 whole * 1000000 + fraction_value (drop 1 fraction) ≡ millionths

at_most : (m n : ℕ) → nat_le m n ≡ true → m ≤ n
at_most m n is = grind (arith, nat_tests)

some_digit : (fraction digits : List ℕ) (n : ℕ) → IsFraction fraction → drop 1 fraction ≡ digits → 1 ≤ n + length digits → 0 < n + length fraction
some_digit fraction digits n (inl none) same any = rw none (let e = ap length same in let f = ap (λ l. length (drop 1 l)) none in omega (arith, any, e, f))
some_digit fraction digits n (inr is) same any = rw is.1 (omega arith)

-- what `number_of` makes of the digits and of the fraction
abbrev number_from : List ℕ → List ℕ × List ℕ → Option (ℕ × List ℕ)
number_from whole fraction = do
  only_if (nat_le (length whole) 9)
  only_if (nat_le 1 (length whole + length fraction.0))
  Some (digits_value 10 whole * 1000000 + fraction_value fraction.0, fraction.1)

number_at : (text : List ℕ) (millionths : ℕ) (name : List ℕ) (fraction : Option (List ℕ × List ℕ)) → fraction_of (behind_digits text) ≡ fraction
    → (fraction >>= number_from (digits_in_front text)) ≡ Some (millionths, name)
    → NumberFound text millionths name
number_at text millionths name None is e = absurd cc
number_at text millionths name (Some (digits, rest)) is e =
    let whole = digits_in_front text in
    let value = Some (digits_value 10 whole * 1000000 + fraction_value digits, rest) in
    let few = passed (nat_le (length whole) 9) (only_if (nat_le 1 (length whole + length digits)) >> value) (millionths, name) e in
    let any = passed (nat_le 1 (length whole + length digits)) value (millionths, name) few.1 in
    let nine : length whole ≤ 9 = at_most (length whole) 9 few.0 in
    let one : 1 ≤ length whole + length digits = at_most 1 (length whole + length digits) any.0 in
    let same = same_pair (digits_value 10 whole * 1000000 + fraction_value digits) millionths rest name any.1 in
    let found = fraction_found (behind_digits text) digits rest is in
    record {
      whole = whole;
      fraction = found.fraction;
      joined = sym (digits_split text) ∙ ap (λ l. whole ++ l) (found.joined ∙ ap (λ l. found.fraction ++ l) same.1);
      digits = digits_pass text;
      form = found.form;
      nine = nine;
      some = some_digit found.fraction digits (length whole) found.form found.behind_point one;
      value = ap (λ l. digits_value 10 whole * 1000000 + fraction_value l) found.behind_point ∙ same.0;
    }

number_found : (text : List ℕ) (millionths : ℕ) (name : List ℕ) → number_of text ≡ Some (millionths, name) → NumberFound text millionths name
unfolding number_of
number_found text millionths name e = number_at text millionths name (fraction_of (behind_digits text)) refl e

-- the parts of a text, from its number and its unit
parts_found : (text : List ℕ) (written : LengthText) (millionths : ℕ) (name : List ℕ) → number_of (behind_sign (trimmed text)) ≡ Some (millionths, name)
    → unit_at millionths name ≡ Some written.unit → written.millionths ≡ signed (is_negative (trimmed text)) millionths → Writes text written
unfolding trimmed
parts_found text written millionths name e unit number =
    let start = without_start text in
    let core = without_end start in
    let sign = signs core in
    let n = number_found (behind_sign core) millionths name e in
    let at = length start - suffix_len is_ascii_whitespace start in
    let core_joined : core ≡ sign_in core ++ (n.whole ++ (n.fraction ++ name)) = sign.1 ∙ ap (λ l. sign_in core ++ l) n.joined in (
      record {
        before = take (prefix_len is_ascii_whitespace text) text;
        sign = sign_in core;
        whole = n.whole;
        fraction = n.fraction;
        unit = name;
        after = drop at start;
      },
      record {
        joined = sym (take-append-drop (prefix_len is_ascii_whitespace text) text)
            ∙ ap (λ l. take (prefix_len is_ascii_whitespace text) text ++ l) (sym (take-append-drop at start) ∙ ap (λ l. l ++ drop at start) core_joined);
        before = passes_in_front is_ascii_whitespace text;
        sign = sign.0;
        whole = n.digits;
        nine = n.nine;
        fraction = n.form;
        some = n.some;
        unit = ap (λ m. unit_at m name) n.value ∙ unit;
        after = passes_behind is_ascii_whitespace start;
        number = number ∙ ap (λ s. signed s millionths) sign.2 ∙ ap (signed (is_negative (sign_in core))) (sym n.value);
      },
    )

length_at : (text : List ℕ) (written : LengthText) (number : Option (ℕ × List ℕ)) → number_of (behind_sign (trimmed text)) ≡ number
    → (number >>= (λ n. unit_at n.0 n.1 >>= (λ unit. Some (record { millionths = signed (is_negative (trimmed text)) n.0; unit = unit })))) ≡ Some written
    → Writes text written
length_at text written None is e = absurd cc
length_at text written (Some (millionths, name)) is e = by (unit_at millionths name) refl e
  where
    by : (unit : Option LengthUnit) → unit_at millionths name ≡ unit
        → (unit >>= (λ unit. Some (record { millionths = signed (is_negative (trimmed text)) millionths; unit = unit }))) ≡ Some written → Writes text written
    by None at e = absurd cc
    by (Some unit) at e =
        let same : record { millionths = signed (is_negative (trimmed text)) millionths; unit = unit } ≡ written = cc in
        parts_found text written millionths name is (at ∙ ap (λ w. Some w.unit) same) (sym (ap (λ w. w.millionths) same))

-- the parts of a text that is read
pub parts_from_read : (text : List ℕ) (written : LengthText) → length_of text ≡ Some written → Writes text written
unfolding length_of
parts_from_read text written e = length_at text written (number_of (behind_sign (trimmed text))) refl e

-- a text is read as a length exactly where it has the form, and as the length that it writes
pub length_of_writes : (text : List ℕ) (written : LengthText) → (length_of text ≡ Some written) ↔ Writes text written
length_of_writes text written = (parts_from_read text written, λ w. read_from_parts text written w.0 w.1)

-- and as none exactly where it hasn't
pub length_of_none : (text : List ℕ) → (length_of text ≡ None) ↔ (((written : LengthText) × Writes text written) → ⊥)
length_of_none text = (
  λ none w. let is = read_from_parts text w.0 w.1.0 w.1.1 in absurd (cc),
  λ none. by none (length_of text) refl,
)
  where
    by : (((written : LengthText) × Writes text written) → ⊥) → (o : Option LengthText) → length_of text ≡ o → length_of text ≡ None
    by none None is = is
    by none (Some written) is = absurd (none (written, parts_from_read text written is))
