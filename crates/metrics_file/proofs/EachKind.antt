-- What the fields of each kind of line give lies in its ranges.
use Rattle.std.proofs.Common.{◌≡◌, ◌∙◌, ◌==◌, ◌≤ℤ◌, sym, ap, subst, ℕ, ◌≤◌, ◌<◌, true, not, true≢false, ℤ, pos, negsuc, int_le, unsigned_abs, List, [], ◌∷◌, length, Option, Some, None, Ok, arith}
use Rattle.std.proofs.lemmas.Bool.{and_parts}
use Rattle.std.proofs.lemmas.Bool.Decides.{nat_tests}
use Rattle.std.proofs.lemmas.List.Quantifiers.{position-Some}
use Rattle.std.specs.List.{slice_split}
use Rattle.std.specs.Option.{unwrap_or, IfSome}
use Rattle.std.specs.Str.{bytes_eq}
use Rattle.fixed_units.proofs.Signed.{signed}
use Rattle.op_dictionary.specs.declared.extra.OperatorLine.{OperatorLine}
use Rattle.op_dictionary.specs.declared.text.OpText.{OpText}
use Rattle.op_dictionary.specs.declared.text.OpText.TheVariants.{One, Two}
use Rattle.font_metrics.specs.declared.fault.LineFault.TheVariants.{FieldCount, NotANumber, OutOfRange, WrongWord, NotNamed}
use Rattle.font_metrics.specs.Constants.{constant_texts, place_of_text, lowest_of, highest_of}
use Rattle.font_metrics.specs.Faults.{or_fault, fault_if}
use Rattle.font_metrics.specs.Slot.{Words}
use Rattle.metrics_file.specs.Lines.{upem_in, line_in, one_length_in, length_in, reach_in, reach_if_given, named_in, constant_in, glyph_with, glyph_in, character_in, operator_in}
use Rattle.font_metrics.specs.Metrics.{NamedGlyph, place_of_name}
use Rattle.font_metrics.specs.Taken.{IsLength, IsReach, IsGlyph, IsConstant, IsCharacter, IsOperatorText}
use Rattle.font_metrics.specs.Whole.{IsUpem, IsLine}
use Rattle.metrics_file.specs.Words.{number_of, is_between, number_in, natural_in, code_of, in_pair, letter_in, text_of_codes, operator_text_in, name_in, form_in, category_in, axis_in, plus}
use Rattle.font_metrics.specs.Names.{is_scalar, is_in_pair, is_name}
use Rattle.font_metrics.proofs.Steps.{same_Ok, no_value, had, found, holds}
use Rattle.font_metrics.proofs.Places.{place_within}

-- ---- numbers

less : (a b : ℤ) → int_le a b ≡ true → a ≤ℤ b
less (pos a) (pos b) h = let k : a ≤ b = grind (arith, nat_tests) in omega (arith, signed)
less (pos a) (negsuc b) h = absurd (true≢false (sym h))
less (negsuc a) (pos b) h = omega (arith, signed)
less (negsuc a) (negsuc b) h = let k : b ≤ a = grind (arith, nat_tests) in omega (arith, signed)

number_tested : (low high : ℤ) (word : List ℕ) (z : ℤ) → number_in low high word ≡ Ok z
    → (int_le low z ≡ true) × (int_le z high ≡ true)
unfolding number_in
number_tested low high word z h =
    let x = had (or_fault NotANumber (number_of word)) _ z h in
    let w = had (fault_if (not (is_between low high x.0)) OutOfRange) _ z x.2 in
    let k = and_parts (int_le low x.0) (int_le x.0 high) (holds (is_between low high x.0) OutOfRange w.0 w.1) in
    let e = same_Ok x.0 z w.2 in
    (ap (int_le low) (sym e) ∙ k.0, ap (λ y. int_le y high) (sym e) ∙ k.1)

pub number_range : (low high : ℤ) (word : List ℕ) (z : ℤ) → number_in low high word ≡ Ok z
    → (low ≤ℤ z) × (z ≤ℤ high)
number_range low high word z h =
    let k = number_tested low high word z h in
    (less low z k.0, less z high k.1)

pub natural_range : (low high : ℕ) (word : List ℕ) (n : ℕ) → natural_in low high word ≡ Ok n
    → (low ≤ n) × (n ≤ high)
unfolding natural_in
natural_range low high word n h =
    let x = had (number_in (pos low) (pos high) word) _ n h in
    let k = number_tested (pos low) (pos high) word x.0 x.1 in
    by x.0 k.0 k.1 (same_Ok (unsigned_abs x.0) n x.2)
  where
    by : (z : ℤ) → int_le (pos low) z ≡ true → int_le z (pos high) ≡ true → unsigned_abs z ≡ n
        → (low ≤ n) × (n ≤ high)
    by (pos m) p q e = (grind (arith, nat_tests), grind (arith, nat_tests))
    by (negsuc m) p q e = absurd (true≢false (sym p))

pub length_range : (word : List ℕ) (n : ℕ) → length_in word ≡ Ok n → n ≤ 65535
length_range word n h = (natural_range 0 65535 word n h).1

pub is_length : (n : ℕ) → n ≤ 65535 → IsLength (pos n)
is_length n h = (omega (arith, signed), omega (arith, signed))

pub reach_range : (word : List ℕ) (z : ℤ) → reach_in word ≡ Ok z → IsReach z
reach_range word z h = number_range (negsuc 32767) (pos 65535) word z h

given_reach : (word : Option (List ℕ)) (z : Option ℤ) → reach_if_given word ≡ Ok z → IfSome z IsReach
given_reach None z h = subst (λ o. IfSome o IsReach) (same_Ok None z h) tt
given_reach (Some word) z h =
    let x = had (reach_in word) _ z h in
    subst (λ o. IfSome o IsReach) (same_Ok (Some x.0) z x.2) (reach_range word x.0 x.1)

or_zero : (z : Option ℤ) → IfSome z IsReach → IsReach (unwrap_or z (pos 0))
or_zero None h = (omega (arith, signed), omega (arith, signed))
or_zero (Some z) h = h

-- ---- names

name_is : (word name : List ℕ) → name_in word ≡ Ok name → is_name name ≡ true
unfolding name_in
name_is word name h =
    let w = had (fault_if (not (is_name word)) WrongWord) _ name h in
    subst (λ n. is_name n ≡ true) (same_Ok word name w.2) (holds (is_name word) WrongWord w.0 w.1)

pub named_range : (glyphs : List NamedGlyph) (word : List ℕ) (place : ℕ) → named_in glyphs word ≡ Ok place
    → place < length glyphs
named_range glyphs word place h =
    let name = had (name_in word) _ place h in
    place_within glyphs name.0 place (found (place_of_name glyphs name.0) NotNamed place name.2)

-- ---- lines

pub upem_range : (fields : Words) (n : ℕ) → upem_in fields ≡ Ok n → IsUpem n
upem_range [] n h = no_value FieldCount n h
upem_range (a ∷ []) n h = natural_range 16 16384 a n h
upem_range (a ∷ b ∷ more) n h = no_value FieldCount n h

pub line_range : (fields : Words) (n : ℕ × ℕ) → line_in fields ≡ Ok n → IsLine n
line_range [] n h = no_value FieldCount n h
line_range (a ∷ []) n h = no_value FieldCount n h
line_range (a ∷ b ∷ []) n h =
    let up = had (length_in a) _ n h in
    let down = had (length_in b) _ n up.2 in
    subst IsLine (same_Ok (up.0, down.0) n down.2) (length_range a up.0 up.1, length_range b down.0 down.1)
line_range (a ∷ b ∷ c ∷ more) n h = no_value FieldCount n h

pub one_length_range : (fields : Words) (n : ℕ) → one_length_in fields ≡ Ok n → n ≤ 65535
one_length_range [] n h = no_value FieldCount n h
one_length_range (a ∷ []) n h = length_range a n h
one_length_range (a ∷ b ∷ more) n h = no_value FieldCount n h

text_place : (word : List ℕ) (place : ℕ) → place_of_text word ≡ Some place → place < 56
unfolding place_of_text
text_place word place h = (position-Some (λ text. bytes_eq word text) constant_texts place [] h).0

pub constant_range : (fields : Words) (c : ℕ × ℤ) → constant_in fields ≡ Ok c → IsConstant c
constant_range [] c h = no_value FieldCount c h
constant_range (a ∷ []) c h = no_value FieldCount c h
constant_range (a ∷ b ∷ []) c h =
    let place = had (or_fault NotNamed (place_of_text a)) _ c h in
    let number = had (number_in (lowest_of place.0) (highest_of place.0) b) _ c place.2 in
    let k = number_range (lowest_of place.0) (highest_of place.0) b number.0 number.1 in
    subst IsConstant (same_Ok (place.0, number.0) c number.2)
    (text_place a place.0 (found (place_of_text a) NotNamed place.0 place.1), k.0, k.1)
constant_range (a ∷ b ∷ d ∷ more) c h = no_value FieldCount c h

glyph_with_range : (a b c d : List ℕ) (e f : Option (List ℕ)) (g : NamedGlyph) → glyph_with a b c d e f ≡ Ok g
    → IsGlyph g
glyph_with_range a b c d e f g h =
    let name = had (name_in a) _ g h in
    let advance = had (length_in b) _ g name.2 in
    let up = had (reach_in c) _ g advance.2 in
    let down = had (reach_in d) _ g up.2 in
    let italic = had (reach_if_given e) _ g down.2 in
    let accent = had (reach_if_given f) _ g italic.2 in
    subst IsGlyph (same_Ok _ g accent.2) (record {
      name = name_is a name.0 name.1;
      measures = record {
        advance = is_length advance.0 (length_range b advance.0 advance.1);
        ink_ascent = reach_range c up.0 up.1;
        ink_descent = reach_range d down.0 down.1;
        italic = or_zero italic.0 (given_reach e italic.0 italic.1);
        accent = given_reach f accent.0 accent.1;
      };
    })

pub glyph_range : (fields : Words) (g : NamedGlyph) → glyph_in fields ≡ Ok g → IsGlyph g
glyph_range [] g h = no_value FieldCount g h
glyph_range (a ∷ []) g h = no_value FieldCount g h
glyph_range (a ∷ b ∷ []) g h = no_value FieldCount g h
glyph_range (a ∷ b ∷ c ∷ []) g h = no_value FieldCount g h
glyph_range (a ∷ b ∷ c ∷ d ∷ []) g h = glyph_with_range a b c d None None g h
glyph_range (a ∷ b ∷ c ∷ d ∷ e ∷ []) g h = glyph_with_range a b c d (Some e) None g h
glyph_range (a ∷ b ∷ c ∷ d ∷ e ∷ f ∷ []) g h = glyph_with_range a b c d (Some e) (Some f) g h
glyph_range (a ∷ b ∷ c ∷ d ∷ e ∷ f ∷ x ∷ more) g h = no_value FieldCount g h

letter_is : (word : List ℕ) (code : ℕ) → letter_in word ≡ Ok code → is_scalar code ≡ true
unfolding letter_in
letter_is word code h =
    let number = had (or_fault NotANumber (code_of word)) _ code h in
    let w = had (fault_if (not (is_scalar number.0)) OutOfRange) _ code number.2 in
    subst (λ n. is_scalar n ≡ true) (same_Ok number.0 code w.2) (holds (is_scalar number.0) OutOfRange w.0 w.1)

pub character_range : (glyphs : List NamedGlyph) (fields : Words) (c : ℕ × ℕ) → character_in glyphs fields ≡ Ok c
    → IsCharacter (length glyphs) c
character_range glyphs [] c h = no_value FieldCount c h
character_range glyphs (a ∷ []) c h = no_value FieldCount c h
character_range glyphs (a ∷ b ∷ []) c h =
    let letter = had (letter_in a) _ c h in
    let place = had (named_in glyphs b) _ c letter.2 in
    subst (IsCharacter (length glyphs)) (same_Ok (letter.0, place.0) c place.2)
    (letter_is a letter.0 letter.1, named_range glyphs b place.0 place.1)
character_range glyphs (a ∷ b ∷ d ∷ more) c h = no_value FieldCount c h

in_pair_is : (number code : ℕ) → in_pair number ≡ Ok code → is_in_pair code ≡ true
in_pair_is number code h =
    let w = had (fault_if (not (is_in_pair number)) OutOfRange) _ code h in
    subst (λ n. is_in_pair n ≡ true) (same_Ok number code w.2) (holds (is_in_pair number) OutOfRange w.0 w.1)

codes_text : (words : List (List ℕ)) (text : OpText) → text_of_codes words ≡ Ok text → IsOperatorText text
codes_text [] text h = no_value NotANumber text h
codes_text (code ∷ []) text h =
    let letter = had (letter_in code) _ text h in
    subst IsOperatorText (same_Ok (One letter.0) text letter.2) (letter_is code letter.0 letter.1)
codes_text (first ∷ second ∷ []) text h =
    let one = had (or_fault NotANumber (code_of first)) _ text h in
    let two = had (or_fault NotANumber (code_of second)) _ text one.2 in
    let before = had (in_pair one.0) _ text two.2 in
    let behind = had (in_pair two.0) _ text before.2 in
    subst IsOperatorText (same_Ok (Two before.0 behind.0) text behind.2)
    (in_pair_is one.0 before.0 before.1, in_pair_is two.0 behind.0 behind.1)
codes_text (first ∷ second ∷ third ∷ more) text h = no_value NotANumber text h

operator_text_range : (word : List ℕ) (text : OpText) → operator_text_in word ≡ Ok text → IsOperatorText text
unfolding operator_text_in
operator_text_range word text h = codes_text (slice_split (λ b. b == plus) word) text h

pub operator_range : (fields : Words) (line : OperatorLine) → operator_in fields ≡ Ok line → IsOperatorText line.text
operator_range [] line h = no_value FieldCount line h
operator_range (a ∷ []) line h = no_value FieldCount line h
operator_range (a ∷ b ∷ []) line h = no_value FieldCount line h
operator_range (a ∷ b ∷ c ∷ []) line h = no_value FieldCount line h
operator_range (a ∷ b ∷ c ∷ d ∷ []) line h =
    let text = had (operator_text_in a) _ line h in
    let form = had (form_in b) _ line text.2 in
    let category = had (category_in c) _ line form.2 in
    let axis = had (axis_in d) _ line category.2 in
    subst (λ l. IsOperatorText l.text) (same_Ok _ line axis.2) (operator_text_range a text.0 text.1)
operator_range (a ∷ b ∷ c ∷ d ∷ e ∷ more) line h = no_value FieldCount line h
