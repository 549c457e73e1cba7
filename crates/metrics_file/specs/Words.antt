-- The forms of the words of a metrics file.
use Rattle.std.specs.Prelude.{ℕ, ℤ, pos, neg_ℤ, int_le, unsigned_abs, Bool, true, false, not, ◌&&◌, nat_eq, nat_le, if◌then◌else◌, List, [], ◌∷◌, length, codes, Option, Some, None, option_map, Ok, Err}
use Rattle.std.specs.List.{list_all, slice_split}
use Rattle.std.specs.Borrow.{Bor}
use Rattle.std.specs.Char.{is_digit}
use Rattle.std.specs.Str.{bytes_eq}
use Rattle.std.specs.Str.Parse.{digits_value}
use Rattle.op_dictionary.specs.declared.operator.Axis.{Axis}
use Rattle.op_dictionary.specs.declared.operator.Axis.TheVariants.{Block, Inline}
use Rattle.op_dictionary.specs.declared.operator.Category.{Category}
use Rattle.op_dictionary.specs.declared.operator.Category.TheVariants.{Default, A, B, C, D, E, F, G, H, I, J, K, L, M}
use Rattle.op_dictionary.specs.declared.operator.Form.{Form}
use Rattle.op_dictionary.specs.declared.operator.Form.TheVariants.{Prefix, Infix, Postfix}
use Rattle.op_dictionary.specs.declared.text.OpText.{OpText}
use Rattle.op_dictionary.specs.declared.text.OpText.TheVariants.{One, Two}
use Rattle.font_metrics.specs.declared.corner.Corner.{Corner}
use Rattle.font_metrics.specs.declared.corner.Corner.TheVariants.{TopRight, TopLeft, BottomRight, BottomLeft}
use Rattle.font_metrics.specs.declared.fault.LineFault.TheVariants.{NotANumber, OutOfRange, WrongWord}
use Rattle.font_metrics.specs.Faults.{Step, ◌>>=◌, or_fault, fault_if}
use Rattle.font_metrics.specs.Names.{is_scalar, is_in_pair, is_name}

-- ---- numbers

-- the number that digits of a base write, where each byte is one
unfoldable pub value_of_digits : ℕ → List ℕ → Option ℕ
value_of_digits base word =
    if list_all (λ b. is_digit b base) word then Some (digits_value base word) else None

-- from `fewest` to `most` digits of a base
unfoldable pub numeral_of : ℕ → ℕ → ℕ → List ℕ → Option ℕ
numeral_of base fewest most word =
    if nat_le fewest (length word) && nat_le (length word) most
    then value_of_digits base word
    else None

abbrev pub minus : ℕ
minus = 45

-- a whole number: an optional minus and 1 to 6 decimal digits
unfoldable pub number_of : List ℕ → Option ℤ
number_of [] = None
number_of (b ∷ bs) =
    if nat_eq b minus then option_map (λ n. neg_ℤ (pos n)) (numeral_of 10 1 6 bs)
    else option_map pos (numeral_of 10 1 6 (b ∷ bs))

abbrev pub is_between : ℤ → ℤ → ℤ → Bool
is_between low high z = int_le low z && int_le z high

-- a whole number from `low` to `high`
unfoldable pub number_in : ℤ → ℤ → List ℕ → Step ℤ
number_in low high word = do
  number ← or_fault NotANumber (number_of word)
  within ← fault_if (not (is_between low high number)) OutOfRange
  Ok number

-- the same, where the least is no negative number
unfoldable pub natural_in : ℕ → ℕ → List ℕ → Step ℕ
natural_in low high word = do
  number ← number_in (pos low) (pos high) word
  Ok (unsigned_abs number)

-- ---- characters' codes

-- the number of a code: 4 to 6 hexadecimal digits
unfoldable pub code_of : List ℕ → Option ℕ
code_of word = numeral_of 16 4 6 word

-- a character's code
unfoldable pub letter_in : List ℕ → Step ℕ
letter_in word = do
  code ← or_fault NotANumber (code_of word)
  scalar ← fault_if (not (is_scalar code)) OutOfRange
  Ok code

abbrev pub plus : ℕ
plus = 43

-- one character of two, by its code
abbrev pub in_pair : ℕ → Step ℕ
in_pair code = do
  small ← fault_if (not (is_in_pair code)) OutOfRange
  Ok code

abbrev pub pair_in : List ℕ → List ℕ → Step OpText
pair_in first second = do
  one ← or_fault NotANumber (code_of first)
  two ← or_fault NotANumber (code_of second)
  before ← in_pair one
  behind ← in_pair two
  Ok (Two before behind)

abbrev pub one_in : List ℕ → Step OpText
one_in code = do
  letter ← letter_in code
  Ok (One letter)

abbrev pub text_of_codes : List (List ℕ) → Step OpText
text_of_codes (code ∷ []) = one_in code
text_of_codes (first ∷ second ∷ []) = pair_in first second
text_of_codes codes = Err NotANumber

-- the text of an operator: one code, or two that a plus joins
unfoldable pub operator_text_in : List ℕ → Step OpText
operator_text_in word = text_of_codes (slice_split (λ b. nat_eq b plus) word)

-- ---- names

-- a glyph name
unfoldable pub name_in : List ℕ → Step (List ℕ)
name_in word = do
  form ← fault_if (not (is_name word)) WrongWord
  Ok word

-- ---- words of a small choice, compared exactly

-- the first choice whose text the word is
unfoldable pub choice_in : {X : Type 0} → List (Bor (List ℕ) × X) → List ℕ → Option X
choice_in [] word = None
choice_in (choice ∷ choices) word =
    if bytes_eq word choice.0.now then Some choice.1 else choice_in choices word

abbrev pub is_extender_of : List ℕ → Option Bool
is_extender_of word =
    if bytes_eq word (codes "FIX") then Some false
    else if bytes_eq word (codes "EXT") then Some true
    else None

abbrev pub form_of : List ℕ → Option Form
form_of word =
    if bytes_eq word (codes "prefix") then Some Prefix
    else if bytes_eq word (codes "infix") then Some Infix
    else if bytes_eq word (codes "postfix") then Some Postfix
    else None

abbrev pub axis_of : List ℕ → Option Axis
axis_of word =
    if bytes_eq word (codes "block") then Some Block
    else if bytes_eq word (codes "inline") then Some Inline
    else None

abbrev pub corner_of : List ℕ → Option Corner
corner_of word =
    if bytes_eq word (codes "TR") then Some TopRight
    else if bytes_eq word (codes "TL") then Some TopLeft
    else if bytes_eq word (codes "BR") then Some BottomRight
    else if bytes_eq word (codes "BL") then Some BottomLeft
    else None

abbrev pub category_of : List ℕ → Option Category
category_of word =
    if bytes_eq word (codes "Default") then Some Default
    else if bytes_eq word (codes "A") then Some A
    else if bytes_eq word (codes "B") then Some B
    else if bytes_eq word (codes "C") then Some C
    else if bytes_eq word (codes "D") then Some D
    else if bytes_eq word (codes "E") then Some E
    else if bytes_eq word (codes "F") then Some F
    else if bytes_eq word (codes "G") then Some G
    else if bytes_eq word (codes "H") then Some H
    else if bytes_eq word (codes "I") then Some I
    else if bytes_eq word (codes "J") then Some J
    else if bytes_eq word (codes "K") then Some K
    else if bytes_eq word (codes "L") then Some L
    else if bytes_eq word (codes "M") then Some M
    else None

-- whether a part is an extender
unfoldable pub extender_in : List ℕ → Step Bool
extender_in word = or_fault WrongWord (is_extender_of word)

unfoldable pub form_in : List ℕ → Step Form
form_in word = or_fault WrongWord (form_of word)

unfoldable pub axis_in : List ℕ → Step Axis
axis_in word = or_fault WrongWord (axis_of word)

unfoldable pub corner_in : List ℕ → Step Corner
corner_in word = or_fault WrongWord (corner_of word)

unfoldable pub category_in : List ℕ → Step Category
category_in word = or_fault WrongWord (category_of word)
