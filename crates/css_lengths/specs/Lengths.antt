-- Lengths: which texts are one, and how many units each is.
--
-- A length text has, between white space, a sign or none, at most nine digits, then a point with
-- one digit or more behind it or neither, and a unit. At least one digit stands in it.
use Rattle.std.specs.Prelude.{ℕ, ◌+◌, ◌-◌, ◌*◌, ◌^◌, ℤ, pos, neg_ℤ, ◌*ℤ◌, ◌≤ℤ◌, Bool, true, false, ◌||◌, nat_eq, nat_le, if◌then◌else◌, List, [], ◌∷◌, length, take, drop, slice_index, EachIndex, IsTrue, codes, Option, Some, None}
use Rattle.std.specs.Char.{is_ascii_digit, is_ascii_whitespace}
use Rattle.std.specs.List.{prefix_len, suffix_len}
use Rattle.std.specs.Str.Parse.{digits_value}
use Rattle.css_lengths.specs.declared.lengths.LengthText.{LengthText}
use Rattle.css_lengths.specs.declared.lengths.Unit.{Unit as LengthUnit}
use Rattle.css_lengths.specs.declared.lengths.Unit.TheVariants.{Em, Ex, Px, Pt, Pc, Inch, Cm, Mm, Quarter, Percent}
use Rattle.fixed_units.specs.declared.numbers.Ratio.{Ratio}
use Rattle.fixed_units.specs.Numbers.{rounded}
use Rattle.css_lengths.specs.Optional.{◌>>=◌, ◌>>◌, only_if}
use Rattle.fixed_units.specs.Words.{is_word}

-- ---- the parts of a text

-- a text without the white space at its ends: tab, line feed, form feed, return and space
abbrev pub without_start : List ℕ → List ℕ
without_start text = drop (prefix_len is_ascii_whitespace text) text

abbrev pub without_end : List ℕ → List ℕ
without_end text = take (length text - suffix_len is_ascii_whitespace text) text

unfoldable pub trimmed : List ℕ → List ℕ
trimmed text = without_end (without_start text)

abbrev pub plus : ℕ
plus = 43

abbrev pub minus : ℕ
minus = 45

abbrev pub point : ℕ
point = 46

-- whether a text begins with a minus
unfoldable pub is_negative : List ℕ → Bool
is_negative [] = false
is_negative (b ∷ bs) = nat_eq b minus

-- what stands behind the sign, where the text begins with one
unfoldable pub behind_sign : List ℕ → List ℕ
behind_sign [] = []
behind_sign (b ∷ bs) = if nat_eq b minus || nat_eq b plus then bs else b ∷ bs

-- the digits with which a text begins, and what stands behind them
unfoldable pub digits_in_front : List ℕ → List ℕ
digits_in_front text = take (prefix_len is_ascii_digit text) text

unfoldable pub behind_digits : List ℕ → List ℕ
behind_digits text = drop (prefix_len is_ascii_digit text) text

-- a text of decimal digits
abbrev pub AreDigits : List ℕ → Type 0
AreDigits text = EachIndex text (λ k. IsTrue (is_ascii_digit (slice_index text k)))

-- the digits behind a point and what stands behind them: a point has at least one digit
abbrev pub behind_point : List ℕ → Option (List ℕ × List ℕ)
behind_point text = do
  only_if (nat_le 1 (length (digits_in_front text)))
  Some (digits_in_front text, behind_digits text)

-- the digits of the fraction and what stands behind them, where a number may go without one
unfoldable pub fraction_of : List ℕ → Option (List ℕ × List ℕ)
fraction_of [] = Some ([], [])
fraction_of (b ∷ bs) = if nat_eq b point then behind_point bs else Some ([], b ∷ bs)

-- ---- the number

-- what the first six digits of a fraction write, in millionths; those behind them are dropped
abbrev pub fraction_value : List ℕ → ℕ
fraction_value digits = digits_value 10 (take 6 digits) * 10 ^ (6 - length (take 6 digits))

-- a number in millionths and what stands behind it: nine digits at most, one in all at least
unfoldable pub number_of : List ℕ → Option (ℕ × List ℕ)
number_of text = do
  let whole = digits_in_front text
  fraction ← fraction_of (behind_digits text)
  only_if (nat_le (length whole) 9)
  only_if (nat_le 1 (length whole + length fraction.0))
  Some (digits_value 10 whole * 1000000 + fraction_value fraction.0, fraction.1)

-- ---- the unit

unfoldable pub unit_of : List ℕ → Option LengthUnit
unit_of name =
    if is_word name (codes "em") then Some Em
    else if is_word name (codes "ex") then Some Ex
    else if is_word name (codes "px") then Some Px
    else if is_word name (codes "pt") then Some Pt
    else if is_word name (codes "pc") then Some Pc
    else if is_word name (codes "in") then Some Inch
    else if is_word name (codes "cm") then Some Cm
    else if is_word name (codes "mm") then Some Mm
    else if is_word name (codes "q") then Some Quarter
    else if is_word name (codes "%") then Some Percent
    else None

-- the unit of a number of millionths: without a name it is px, and the number 0
unfoldable pub unit_at : ℕ → List ℕ → Option LengthUnit
unit_at millionths [] = if nat_eq millionths 0 then Some Px else None
unit_at millionths (b ∷ bs) = unit_of (b ∷ bs)

-- ---- the length that a text writes

abbrev pub signed : Bool → ℕ → ℤ
signed true n = neg_ℤ (pos n)
signed false n = pos n

unfoldable pub length_of : List ℕ → Option LengthText
length_of text = do
  let written = trimmed text
  number ← number_of (behind_sign written)
  unit ← unit_at number.0 number.1
  Some (record { millionths = signed (is_negative written) number.0; unit = unit })

-- ---- how many units a length is

-- 96 px of 1024 units each
abbrev pub inch : ℤ
inch = pos 98304

abbrev pub ratio : ℤ → ℤ → Ratio
ratio num den = record { num = num; den = den }

-- the size of a unit of lengths (CSS Values and Units 4, 6.2): 1 in is 72 pt, 6 pc and 2.54 cm
unfoldable pub size_of : LengthUnit → ℤ → ℤ → ℤ → Ratio
size_of Em em ex percent_of = ratio em (pos 1)
size_of Ex em ex percent_of = ratio ex (pos 1)
size_of Px em ex percent_of = ratio (pos 1024) (pos 1)
size_of Pt em ex percent_of = ratio inch (pos 72)
size_of Pc em ex percent_of = ratio inch (pos 6)
size_of Inch em ex percent_of = ratio inch (pos 1)
size_of Cm em ex percent_of = ratio (pos 100 *ℤ inch) (pos 254)
size_of Mm em ex percent_of = ratio (pos 10 *ℤ inch) (pos 254)
size_of Quarter em ex percent_of = ratio (pos 100 *ℤ inch) (pos 40 *ℤ pos 254)
size_of Percent em ex percent_of = ratio percent_of (pos 100)

-- millionths of a size, rounded to whole units
abbrev pub millionths_of : ℤ → Ratio → ℤ
millionths_of n size = rounded (n *ℤ size.num) (pos 1000000 *ℤ size.den)

unfoldable pub resolved : LengthText → ℤ → ℤ → ℤ → ℤ
resolved length em ex percent_of =
    millionths_of length.millionths (size_of length.unit em ex percent_of)

-- a size of at most 2^32 units, as a ratio of small numbers
pub record IsSize (size : Ratio) : Type 0 where
  pub positive : pos 1 ≤ℤ size.den
  pub small : size.den ≤ℤ pos (2 ^ 14)
  pub low : neg_ℤ (pos (2 ^ 32) *ℤ size.den) ≤ℤ size.num
  pub high : size.num ≤ℤ (pos (2 ^ 32) *ℤ size.den)
