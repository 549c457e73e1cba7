-- The form of a length text as a grammar: the parts whose joining is the text.
--
--   white space, a sign or none, digits, a fraction or none, a unit or none, white space
use Rattle.std.specs.Prelude.{◌≡◌, ℕ, ◌+◌, ◌*◌, ◌<◌, ◌≤◌, ◌⊎◌, List, [], ◌∷◌, ◌++◌, length, drop, Some}
use Rattle.std.specs.Char.{is_ascii_digit, is_ascii_whitespace}
use Rattle.std.specs.List.{AllPass}
use Rattle.std.specs.Str.Parse.{digits_value}
use Rattle.css_lengths.specs.Lengths.{plus, minus, point, is_negative, fraction_value, unit_at, signed}
use Rattle.css_lengths.specs.declared.lengths.LengthText.{LengthText}

-- the parts of a text, in their order
pub record LengthParts : Type 0 where
  pub before : List ℕ
  pub sign : List ℕ
  pub whole : List ℕ
  pub fraction : List ℕ
  pub unit : List ℕ
  pub after : List ℕ

abbrev pub number_and_unit : LengthParts → List ℕ
number_and_unit parts = parts.whole ++ (parts.fraction ++ parts.unit)

abbrev pub joining : LengthParts → List ℕ
joining parts = parts.before ++ ((parts.sign ++ number_and_unit parts) ++ parts.after)

-- nothing, a plus or a minus
abbrev pub IsSign : List ℕ → Type 0
IsSign sign = (sign ≡ []) ⊎ ((sign ≡ plus ∷ []) ⊎ (sign ≡ minus ∷ []))

-- nothing, or a point with one digit or more behind it
abbrev pub IsFraction : List ℕ → Type 0
IsFraction fraction =
    (fraction ≡ [])
    ⊎ ((digits : List ℕ) × (fraction ≡ point ∷ digits) × AllPass is_ascii_digit digits
    × (0 < length digits))

-- what the digits before and behind the point write, in millionths
abbrev pub millionths_in : LengthParts → ℕ
millionths_in parts = digits_value 10 parts.whole * 1000000 + fraction_value (drop 1 parts.fraction)

-- the parts are those of a text that writes a length
pub record AreParts (text : List ℕ) (written : LengthText) (parts : LengthParts) : Type 0 where
  pub joined : text ≡ joining parts
  pub before : AllPass is_ascii_whitespace parts.before
  pub sign : IsSign parts.sign
  pub whole : AllPass is_ascii_digit parts.whole
  pub nine : length parts.whole ≤ 9
  pub fraction : IsFraction parts.fraction
  -- at least one digit
  pub some : 0 < length parts.whole + length parts.fraction
  -- a name of a unit, or none where the number is 0
  pub unit : unit_at (millionths_in parts) parts.unit ≡ Some written.unit
  pub after : AllPass is_ascii_whitespace parts.after
  pub number : written.millionths ≡ signed (is_negative parts.sign) (millionths_in parts)

-- the text has the form, and writes this length
abbrev pub Writes : List ℕ → LengthText → Type 0
Writes text written = (parts : LengthParts) × AreParts text written parts
