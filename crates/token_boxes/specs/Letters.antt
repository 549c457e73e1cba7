-- The characters that a token shows, of which the only letter of an `mi` is italic.
use Rattle.std.specs.Prelude.{ℕ, ◌+◌, ◌-◌, Bool, true, false, not, ◌&&◌, nat_le, if◌then◌else◌, List, [], ◌∷◌, chars, codes, Option, Some, None}
use Rattle.std.specs.Option.{option_map, option_map_or}
use Rattle.embellished.specs.Texts.{shown}
use Rattle.fixed_units.specs.Words.{is_word}
use Rattle.math_tree.specs.Attributes.{value_of}
use Rattle.math_tree.specs.declared.attributes.Attribute.{Attribute}
use Rattle.math_tree.specs.declared.kind.Kind.{Kind}
use Rattle.math_tree.specs.declared.kind.Kind.TheVariants.{Mi, Mn, Ms, Mtext}
use Rattle.math_tree.specs.declared.node.Head.{Head}

-- ---- italic letters

-- the letters from the first to the last one, and the italic form of the first: the others follow
-- it in the same order
pub record Alphabet : Type 0 where
  pub first : ℕ
  pub last : ℕ
  pub italic : ℕ

abbrev alphabet : ℕ → ℕ → ℕ → Alphabet
alphabet first last italic = record { first = first; last = last; italic = italic }

-- MathML Core C.1, "italic mapping". The italic h is the Planck constant, which was there before
-- the others; there is no capital letter between rho and sigma.
abbrev pub alphabets : List Alphabet
alphabets =
    alphabet 0x68 0x68 0x210E  -- h
    ∷ alphabet 0x41 0x5A 0x1D434  -- A to Z
    ∷ alphabet 0x61 0x7A 0x1D44E  -- a to z
    ∷ alphabet 0x0391 0x03A1 0x1D6E2  -- capital alpha to rho
    ∷ alphabet 0x03A3 0x03A9 0x1D6F4  -- capital sigma to omega
    ∷ alphabet 0x03B1 0x03C9 0x1D6FC  -- alpha to omega
    ∷ []

-- the italic form by the first alphabet that has the letter; a letter of none stays as it is
abbrev pub italic_in : List Alphabet → ℕ → ℕ
italic_in [] letter = letter
italic_in (alphabet ∷ alphabets) letter =
    if nat_le alphabet.first letter && nat_le letter alphabet.last
    then alphabet.italic + (letter - alphabet.first)
    else italic_in alphabets letter

unfoldable pub italic_of : ℕ → ℕ
italic_of letter = italic_in alphabets letter

-- ---- which letters are italic

-- `normal` is the only value of `mathvariant` that counts
abbrev pub is_upright : List Attribute → Bool
is_upright attributes =
    option_map_or (λ value. is_word value (codes "normal"))
    (value_of (codes "mathvariant") attributes) false

abbrev pub is_identifier : Kind → Bool
is_identifier Mi = true
is_identifier other = false

abbrev pub is_slanted : Head → Bool
is_slanted head = is_identifier head.kind && not (is_upright head.attributes)

-- the only letter of an element, as it is shown
abbrev pub slanted : Head → ℕ → ℕ
slanted head letter = if is_slanted head then italic_of letter else letter

-- ---- the text

-- the only character of a text, where it has just one
abbrev pub lone : List ℕ → Option ℕ
lone [] = None
lone (letter ∷ []) = Some letter
lone (first ∷ second ∷ letters) = None

-- the characters of the text that an element shows, as they are written
abbrev pub letters_of : Head → List ℕ
letters_of head = chars (shown head.text)

-- what is laid out as a token
abbrev pub is_token : Kind → Bool
is_token Mi = true
is_token Mn = true
is_token Ms = true
is_token Mtext = true
is_token other = false

-- the one character that a token shows, where it shows just one
abbrev pub shown_letter : Head → Option ℕ
shown_letter head = if is_token head.kind then option_map (slanted head) (lone (letters_of head))
    else None
