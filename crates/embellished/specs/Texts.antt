-- The text that an element shows, and that of an operator.
use Rattle.std.specs.Prelude.{ℕ, Bool, true, false, ◌&&◌, nat_le, if◌then◌else◌, List, [], ◌∷◌, ◌++◌, filter, chars, encode_utf8_all}
use Rattle.std.specs.Char.{is_ascii_whitespace}
use Rattle.std.specs.List.{slice_split, join_with_byte}
use Rattle.op_dictionary.specs.declared.text.OpText.{OpText}
use Rattle.op_dictionary.specs.declared.text.OpText.TheVariants.{Empty, One, Two, Other}
use Rattle.unicode_normalization.specs.Forms.{nfc}

abbrev pub has_bytes : List ℕ → Bool
has_bytes [] = false
has_bytes (b ∷ bs) = true

-- what stands between white space
unfoldable pub pieces_of : List ℕ → List (List ℕ)
pieces_of text = filter has_bytes (slice_split is_ascii_whitespace text)

abbrev pub space : ℕ
space = 32

-- one piece more, behind a space where something stands already
abbrev pub with_piece : List ℕ → List ℕ → List ℕ
with_piece made piece = if has_bytes made then made ++ space ∷ piece else piece

-- a text trimmed, with one space for each run of white space inside
unfoldable pub joined : List ℕ → List ℕ
joined text = join_with_byte space (pieces_of text)

-- the text that an element shows: joined, and in Unicode's normal form C; the letter of an `mi`
-- isn't mapped to italics by this
unfoldable pub shown : List ℕ → List ℕ
shown text = encode_utf8_all (nfc (chars (joined text)))

-- two characters, neither of which is above U+FFFF
abbrev pub two : ℕ → ℕ → OpText
two first second = if nat_le first 0xFFFF && nat_le second 0xFFFF then Two first second else Other

-- the characters of a text, as the operator dictionary tells them apart
unfoldable pub op_text : List ℕ → OpText
op_text [] = Empty
op_text (letter ∷ []) = One letter
op_text (first ∷ second ∷ []) = two first second
op_text (first ∷ second ∷ third ∷ more) = Other
