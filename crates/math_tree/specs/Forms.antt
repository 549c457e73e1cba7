-- The forms of names and texts, and how much of them a tree may hold.
use Rattle.std.specs.Prelude.{ℕ, List, [], ◌∷◌, length, Bool, false, ◌&&◌, ◌||◌, nat_eq, nat_le}
use Rattle.std.specs.Char.{is_ascii_alphabetic, is_ascii_alphanumeric, is_ascii_whitespace}
use Rattle.std.specs.List.{list_all}

abbrev pub most_levels : ℕ
most_levels = 60

abbrev pub most_elements : ℕ
most_elements = 65536

-- the bytes of a text or of a value
abbrev pub longest_text : ℕ
longest_text = 65536

-- the bytes of all names, attribute names, values and texts of a tree
abbrev pub most_bytes : ℕ
most_bytes = 4194304

-- an ASCII letter or digit, `-`, `.`, `:` or `_`
abbrev pub is_name_byte : ℕ → Bool
is_name_byte b = is_ascii_alphanumeric b || nat_eq b 45 || nat_eq b 46 || nat_eq b 58 || nat_eq b 95

abbrev pub begins_with_letter : List ℕ → Bool
begins_with_letter [] = false
begins_with_letter (b ∷ bs) = is_ascii_alphabetic b

-- the name of an element or of an attribute: a letter first, and 1 to 64 such bytes
unfoldable pub is_name : List ℕ → Bool
is_name text = begins_with_letter text && nat_le (length text) 64 && list_all is_name_byte text

-- U+0009, U+000A, U+000C, U+000D and U+0020 alone, or nothing
unfoldable pub is_white_space : List ℕ → Bool
is_white_space text = list_all is_ascii_whitespace text

unfoldable pub is_short_enough : List ℕ → Bool
is_short_enough text = nat_le (length text) longest_text
