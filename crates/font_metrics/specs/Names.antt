-- What may be the code of a character, and the name of a glyph.
use Rattle.std.specs.Prelude.{ℕ, Bool, ◌&&◌, ◌||◌, nat_eq, nat_lt, nat_le, List, length}
use Rattle.std.specs.List.{list_all}
use Rattle.std.specs.Char.{is_ascii_alphanumeric}

-- the numbers of characters, which leave out the surrogates
abbrev pub is_scalar : ℕ → Bool
is_scalar n = nat_lt n 0xD800 || (nat_lt 0xDFFF n && nat_le n 0x10FFFF)

-- one of two characters has at most U+FFFF
abbrev pub is_in_pair : ℕ → Bool
is_in_pair code = is_scalar code && nat_le code 0xFFFF

-- an ASCII letter or digit, `_`, `.` or `-`
abbrev pub is_name_mark : ℕ → Bool
is_name_mark b = nat_eq b 95 || nat_eq b 46 || nat_eq b 45

abbrev pub is_name_byte : ℕ → Bool
is_name_byte b = is_ascii_alphanumeric b || is_name_mark b

-- a glyph name: 1 to 63 such bytes
unfoldable pub is_name : List ℕ → Bool
is_name word = nat_le 1 (length word) && nat_le (length word) 63 && list_all is_name_byte word
