-- Glyph names are text.
use Rattle.std.proofs.Common.{◌≡◌, ℕ, ◌<◌, true, List, [], ◌∷◌, arith}
use Rattle.std.proofs.lemmas.Bool.{and_parts}
use Rattle.std.proofs.lemmas.Bool.Decides.{nat_tests}
use Rattle.std.proofs.lemmas.Str.{IsUtf8-from_ascii}
use Rattle.std.proofs.lemmas.Str.Ascii.{IsAscii-nil, IsAscii-cons}
use Rattle.std.specs.List.{list_all}
use Rattle.std.specs.Str.{IsAscii, IsUtf8}
use Rattle.font_metrics.specs.Names.{is_name_byte, is_name}

name_byte_small : (b : ℕ) → is_name_byte b ≡ true → b < 128
name_byte_small b h = grind (arith, nat_tests)

name_bytes_ascii : (word : List ℕ) → list_all is_name_byte word ≡ true → IsAscii word
name_bytes_ascii [] h = IsAscii-nil
name_bytes_ascii (b ∷ bs) h =
    let parts = and_parts (is_name_byte b) (list_all is_name_byte bs) h in
    IsAscii-cons b bs (name_byte_small b parts.0) (name_bytes_ascii bs parts.1)

pub name_is_text : (word : List ℕ) → is_name word ≡ true → IsUtf8 word
unfolding is_name
name_is_text word h = IsUtf8-from_ascii word (name_bytes_ascii word (and_parts _ (list_all is_name_byte word) h).1)
