-- Bytes that have a reading as JSON, and bytes that have none.
use Rattle.std.proofs.Common.{◌≡◌, refl, ℕ, List, Bool, true, false, Some, None}
use Rattle.std.specs.Str.{IsUtf8, is_utf8}
use Rattle.std.proofs.lemmas.Str.{IsUtf8-from_is_utf8, is_utf8-from_IsUtf8}
use Rattle.serde_json.specs.Data.{Data}
use Rattle.serde_json.specs.Read.{read}
use Rattle.tree_edits.specs.Commands.{json_in}

-- a text that `serde_json` reads, and bytes that have no reading
pub json_of_text : (bytes : List ℕ) (value : Data) → IsUtf8 bytes → read bytes ≡ Some value → json_in bytes ≡ Some value
json_of_text bytes value text is = let yes : is_utf8 bytes ≡ true = is_utf8-from_IsUtf8 bytes text in rw yes is

pub no_json : (bytes : List ℕ) → (IsUtf8 bytes → read bytes ≡ None) → json_in bytes ≡ None
no_json bytes none = by (is_utf8 bytes) refl
  where
    by : (text : Bool) → is_utf8 bytes ≡ text → json_in bytes ≡ None
    by true text = rw text (none (IsUtf8-from_is_utf8 bytes text))
    by false text = rw text refl
