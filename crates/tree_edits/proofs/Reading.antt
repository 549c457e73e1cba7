-- A line's bytes as JSON, and the keys of an object beside the map that holds them.
use Rattle.std.proofs.Common.{◌≡◌, ap, refl, ℕ, List, [], ◌∷◌, Bool, true, false, ◌&&◌, Some, None, String, Global, string_bytes, BTreeMap}
use Rattle.std.proofs.lemmas.Str.{IsUtf8-from_is_utf8, is_utf8-from_IsUtf8}
use Rattle.std.specs.List.{list_all}
use Rattle.std.specs.Map.{keys_of as keys_of_entries}
use Rattle.std.specs.Str.{IsUtf8, is_utf8}
use Rattle.serde_json.specs.Data.{Data}
use Rattle.serde_json.specs.Read.{read}
use Rattle.serde_json.specs.View.{view, members_view}
use Rattle.serde_json.specs.declared.value.Value.{Value, Object}
use Rattle.serde_json.proofs.Views.{view-Object}
use Rattle.tree_json.specs.Elements.{keys_of}
use Rattle.tree_edits.specs.Commands.{is_key_of, has_only, json_in}
use Rattle.tree_edits.specs.declared.read.Op.{Op}

-- a text that `serde_json` reads, and bytes that have no reading
pub json_of_text : (bytes : List ℕ) (value : Data) → IsUtf8 bytes → read bytes ≡ Some value → json_in bytes ≡ Some value
json_of_text bytes value text is = let yes : is_utf8 bytes ≡ true = is_utf8-from_IsUtf8 bytes text in rw yes is

no_json_by : (bytes : List ℕ) (text : Bool) → is_utf8 bytes ≡ text → (IsUtf8 bytes → read bytes ≡ None) → json_in bytes ≡ None
no_json_by bytes true text none = rw text (none (IsUtf8-from_is_utf8 bytes text))
no_json_by bytes false text none = rw text refl

pub no_json : (bytes : List ℕ) → (IsUtf8 bytes → read bytes ≡ None) → json_in bytes ≡ None
no_json bytes none = no_json_by bytes (is_utf8 bytes) refl none

-- a test of the entries' keys is one of the members' keys
all_keys : (test : List ℕ → Bool) (entries : List (String Global × Value))
    → list_all (λ key. test (string_bytes key)) (keys_of_entries entries)
    ≡ list_all test (keys_of (members_view entries))
all_keys test [] = refl
all_keys test (entry ∷ entries) = ap (λ rest. test (string_bytes entry.0) && rest) (all_keys test entries)

pub known_keys : (op : Op) (members : BTreeMap (String Global) Value)
    → list_all (λ key. is_key_of op (string_bytes key)) (keys_of_entries members.entries)
    ≡ has_only op (view (Object members))
unfolding has_only
known_keys op members = rw (view-Object members) (all_keys (is_key_of op) members.entries)
