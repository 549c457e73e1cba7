-- The members of an object, beside the map that holds them.
use Rattle.std.proofs.Common.{◌≡◌, ap, refl, ℕ, ◌+◌, min, List, [], ◌∷◌, map, arith, Bool, ◌&&◌, String, Global, string_bytes, string_cmp, nat_cmp, Less, BTreeMap}
use Rattle.std.specs.Cmp.Lexicographic.{slice_cmp}
use Rattle.std.specs.List.{list_all, AllByRecursion}
use Rattle.std.specs.List.Sorted.{IsStrictlySortedBy}
use Rattle.std.specs.Map.{keys_of as keys_of_entries}
use Rattle.serde_json.specs.View.{view, members_view}
use Rattle.serde_json.specs.declared.value.Value.{Value, Object}
use Rattle.serde_json.proofs.Views.{view-Object}
use Rattle.math_tree.specs.Attributes.{names_of, IsInOrder}
use Rattle.tree_json.specs.Elements.{keys_of, is_element_key, has_known_keys, are_attributes, is_attribute, attribute_of, attributes_of}
use Rattle.math_tree.specs.declared.attributes.Attribute.{Attribute}

abbrev pub Entry : Type 0
Entry = String Global × Value

-- an entry as an attribute
abbrev pub attribute_at : Entry → Attribute
attribute_at entry = attribute_of (string_bytes entry.0) (view entry.1)

-- the attributes of a map are its entries
pub attributes_of-entries : (entries : List Entry) → attributes_of (members_view entries) ≡ map attribute_at entries
attributes_of-entries [] = refl
attributes_of-entries (entry ∷ entries) = ap (◌∷◌ (attribute_at entry)) (attributes_of-entries entries)

-- a test of the entries' keys is one of the members' keys
all_keys : (test : List ℕ → Bool) (entries : List Entry)
    → list_all (λ key. test (string_bytes key)) (keys_of_entries entries)
    ≡ list_all test (keys_of (members_view entries))
all_keys test [] = refl
all_keys test (entry ∷ entries) = ap (λ rest. test (string_bytes entry.0) && rest) (all_keys test entries)

pub known_keys : (members : BTreeMap (String Global) Value)
    → list_all (λ key. is_element_key (string_bytes key)) (keys_of_entries members.entries)
    ≡ has_known_keys (view (Object members))
unfolding has_known_keys
known_keys members = rw (view-Object members) (all_keys is_element_key members.entries)

-- each entry passes where each attribute is right
pub all_attributes : (entries : List Entry)
    → list_all (λ entry. is_attribute (string_bytes entry.0) (view entry.1)) entries
    ≡ are_attributes (members_view entries)
all_attributes [] = refl
all_attributes (entry ∷ entries) =
    ap (λ rest. is_attribute (string_bytes entry.0) (view entry.1) && rest) (all_attributes entries)

-- keys in order are names in order
below_all : (entry : Entry) (entries : List Entry)
    → AllByRecursion (λ key. string_cmp entry.0 key ≡ Less) (keys_of_entries entries)
    → AllByRecursion (λ name. slice_cmp nat_cmp (string_bytes entry.0) name ≡ Less) (names_of (map attribute_at entries))
below_all entry [] h = tt
below_all entry (next ∷ entries) h = (h.0, below_all entry entries h.1)

pub in_order : (entries : List Entry) → IsStrictlySortedBy string_cmp (keys_of_entries entries)
    → IsInOrder (map attribute_at entries)
unfolding IsStrictlySortedBy
in_order [] h = tt
in_order (entry ∷ entries) h = (below_all entry entries h.0, in_order entries h.1)

-- a sum that stands still at a bound, one number more
pub capped_more : (bound sum n rest : ℕ) → min (min (sum + n) bound + rest) bound ≡ min (sum + (n + rest)) bound
capped_more bound sum n rest = omega arith

pub capped_pair : (bound a b : ℕ) → min (a + min b bound) bound ≡ min (a + b) bound
capped_pair bound a b = omega arith
