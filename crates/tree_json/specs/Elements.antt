-- The elements of a JSON value, and what it says of each, key by key.
use Rattle.std.specs.Prelude.{ℕ, ◌+◌, List, [], ◌∷◌, length, Bool, true, false, not, ◌&&◌, ◌||◌, Option, Some, is_some, codes, if◌then◌else◌}
use Rattle.std.specs.List.{flat_map, list_all, list_any}
use Rattle.std.specs.Option.{option_and_then, option_map_or, unwrap_or}
use Rattle.std.specs.Str.{bytes_eq}
use Rattle.serde_json.specs.Data.{Data, null, boolean, number, string, array, object, Items, no_items, item, Members, no_members, member}
use Rattle.serde_json.specs.Find.{get, as_str, as_array, as_object}
use Rattle.math_tree.specs.Attributes.{bytes_of_attributes}
use Rattle.math_tree.specs.Forms.{is_name, is_white_space, is_short_enough}
use Rattle.math_tree.specs.Kinds.{kind_of, is_text_kind}
use Rattle.math_tree.specs.declared.attributes.Attribute.{Attribute}
use Rattle.math_tree.specs.declared.kind.Kind.{Kind}

-- ---- the value of each key

-- the text that a value is; all other values stand for the empty one
abbrev pub text_or_empty : Data → List ℕ
text_or_empty value = unwrap_or (as_str value) []

-- the name, where it is a text, and else the empty one, which isn't in the form of a name
unfoldable pub name_in : Data → List ℕ
name_in value = option_map_or text_or_empty (get (codes "name") value) []

-- the kind that the name decides
unfoldable pub kind_in : Data → Kind
kind_in value = kind_of (name_in value)

-- the members of `attributes`, where it is an object
unfoldable pub attributes_in : Data → Option Members
attributes_in value = option_and_then as_object (get (codes "attributes") value)

-- the text, where it is one; where the key is absent, the empty one
unfoldable pub text_in : Data → Option (List ℕ)
text_in value = option_map_or as_str (get (codes "text") value) (Some [])

-- the children, where they are an array; where the key is absent, none
unfoldable pub children_in : Data → Option Items
children_in value = option_map_or as_array (get (codes "children") value) (Some no_items)

-- ---- the elements

abbrev pub listed_items : Items → List Data
listed_items no_items = []
listed_items (item value items) = value ∷ listed_items items

-- the elements right below an element: where `children` is an array, its items, whatever they are
abbrev pub below : Data → List Data
below value = option_map_or listed_items (children_in value) []

-- an element of a value, and its level, which is 1 for the value itself
pub record Element : Type 0 where
  pub level : ℕ
  pub value : Data

-- `step` at each element, from the lowest up: it takes the element and what it gave right below
abbrev mutual
  pub over : {A : Type 0} → (Data → List A → A) → Data → A
  over step null = step null []
  over step (boolean b) = step (boolean b) []
  over step (number n) = step (number n) []
  over step (string s) = step (string s) []
  over step (array items) = step (array items) []
  over step (object members) = step (object members) (over_children step members)

  pub over_children : {A : Type 0} → (Data → List A → A) → Members → List A
  over_children step no_members = []
  over_children step (member key value rest) =
      if bytes_eq (codes "children") key then over_array step value else over_children step rest

  pub over_array : {A : Type 0} → (Data → List A → A) → Data → List A
  over_array step null = []
  over_array step (boolean b) = []
  over_array step (number n) = []
  over_array step (string s) = []
  over_array step (array items) = over_items step items
  over_array step (object inside) = []

  pub over_items : {A : Type 0} → (Data → List A → A) → Items → List A
  over_items step no_items = []
  over_items step (item value items) = over step value ∷ over_items step items

-- an element, and then what stands below it, one level further down
abbrev pub element_first : Data → List (ℕ → List Element) → ℕ → List Element
element_first value lists level =
    record { level = level; value = value } ∷ flat_map (λ list. list (level + 1)) lists

-- the elements of a value in document order, each before its children, where its own level is this
unfoldable pub elements : ℕ → Data → List Element
elements level value = over element_first value level

-- ---- what an element holds

abbrev pub attribute_of : List ℕ → Data → Attribute
attribute_of name value = record { name = name; value = text_or_empty value }

abbrev pub attributes_of : Members → List Attribute
attributes_of no_members = []
attributes_of (member name value members) = attribute_of name value ∷ attributes_of members

-- the attributes, in the order of their names
unfoldable pub attributes_held : Data → List Attribute
attributes_held value = option_map_or attributes_of (attributes_in value) []

-- the text of a text element; that of another element, white space alone, is dropped
unfoldable pub text_held : Data → List ℕ
text_held value = if is_text_kind (kind_in value) then unwrap_or (text_in value) [] else []

-- the bytes of its name, its text and its attributes
unfoldable pub bytes_held : Data → ℕ
bytes_held value =
    length (name_in value) + length (text_held value) + bytes_of_attributes (attributes_held value)

-- ---- the tests of an element

-- the keys of an object
abbrev pub keys_of : Members → List (List ℕ)
keys_of no_members = []
keys_of (member key value members) = key ∷ keys_of members

-- the keys of a value, of which only an object has some
abbrev pub keys_in : Data → List (List ℕ)
keys_in value = option_map_or keys_of (as_object value) []

abbrev pub element_keys : List (List ℕ)
element_keys = codes "name" ∷ codes "attributes" ∷ codes "children" ∷ codes "text" ∷ []

abbrev pub is_object : Data → Bool
is_object value = is_some (as_object value)

abbrev pub is_element_key : List ℕ → Bool
is_element_key key = list_any (λ known. bytes_eq known key) element_keys

-- it has no key but the four
unfoldable pub has_known_keys : Data → Bool
has_known_keys value = list_all is_element_key (keys_in value)

-- a name in its form, and a text of no more bytes than a value may have
abbrev pub is_attribute : List ℕ → Data → Bool
is_attribute name value = is_name name && option_map_or is_short_enough (as_str value) false

abbrev pub are_attributes : Members → Bool
are_attributes no_members = true
are_attributes (member name value members) = is_attribute name value && are_attributes members

abbrev pub is_map_of_attributes : Data → Bool
is_map_of_attributes value = option_map_or are_attributes (as_object value) false

-- its `attributes`, if there are any, are an object of such texts
unfoldable pub has_attributes : Data → Bool
has_attributes value = option_map_or is_map_of_attributes (get (codes "attributes") value) true

-- a text that isn't too long, and on an element that isn't a text element white space alone
abbrev pub may_be_text_of : Kind → List ℕ → Bool
may_be_text_of kind text = is_short_enough text && (is_text_kind kind || is_white_space text)

-- its `text` is such a text
unfoldable pub has_text : Data → Bool
has_text value = option_map_or (may_be_text_of (kind_in value)) (text_in value) false

-- a text element has none
abbrev pub may_stand_below : Kind → Items → Bool
may_stand_below kind no_items = true
may_stand_below kind (item value items) = not (is_text_kind kind)

-- its `children` are an array, and on a text element an empty one
unfoldable pub has_children : Data → Bool
has_children value = option_map_or (may_stand_below (kind_in value)) (children_in value) false
