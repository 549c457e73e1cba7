-- The members of an element, and what they say of it.
use Rattle.std.proofs.Common.{◌≡◌, refl, ℕ, List, [], true, Option, Some, None, codes, option_map}
use Rattle.std.specs.Prelude.{unwrap_or}
use Rattle.serde_json.specs.Data.{string, array, object, Items, no_items, Members, put}
use Rattle.serde_json.specs.Find.{get}
use Rattle.tree_json.specs.Elements.{name_in, attributes_in, text_in, children_in, has_known_keys}
use Rattle.tree_reader.specs.Said.{members_of}

-- ---- one member more

module _ (given : List ℕ) where
  pub put_name : (attributes : Option Members) (text : Option (List ℕ)) (children : Option Items)
      → put (codes "name") (string given) (members_of None attributes text children) ≡ members_of (Some given) attributes text children
  put_name None None None = refl
  put_name None None (Some items) = refl
  put_name None (Some text) None = refl
  put_name None (Some text) (Some items) = refl
  put_name (Some all) None None = refl
  put_name (Some all) None (Some items) = refl
  put_name (Some all) (Some text) None = refl
  put_name (Some all) (Some text) (Some items) = refl

  pub put_text : (name : Option (List ℕ)) (attributes : Option Members) (children : Option Items)
      → put (codes "text") (string given) (members_of name attributes None children) ≡ members_of name attributes (Some given) children
  put_text None None None = refl
  put_text None None (Some items) = refl
  put_text None (Some all) None = refl
  put_text None (Some all) (Some items) = refl
  put_text (Some name) None None = refl
  put_text (Some name) None (Some items) = refl
  put_text (Some name) (Some all) None = refl
  put_text (Some name) (Some all) (Some items) = refl

pub put_attributes : (given : Members) (name text : Option (List ℕ)) (children : Option Items)
    → put (codes "attributes") (object given) (members_of name None text children) ≡ members_of name (Some given) text children
put_attributes given None None None = refl
put_attributes given None None (Some items) = refl
put_attributes given None (Some text) None = refl
put_attributes given None (Some text) (Some items) = refl
put_attributes given (Some name) None None = refl
put_attributes given (Some name) None (Some items) = refl
put_attributes given (Some name) (Some text) None = refl
put_attributes given (Some name) (Some text) (Some items) = refl

pub put_children : (given : Items) (name text : Option (List ℕ)) (attributes : Option Members)
    → put (codes "children") (array given) (members_of name attributes text None) ≡ members_of name attributes text (Some given)
put_children given None None None = refl
put_children given None None (Some all) = refl
put_children given None (Some text) None = refl
put_children given None (Some text) (Some all) = refl
put_children given (Some name) None None = refl
put_children given (Some name) None (Some all) = refl
put_children given (Some name) (Some text) None = refl
put_children given (Some name) (Some text) (Some all) = refl

-- ---- what they say

module _ (name : List ℕ) where
  pub name_said : (attributes : Option Members) (text : Option (List ℕ)) (children : Option Items)
      → name_in (object (members_of (Some name) attributes text children)) ≡ name
  unfolding name_in
  name_said None None None = refl
  name_said None None (Some items) = refl
  name_said None (Some text) None = refl
  name_said None (Some text) (Some items) = refl
  name_said (Some all) None None = refl
  name_said (Some all) None (Some items) = refl
  name_said (Some all) (Some text) None = refl
  name_said (Some all) (Some text) (Some items) = refl

  pub attributes_said : (attributes : Option Members) (text : Option (List ℕ)) (children : Option Items)
      → attributes_in (object (members_of (Some name) attributes text children)) ≡ attributes
  unfolding attributes_in
  attributes_said None None None = refl
  attributes_said None None (Some items) = refl
  attributes_said None (Some text) None = refl
  attributes_said None (Some text) (Some items) = refl
  attributes_said (Some all) None None = refl
  attributes_said (Some all) None (Some items) = refl
  attributes_said (Some all) (Some text) None = refl
  attributes_said (Some all) (Some text) (Some items) = refl

  pub get_attributes : (attributes : Option Members) (text : Option (List ℕ)) (children : Option Items)
      → get (codes "attributes") (object (members_of (Some name) attributes text children)) ≡ option_map object attributes
  unfolding attributes_in
  get_attributes None None None = refl
  get_attributes None None (Some items) = refl
  get_attributes None (Some text) None = refl
  get_attributes None (Some text) (Some items) = refl
  get_attributes (Some all) None None = refl
  get_attributes (Some all) None (Some items) = refl
  get_attributes (Some all) (Some text) None = refl
  get_attributes (Some all) (Some text) (Some items) = refl

  pub text_said : (attributes : Option Members) (text : Option (List ℕ)) (children : Option Items)
      → text_in (object (members_of (Some name) attributes text children)) ≡ Some (unwrap_or text [])
  unfolding text_in
  text_said None None None = refl
  text_said None None (Some items) = refl
  text_said None (Some text) None = refl
  text_said None (Some text) (Some items) = refl
  text_said (Some all) None None = refl
  text_said (Some all) None (Some items) = refl
  text_said (Some all) (Some text) None = refl
  text_said (Some all) (Some text) (Some items) = refl

  pub children_said : (attributes : Option Members) (text : Option (List ℕ)) (children : Option Items)
      → children_in (object (members_of (Some name) attributes text children)) ≡ Some (unwrap_or children no_items)
  unfolding children_in
  children_said None None None = refl
  children_said None None (Some items) = refl
  children_said None (Some text) None = refl
  children_said None (Some text) (Some items) = refl
  children_said (Some all) None None = refl
  children_said (Some all) None (Some items) = refl
  children_said (Some all) (Some text) None = refl
  children_said (Some all) (Some text) (Some items) = refl

  pub keys_said : (attributes : Option Members) (text : Option (List ℕ)) (children : Option Items)
      → has_known_keys (object (members_of (Some name) attributes text children)) ≡ true
  unfolding has_known_keys
  keys_said None None None = refl
  keys_said None None (Some items) = refl
  keys_said None (Some text) None = refl
  keys_said None (Some text) (Some items) = refl
  keys_said (Some all) None None = refl
  keys_said (Some all) None (Some items) = refl
  keys_said (Some all) (Some text) None = refl
  keys_said (Some all) (Some text) (Some items) = refl
