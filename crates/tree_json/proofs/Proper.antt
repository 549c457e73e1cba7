-- An element without a fault makes a proper one.
use Rattle.std.proofs.Common.{◌≡◌, ◌∙◌, sym, ap, refl, ℕ, List, [], length, All, Bool, true, false, not, true≢false, ◌||◌, cond, Option, Some, None, codes}
use Rattle.std.proofs.lemmas.Bool.{and_parts}
use Rattle.std.proofs.lemmas.List.Elements.{All-nil, All-cons}
use Rattle.std.specs.Option.{option_and_then, option_map_or, unwrap_or}
use Rattle.serde_json.specs.Data.{Data, null, boolean, number, string, array, object, Items, no_items, item, Members, no_members, member}
use Rattle.serde_json.specs.Find.{get, as_str, as_object}
use Rattle.math_tree.specs.Attributes.{IsInOrder}
use Rattle.tree_json.specs.Elements.{Element, name_in, kind_in, text_in, children_in, attributes_in, attributes_held, text_held, attribute_of, attributes_of, text_or_empty, is_attribute, are_attributes, is_map_of_attributes, has_attributes, has_text, has_children, may_be_text_of, may_stand_below, listed_items}
use Rattle.tree_json.specs.Faults.{fault_of}
use Rattle.math_tree.specs.Forms.{is_name, is_short_enough, is_white_space}
use Rattle.math_tree.specs.Kinds.{is_text_kind}
use Rattle.tree_json.specs.Laws.{entry}
use Rattle.math_tree.specs.Trees.{IsProper, IsProperAttribute}
use Rattle.math_tree.specs.declared.kind.Kind.{Kind}
use Rattle.tree_json.proofs.FirstFault.{no_fault}
use Rattle.tree_json.specs.declared.portion.Portion.{Portion}

pub is_not : (b : Bool) → not b ≡ false → b ≡ true
is_not true e = refl
is_not false e = absurd (true≢false e)

-- ---- attributes

short_text : (value : Data) → option_map_or is_short_enough (as_str value) false ≡ true → is_short_enough (text_or_empty value) ≡ true
short_text null e = absurd (true≢false (sym e))
short_text (boolean b) e = absurd (true≢false (sym e))
short_text (number n) e = absurd (true≢false (sym e))
short_text (string s) e = e
short_text (array items) e = absurd (true≢false (sym e))
short_text (object inside) e = absurd (true≢false (sym e))

members_proper : (members : Members) → are_attributes members ≡ true → All IsProperAttribute (attributes_of members)
members_proper no_members e = All-nil IsProperAttribute
members_proper (member name value members) e =
    let parts = and_parts (is_attribute name value) (are_attributes members) e in
    let own = and_parts (is_name name) (option_map_or is_short_enough (as_str value) false) parts.0 in
    let proper : IsProperAttribute (attribute_of name value) = record { name = own.0; value = short_text value own.1 } in
    All-cons IsProperAttribute (attribute_of name value) (attributes_of members) proper (members_proper members parts.1)

held_proper : (held : Option Data) → option_map_or is_map_of_attributes held true ≡ true
    → All IsProperAttribute (option_map_or attributes_of (option_and_then as_object held) [])
held_proper None e = All-nil IsProperAttribute
held_proper (Some null) e = All-nil IsProperAttribute
held_proper (Some (boolean b)) e = All-nil IsProperAttribute
held_proper (Some (number n)) e = All-nil IsProperAttribute
held_proper (Some (string s)) e = All-nil IsProperAttribute
held_proper (Some (array items)) e = All-nil IsProperAttribute
held_proper (Some (object members)) e = members_proper members e

-- ---- the direction

-- ---- text and children

short_or_none : (is_text : Bool) (text : List ℕ) → is_short_enough text ≡ true → is_short_enough (cond is_text text []) ≡ true
unfolding is_short_enough
short_or_none true text e = e
short_or_none false text e = refl

text_right : (kind : Kind) (text : Option (List ℕ))
    → option_map_or (may_be_text_of kind) text false ≡ true
    → is_short_enough (cond (is_text_kind kind) (unwrap_or text []) []) ≡ true
text_right kind None e = absurd (true≢false (sym e))
text_right kind (Some text) e =
    short_or_none (is_text_kind kind) text (and_parts (is_short_enough text) (is_text_kind kind || is_white_space text) e).0

no_text : (is_text : Bool) (text : List ℕ) → is_text ≡ false → cond is_text text [] ≡ []
no_text is_text text e = rw e refl

no_child : (kind : Kind) (children : Option Items)
    → option_map_or (may_stand_below kind) children false ≡ true → is_text_kind kind ≡ true
    → length (option_map_or listed_items children []) ≡ 0
no_child kind None e text = refl
no_child kind (Some no_items) e text = refl
no_child kind (Some (item value items)) e text = absurd (true≢false (sym e ∙ ap not text))

-- ---- the element

pub proper : (portion : Portion) (place bytes id : ℕ) (element : Element) → fault_of portion place bytes element ≡ None
    → IsInOrder (attributes_held element.value) → IsProper (entry id element)
unfolding kind_in has_attributes attributes_held attributes_in has_text text_held has_children
proper portion place bytes id element e order =
    let value = element.value in
    let tests = no_fault portion place bytes element e in
    let name = tests.1.1.1.1 in
    let attributes = name.1.1 in
    let text = attributes.1 in
    record {
      kind = refl;
      name = is_not (is_name (name_in value)) name.0;
      attributes = held_proper (get (codes "attributes") value) (is_not _ attributes.0);
      order = order;
      text = text_right (kind_in value) (text_in value) (is_not _ text.0);
      childless = no_child (kind_in value) (children_in value) (is_not _ text.1.0);
      textless = no_text (is_text_kind (kind_in value)) _;
    }
