-- An element stays proper where a text or an attribute is set that may be set, or where its children
-- change.
use Rattle.std.proofs.Common.{◌≡◌, ◌∙◌, sym, ap, refl, subst, ℕ, List, [], ◌∷◌, codes, All, Bool, true, false, not, ◌&&◌, cond, Option, Some, None, Ordering, Less, Equal, Greater, true≢false}
use Rattle.std.proofs.lemmas.Bool.{not-false}
use Rattle.std.proofs.lemmas.List.Elements.{recursion_from_All, All-from_recursion, All-filter}
use Rattle.std.specs.List.{AllByRecursion, find}
use Rattle.std.specs.Option.{option_map, option_map_or}
use Rattle.std.specs.Ordering.{match_ordering}
use Rattle.std.specs.Str.{bytes_eq}
use Rattle.math_tree.proofs.Lookup.{compare, tested}
use Rattle.math_tree.proofs.Puts.{put_in_order, without_in_order}
use Rattle.math_tree.specs.Attributes.{IsInOrder, value_of, put, without}
use Rattle.math_tree.specs.Forms.{is_name, is_short_enough}
use Rattle.math_tree.specs.Kinds.{is_text_kind}
use Rattle.math_tree.specs.Trees.{IsProper, IsProperAttribute}
use Rattle.math_tree.specs.declared.attributes.Attribute.{Attribute}
use Rattle.math_tree.specs.declared.node.Head.{Head}
use Rattle.tree_edits.proofs.Frames.{entry}
use Rattle.tree_edits.specs.Edits.{with_text, with_value, with_attribute, is_long_value}

-- ---- the value of a name

taken : (t : Bool) (a : Attribute) (found : Option Attribute)
    → option_map (λ a. a.value) (cond t (Some a) found) ≡ cond t (Some a.value) (option_map (λ a. a.value) found)
taken true a found = refl
taken false a found = refl

pub first_value : (key : List ℕ) (a : Attribute) (xs : List Attribute)
    → value_of key (a ∷ xs) ≡ cond (bytes_eq a.name key) (Some a.value) (value_of key xs)
first_value key a xs = taken (bytes_eq a.name key) a (find (λ (x : Attribute). bytes_eq x.name key) xs)

-- ---- attributes that are set

all_put : (a : Attribute) (xs : List Attribute) → IsProperAttribute a → AllByRecursion IsProperAttribute xs → AllByRecursion IsProperAttribute (put a xs)
all_put a [] own h = (own, tt)
all_put a (x ∷ xs) own h =
    elim (compare a.name x.name) as (λ o. AllByRecursion IsProperAttribute (match_ordering o (a ∷ x ∷ xs) (a ∷ xs) (x ∷ put a xs))) [
      | Less ↦ (own, h)
      | Equal ↦ (own, h.1)
      | Greater ↦ (h.0, all_put a xs own h.1)
    ]

attributes_kept : (name : List ℕ) (value : Option (List ℕ)) (xs : List Attribute) → is_name name ≡ true → is_long_value value ≡ false
    → All IsProperAttribute xs → All IsProperAttribute (with_value name value xs)
attributes_kept name (Some value) xs named short h =
    let a : Attribute = record { name = name; value = value } in
    let own : IsProperAttribute a = record { name = named; value = not-false (is_short_enough value) short } in
    All-from_recursion IsProperAttribute (put a xs) (all_put a xs own (recursion_from_All IsProperAttribute xs h))
attributes_kept name None xs named short h = All-filter (λ (a : Attribute). not (bytes_eq a.name name)) IsProperAttribute xs h

order_kept : (name : List ℕ) (value : Option (List ℕ)) (xs : List Attribute) → IsInOrder xs → IsInOrder (with_value name value xs)
order_kept name (Some value) xs h = put_in_order (record { name = name; value = value }) xs h
order_kept name None xs h = without_in_order name xs h

-- ---- elements

pub proper_attribute : (level children : ℕ) (head : Head) (name : List ℕ) (value : Option (List ℕ))
    → is_name name ≡ true → is_long_value value ≡ false
    → IsProper (entry level head children) → IsProper (entry level (with_attribute name value head) children)
proper_attribute level children head name value named short p = record {
  kind = p.kind;
  name = p.name;
  attributes = attributes_kept name value head.attributes named short p.attributes;
  order = order_kept name value head.attributes p.order;
  text = p.text;
  childless = p.childless;
  textless = p.textless;
}

pub proper_text : (level children : ℕ) (head : Head) (text : List ℕ) → is_text_kind head.kind ≡ true → is_short_enough text ≡ true
    → IsProper (entry level head children) → IsProper (entry level (with_text text head) children)
proper_text level children head text is_text short p = record {
  kind = p.kind;
  name = p.name;
  attributes = p.attributes;
  order = p.order;
  text = short;
  childless = p.childless;
  textless = λ other. absurd (true≢false (sym is_text ∙ other));
}

pub proper_children : (level children others : ℕ) (head : Head) → (is_text_kind head.kind ≡ true → others ≡ 0)
    → IsProper (entry level head children) → IsProper (entry level head others)
proper_children level children others head childless p = record {
  kind = p.kind;
  name = p.name;
  attributes = p.attributes;
  order = p.order;
  text = p.text;
  childless = childless;
  textless = p.textless;
}
