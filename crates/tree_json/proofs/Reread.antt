-- What a printed element says when it is read.
use Rattle.std.proofs.Common.{◌≡◌, ℕ, List, [], ◌∷◌, length, codes, Bool, true, false, if◌then◌else◌, not, ◌&&◌, ◌||◌, Option, Some, None, refl, sym, ap, ◌∙◌, arith, Ordering, Less, Equal, Greater, is_eq, nat_cmp}
use Rattle.std.proofs.lemmas.Cmp.{nat_list_cmp_total}
use Rattle.std.proofs.lemmas.Map.Text.{is_eq-slice_cmp}
use Rattle.std.specs.Cmp.Lexicographic.{slice_cmp}
use Rattle.std.specs.List.{AllByRecursion}
use Rattle.std.specs.Option.{option_and_then, option_map_or, unwrap_or}
use Rattle.std.specs.Ordering.{ordering_reverse}
use Rattle.std.specs.Str.{bytes_eq}
use Rattle.serde_json.specs.Data.{Data, string, array, object, no_items}
use Rattle.serde_json.specs.Find.{get, get_member, as_str, as_array, as_object}
use Rattle.math_tree.specs.Attributes.{value_of as attribute_value}
use Rattle.tree_json.specs.Elements.{name_in, kind_in, attributes_in, text_in, children_in, attributes_held, text_held, has_known_keys, has_attributes, has_text, has_children, text_or_empty, attributes_of, are_attributes, is_map_of_attributes, may_stand_below, listed_items}
use Rattle.math_tree.specs.Forms.{is_short_enough, is_white_space}
use Rattle.math_tree.specs.Kinds.{kind_of, is_text_kind}
use Rattle.tree_json.specs.Print.{members_of, items_of, object_of}
use Rattle.math_tree.specs.Trees.{IsProperAttribute}
use Rattle.math_tree.specs.declared.attributes.Attribute.{Attribute}
use Rattle.math_tree.specs.declared.kind.Kind.{Kind}

-- ---- the keys

-- a value, where there is something to tell
abbrev pub told_if_any : {A : Type 0} → List A → Data → Option Data
told_if_any [] value = None
told_if_any (x ∷ xs) value = Some value

-- an element of its parts
abbrev pub element_of : List Attribute → List Data → List ℕ → List ℕ → Data
element_of xs vs name ts =
    object_of (record { id = record { 0 = 0 }; name = name; kind = kind_of name; attributes = xs; text = ts }) vs

-- what stands at each key
pub record Keyed (xs : List Attribute) (vs : List Data) (name ts : List ℕ) : Type 0 where
  pub at_name : get (codes "name") (element_of xs vs name ts) ≡ Some (string name)
  pub at_attributes : get (codes "attributes") (element_of xs vs name ts) ≡ told_if_any xs (object (members_of xs))
  pub at_children : get (codes "children") (element_of xs vs name ts) ≡ told_if_any vs (array (items_of vs))
  pub at_text : get (codes "text") (element_of xs vs name ts) ≡ told_if_any ts (string ts)
  pub known : has_known_keys (element_of xs vs name ts) ≡ true

pub keyed : (xs : List Attribute) (vs : List Data) (name ts : List ℕ) → Keyed xs vs name ts
unfolding has_known_keys
keyed [] [] name [] = record { at_name = refl; at_attributes = refl; at_children = refl; at_text = refl; known = refl }
keyed [] [] name (t ∷ ts) = record { at_name = refl; at_attributes = refl; at_children = refl; at_text = refl; known = refl }
keyed [] (v ∷ vs) name [] = record { at_name = refl; at_attributes = refl; at_children = refl; at_text = refl; known = refl }
keyed [] (v ∷ vs) name (t ∷ ts) = record { at_name = refl; at_attributes = refl; at_children = refl; at_text = refl; known = refl }
keyed (a ∷ xs) [] name [] = record { at_name = refl; at_attributes = refl; at_children = refl; at_text = refl; known = refl }
keyed (a ∷ xs) [] name (t ∷ ts) = record { at_name = refl; at_attributes = refl; at_children = refl; at_text = refl; known = refl }
keyed (a ∷ xs) (v ∷ vs) name [] = record { at_name = refl; at_attributes = refl; at_children = refl; at_text = refl; known = refl }
keyed (a ∷ xs) (v ∷ vs) name (t ∷ ts) = record { at_name = refl; at_attributes = refl; at_children = refl; at_text = refl; known = refl }

-- ---- attributes

attributes_again : (xs : List Attribute) → attributes_of (members_of xs) ≡ xs
attributes_again [] = refl
attributes_again (a ∷ xs) = ap (λ l. a ∷ l) (attributes_again xs)

right_again : (xs : List Attribute) → AllByRecursion IsProperAttribute xs → are_attributes (members_of xs) ≡ true
right_again [] h = refl
right_again (a ∷ xs) h = rw (h.0.name, h.0.value) (right_again xs h.1)

-- an attribute is found among the members
found_again : (name : List ℕ) (xs : List Attribute) → option_and_then as_str (get_member name (members_of xs)) ≡ attribute_value name xs
found_again name [] = refl
found_again name (a ∷ xs) = by (slice_cmp nat_cmp name a.name) refl (found_again name xs)
  where
    tested : (o : Ordering) → slice_cmp nat_cmp name a.name ≡ o → bytes_eq a.name name ≡ is_eq (ordering_reverse o)
    tested o e = sym (is_eq-slice_cmp a.name name) ∙ ap is_eq (nat_list_cmp_total.antisymm a.name name ∙ ap ordering_reverse e)

    by : (o : Ordering) → slice_cmp nat_cmp name a.name ≡ o
        → option_and_then as_str (get_member name (members_of xs)) ≡ attribute_value name xs
        → option_and_then as_str (get_member name (members_of (a ∷ xs))) ≡ attribute_value name (a ∷ xs)
    by Less e rest = rw (e, tested Less e) rest
    by Equal e rest = rw (e, tested Equal e) refl
    by Greater e rest = rw (e, tested Greater e) rest

-- ---- children

pub listed_again : (vs : List Data) → listed_items (items_of vs) ≡ vs
listed_again [] = refl
listed_again (v ∷ vs) = ap (λ l. v ∷ l) (listed_again vs)

-- ---- an element

module _ (xs : List Attribute) (vs : List Data) (name ts : List ℕ) where
  abbrev value : Data
  value = element_of xs vs name ts

  pub name_again : name_in value ≡ name
  unfolding name_in
  name_again = ap (λ o. option_map_or text_or_empty o []) (keyed xs vs name ts).at_name

  pub kind_again : kind_in value ≡ kind_of name
  unfolding kind_in
  kind_again = ap kind_of name_again

  attributes_told : (l : List Attribute) → option_map_or attributes_of (option_and_then as_object (told_if_any l (object (members_of l)))) [] ≡ l
  attributes_told [] = refl
  attributes_told (a ∷ l) = attributes_again (a ∷ l)

  pub attributes_are : attributes_held value ≡ xs
  unfolding attributes_held attributes_in
  attributes_are = ap (λ o. option_map_or attributes_of (option_and_then as_object o) []) (keyed xs vs name ts).at_attributes ∙ attributes_told xs

  text_told : (l : List ℕ) → option_map_or as_str (told_if_any l (string l)) (Some []) ≡ Some l
  text_told [] = refl
  text_told (t ∷ l) = refl

  pub text_is : text_in value ≡ Some ts
  unfolding text_in
  text_is = ap (λ o. option_map_or as_str o (Some [])) (keyed xs vs name ts).at_text ∙ text_told ts

  children_told : (l : List Data) → option_map_or as_array (told_if_any l (array (items_of l))) (Some no_items) ≡ Some (items_of l)
  children_told [] = refl
  children_told (v ∷ l) = refl

  pub children_are : children_in value ≡ Some (items_of vs)
  unfolding children_in
  children_are = ap (λ o. option_map_or as_array o (Some no_items)) (keyed xs vs name ts).at_children ∙ children_told vs

  -- ---- the tests

  attributes_right : (l : List Attribute) → AllByRecursion IsProperAttribute l → option_map_or is_map_of_attributes (told_if_any l (object (members_of l))) true ≡ true
  attributes_right [] h = refl
  attributes_right (a ∷ l) h = right_again (a ∷ l) h

  pub has_attributes_again : AllByRecursion IsProperAttribute xs → has_attributes value ≡ true
  unfolding has_attributes
  has_attributes_again h = ap (λ o. option_map_or is_map_of_attributes o true) (keyed xs vs name ts).at_attributes ∙ attributes_right xs h

  text_right : (b : Bool) → (b ≡ false → ts ≡ []) → (b || is_white_space ts) ≡ true
  unfolding is_white_space
  text_right true h = refl
  text_right false h = ap (λ l. is_white_space l) (h refl)

  pub has_text_again : is_short_enough ts ≡ true → (is_text_kind (kind_of name) ≡ false → ts ≡ []) → has_text value ≡ true
  unfolding has_text
  has_text_again short none =
      ap (λ o. option_map_or (λ text. is_short_enough text && (is_text_kind (kind_in value) || is_white_space text)) o false) text_is
      ∙ ap (λ k. is_short_enough ts && (is_text_kind k || is_white_space ts)) kind_again
      ∙ ap (λ b. b && (is_text_kind (kind_of name) || is_white_space ts)) short
      ∙ text_right (is_text_kind (kind_of name)) none

  children_right : (b : Bool) (kind : Kind) → is_text_kind kind ≡ b → (b ≡ true → length vs ≡ 0) → may_stand_below kind (items_of vs) ≡ true
  children_right b kind is h = by b vs is h
    where
      by : (b : Bool) (l : List Data) → is_text_kind kind ≡ b → (b ≡ true → length l ≡ 0) → may_stand_below kind (items_of l) ≡ true
      by b [] is h = refl
      by true (v ∷ l) is h = absurd (let no = h refl in omega (arith, no))
      by false (v ∷ l) is h = ap not is

  pub has_children_again : (is_text_kind (kind_of name) ≡ true → length vs ≡ 0) → has_children value ≡ true
  unfolding has_children
  has_children_again h =
      ap (λ o. option_map_or (may_stand_below (kind_in value)) o false) children_are
      ∙ ap (λ k. may_stand_below k (items_of vs)) kind_again
      ∙ children_right (is_text_kind (kind_of name)) (kind_of name) refl h

  -- ---- what is held

  text_kept : (b : Bool) → (b ≡ false → ts ≡ []) → (if b then ts else []) ≡ ts
  text_kept true h = refl
  text_kept false h = sym (h refl)

  pub text_again : (is_text_kind (kind_of name) ≡ false → ts ≡ []) → text_held value ≡ ts
  unfolding text_held
  text_again none =
      ap (λ k. if is_text_kind k then unwrap_or (text_in value) [] else []) kind_again
      ∙ ap (λ o. if is_text_kind (kind_of name) then unwrap_or o [] else []) text_is
      ∙ text_kept (is_text_kind (kind_of name)) none
