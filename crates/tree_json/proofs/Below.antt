-- The elements right below an element, and what is made of an element from what is made of these.
use Rattle.std.proofs.Common.{◌≡◌, ap, refl, ℕ, List, [], ◌∷◌, map, Option, Some, cond, codes, nat_cmp, Ordering, Less, Equal, Greater, is_eq}
use Rattle.std.proofs.lemmas.Map.Text.{is_eq-slice_cmp}
use Rattle.std.specs.Cmp.Lexicographic.{slice_cmp}
use Rattle.std.specs.List.{AllByRecursion}
use Rattle.std.specs.Option.{option_map_or}
use Rattle.std.specs.Ordering.{match_ordering}
use Rattle.serde_json.specs.Data.{Data, null, boolean, number, string, array, object, Items, no_items, item, Members, no_members, member}
use Rattle.serde_json.specs.Find.{get_member, as_array}
use Rattle.tree_json.specs.Elements.{over, over_children, over_array, over_items, listed_items, children_in, below}

-- the items of what stands at the key of the children
abbrev items_at : Option Data → List Data
items_at value = option_map_or listed_items (option_map_or as_array value (Some no_items)) []

abbrev children_key : List ℕ
children_key = codes "children"

-- ---- by one step for each element

module _ {A : Type 0} (step : Data → List A → A) where
  items_out : (items : Items) → over_items step items ≡ map (over step) (listed_items items)
  items_out no_items = refl
  items_out (item value items) = ap (◌∷◌ (over step value)) (items_out items)

  array_out : (value : Data) → over_array step value ≡ map (over step) (items_at (Some value))
  array_out null = refl
  array_out (boolean b) = refl
  array_out (number n) = refl
  array_out (string s) = refl
  array_out (array items) = items_out items
  array_out (object inside) = refl

  chosen : (o : Ordering) (value : Data) (rest : Option Data) (here there : List A)
      → here ≡ map (over step) (items_at (Some value)) → there ≡ map (over step) (items_at rest)
      → cond (is_eq o) here there ≡ map (over step) (items_at (match_ordering o rest (Some value) rest))
  chosen Less value rest here there a b = b
  chosen Equal value rest here there a b = a
  chosen Greater value rest here there a b = b

  children_out : (members : Members) → over_children step members ≡ map (over step) (items_at (get_member children_key members))
  children_out no_members = refl
  children_out (member key value members) =
      let o = slice_cmp nat_cmp children_key key in
      let found = chosen o value (get_member children_key members) _ _ (array_out value) (children_out members) in
      rw (← is_eq-slice_cmp children_key key) found

  -- an element's is that of the step, over those of the elements right below it
  pub over_out : (value : Data) → over step value ≡ step value (map (over step) (below value))
  unfolding children_in
  over_out null = refl
  over_out (boolean b) = refl
  over_out (number n) = refl
  over_out (string s) = refl
  over_out (array items) = refl
  over_out (object members) = ap (step (object members)) (children_out members)

-- ---- by induction

-- what holds of an element where it holds of all right below it
module _ (P : Data → Type 0) (step : (value : Data) → AllByRecursion P (below value) → P value) where
  chosen_all : (o : Ordering) (value : Data) (rest : Option Data)
      → AllByRecursion P (items_at (Some value)) → AllByRecursion P (items_at rest)
      → AllByRecursion P (items_at (match_ordering o rest (Some value) rest))
  chosen_all Less value rest a b = b
  chosen_all Equal value rest a b = a
  chosen_all Greater value rest a b = b

  mutual
    unfolding children_in

    pub by_elements : (value : Data) → P value
    by_elements null = step null tt
    by_elements (boolean b) = step (boolean b) tt
    by_elements (number n) = step (number n) tt
    by_elements (string s) = step (string s) tt
    by_elements (array items) = step (array items) tt
    by_elements (object members) = step (object members) (in_members members)

    in_members : (members : Members) → AllByRecursion P (items_at (get_member children_key members))
    in_members no_members = tt
    in_members (member key value members) =
        chosen_all (slice_cmp nat_cmp children_key key) value (get_member children_key members) (in_array value) (in_members members)

    in_array : (value : Data) → AllByRecursion P (items_at (Some value))
    in_array null = tt
    in_array (boolean b) = tt
    in_array (number n) = tt
    in_array (string s) = tt
    in_array (array items) = in_items items
    in_array (object inside) = tt

    in_items : (items : Items) → AllByRecursion P (listed_items items)
    in_items no_items = tt
    in_items (item value items) = (by_elements value, in_items items)
