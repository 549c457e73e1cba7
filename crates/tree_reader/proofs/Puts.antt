-- The attributes of members, one more put in.
use Rattle.std.proofs.Common.{◌≡◌, refl, sym, ap, subst, ℕ, List, ◌∷◌, Bool, true, false, ◌&&◌, Ordering, Less, Equal, Greater, nat_cmp}
use Rattle.std.specs.Prelude.{⊤}
use Rattle.std.proofs.lemmas.Slice.Eq.{bytes_eq-Decides}
use Rattle.std.specs.Cmp.Lexicographic.{slice_cmp}
use Rattle.std.specs.Ordering.{match_ordering}
use Rattle.serde_json.specs.Data.{Data, string, Members, no_members, member, put}
use Rattle.math_tree.specs.Attributes as math
use Rattle.tree_json.specs.Elements.{are_attributes, attribute_of, attributes_of, is_attribute}
use Rattle.math_tree.specs.declared.attributes.Attribute.{Attribute}
use Rattle.math_tree.proofs.Lookup.{tested}

-- names that are found to be equal are one
one_name : (name other : List ℕ) → slice_cmp nat_cmp name other ≡ Equal → name ≡ other
one_name name other e = (bytes_eq-Decides name other).0 (tested name other Equal e)

module _ (name text other : List ℕ) (given : Data) (all : Members) where
  abbrev put_in : Attribute
  put_in = record { name = name; value = text }

  one_put : (o : Ordering) → slice_cmp nat_cmp name other ≡ o
      → attributes_of (put name (string text) all) ≡ math.put put_in (attributes_of all)
      → attributes_of (match_ordering o (member name (string text) (member other given all)) (member other (string text) all) (member other given (put name (string text) all)))
      ≡ match_ordering o (put_in ∷ attribute_of other given ∷ attributes_of all) (put_in ∷ attributes_of all) (attribute_of other given ∷ math.put put_in (attributes_of all))
  one_put Less e rest = refl
  one_put Equal e rest = ap (λ n. attribute_of n (string text) ∷ attributes_of all) (sym (one_name name other e))
  one_put Greater e rest = ap (◌∷◌ (attribute_of other given)) rest

pub attributes_put : (name text : List ℕ) (all : Members)
    → attributes_of (put name (string text) all) ≡ math.put (record { name = name; value = text }) (attributes_of all)
attributes_put name text no_members = refl
attributes_put name text (member other given all) = one_put name text other given all (slice_cmp nat_cmp name other) refl (attributes_put name text all)

pub both : (a b : Bool) → a ≡ true → b ≡ true → (a && b) ≡ true
both a b x y = rw (x, y) refl

abbrev IsFalse : Bool → Type 0
IsFalse true = ⊥
IsFalse false = ⊤

parts : (a b : Bool) → (a && b) ≡ true → (a ≡ true) × (b ≡ true)
parts true b e = (refl, e)
parts false b e = absurd (subst IsFalse e tt)

module _ (name text other : List ℕ) (given : Data) (all : Members) where
  one_formed : (o : Ordering) → slice_cmp nat_cmp name other ≡ o → is_attribute name (string text) ≡ true
      → (is_attribute other given && are_attributes all) ≡ true → are_attributes (put name (string text) all) ≡ true
      → are_attributes (match_ordering o (member name (string text) (member other given all)) (member other (string text) all) (member other given (put name (string text) all))) ≡ true
  one_formed Less e fits rest further = both (is_attribute name (string text)) (is_attribute other given && are_attributes all) fits rest
  one_formed Equal e fits rest further =
      subst (λ n. (is_attribute n (string text) && are_attributes all) ≡ true) (one_name name other e)
      (both (is_attribute name (string text)) (are_attributes all) fits (parts (is_attribute other given) (are_attributes all) rest).1)
  one_formed Greater e fits rest further = both (is_attribute other given) (are_attributes (put name (string text) all)) (parts (is_attribute other given) (are_attributes all) rest).0 further

pub formed_put : (name text : List ℕ) (all : Members) → is_attribute name (string text) ≡ true → are_attributes all ≡ true
    → are_attributes (put name (string text) all) ≡ true
formed_put name text no_members fits rest = both (is_attribute name (string text)) true fits refl
formed_put name text (member other given all) fits rest =
    one_formed name text other given all (slice_cmp nat_cmp name other) refl fits rest
    (formed_put name text all fits (parts (is_attribute other given) (are_attributes all) rest).1)
