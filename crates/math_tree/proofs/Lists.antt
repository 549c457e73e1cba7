-- No attribute, and the bytes of one more.
use Rattle.std.proofs.Common.{◌≡◌, refl, ◌+◌, List, [], ◌∷◌}
use Rattle.std.proofs.lemmas.List.Sums.{sum_by-cons}
use Rattle.std.specs.List.Sorted.{IsStrictlySortedBy}
use Rattle.math_tree.specs.Attributes.{IsInOrder, bytes_of_attribute, bytes_of_attributes}
use Rattle.math_tree.specs.declared.attributes.Attribute.{Attribute}

pub none_in_order : IsInOrder []
unfolding IsStrictlySortedBy
none_in_order = tt

-- the bytes of one attribute more
pub bytes_more : (attribute : Attribute) (attributes : List Attribute)
    → bytes_of_attributes (attribute ∷ attributes) ≡ bytes_of_attribute attribute + bytes_of_attributes attributes
unfolding bytes_of_attributes
bytes_more attribute attributes = sum_by-cons bytes_of_attribute attribute attributes

pub bytes_none : bytes_of_attributes [] ≡ 0
unfolding bytes_of_attributes
bytes_none = refl
