-- The attributes of an element: a list that increases by name, with each name once.
use Rattle.std.specs.Prelude.{ℕ, ◌+◌, Bool, true, false, if◌then◌else◌, List, [], ◌∷◌, length, map, not, codes, Option, Some, None, option_map}
use Rattle.std.specs.Cmp.Lexicographic.{slice_cmp}
use Rattle.std.specs.List.{filter, find, sum_by}
use Rattle.std.specs.List.Sorted.{IsStrictlySortedBy}
use Rattle.std.specs.Ordering.{match_ordering, nat_cmp}
use Rattle.std.specs.Str.{bytes_eq}
use Rattle.fixed_units.specs.Words.{is_word}
use Rattle.math_tree.specs.declared.attributes.Attribute.{Attribute}

-- the names of attributes, which stand in the order of their bytes
abbrev pub names_of : List Attribute → List (List ℕ)
names_of attributes = map (λ a. a.name) attributes

abbrev pub IsInOrder : List Attribute → Type 0
IsInOrder attributes = IsStrictlySortedBy (slice_cmp nat_cmp) (names_of attributes)

-- the value of the attribute of that name, where there is one
abbrev pub value_of : List ℕ → List Attribute → Option (List ℕ)
value_of name attributes = option_map (λ a. a.value) (find (λ a. bytes_eq a.name name) attributes)

-- the truth value that a word stands for, in any case of ASCII letters
unfoldable pub truth_of_word : List ℕ → Option Bool
truth_of_word value =
    if is_word value (codes "true") then Some true
    else if is_word value (codes "false") then Some false
    else None

-- the attributes with one that is put in: where its name stands in order, and in place of the one
-- of its name where there is one
abbrev pub put : Attribute → List Attribute → List Attribute
put attribute [] = attribute ∷ []
put attribute (next ∷ attributes) = match_ordering (slice_cmp nat_cmp attribute.name next.name)
    (attribute ∷ next ∷ attributes)
    (attribute ∷ attributes)
    (next ∷ put attribute attributes)

-- the attributes but the one of that name
abbrev pub without : List ℕ → List Attribute → List Attribute
without name attributes = filter (λ a. not (bytes_eq a.name name)) attributes

abbrev pub bytes_of_attribute : Attribute → ℕ
bytes_of_attribute a = length a.name + length a.value

-- the bytes of all names and values
unfoldable pub bytes_of_attributes : List Attribute → ℕ
bytes_of_attributes attributes = sum_by bytes_of_attribute attributes
