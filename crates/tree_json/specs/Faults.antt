-- The faults of the elements of a JSON value, and the first of them in document order.
use Rattle.std.specs.Prelude.{ℕ, ◌+◌, List, [], ◌∷◌, Bool, true, false, not, ◌&&◌, nat_eq, nat_lt, Option, None, codes}
use Rattle.std.specs.List.{find}
use Rattle.std.specs.Option.{option_map, option_or}
use Rattle.std.specs.Str.{bytes_eq}
use Rattle.tree_json.specs.Elements.{Element, elements, name_in, bytes_held, is_object, has_known_keys, has_attributes, has_text, has_children}
use Rattle.math_tree.specs.Forms.{is_name, most_levels, most_elements, most_bytes}
use Rattle.tree_json.specs.declared.fault.ElementFault.{ElementFault}
use Rattle.tree_json.specs.declared.fault.ElementFault.TheVariants.{NotAnObject, BadName, NotMath, UnknownKey, BadAttributes, BadText, BadChildren, TooDeep, TooMany, TooLong}
use Rattle.tree_json.specs.declared.fault.TreeFault.{TreeFault}
use Rattle.tree_json.specs.declared.portion.Portion.{Portion}
use Rattle.tree_json.specs.declared.portion.Portion.TheVariants.{Part, Whole}

-- the number of a fault
abbrev pub number_of : ElementFault → ℕ
number_of NotAnObject = 1
number_of BadName = 2
number_of NotMath = 3
number_of UnknownKey = 4
number_of BadAttributes = 5
number_of BadText = 6
number_of BadChildren = 7
number_of TooDeep = 8
number_of TooMany = 9
number_of TooLong = 11

-- whether the first element has to be `math`: that of a whole tree does
abbrev pub begins_with_math : Portion → Bool
begins_with_math Whole = true
begins_with_math Part = false

abbrev pub is_misplaced : Portion → ℕ → List ℕ → Bool
is_misplaced portion place name =
    begins_with_math portion && nat_eq place 1 && not (bytes_eq name (codes "math"))

-- when an element has each fault, in the order in which they are looked for: by its place in
-- document order, from 1, and the bytes that it and all elements before it hold together
abbrev pub faults : Portion → ℕ → ℕ → Element → List (Bool × ElementFault)
faults portion place bytes element = let value = element.value in
    (nat_lt most_levels element.level, TooDeep)
    ∷ (nat_lt most_elements place, TooMany)
    ∷ (not (is_object value), NotAnObject)
    ∷ (not (has_known_keys value), UnknownKey)
    ∷ (not (is_name (name_in value)), BadName)
    ∷ (is_misplaced portion place (name_in value), NotMath)
    ∷ (not (has_attributes value), BadAttributes)
    ∷ (not (has_text value), BadText)
    ∷ (not (has_children value), BadChildren)
    ∷ (nat_lt most_bytes bytes, TooLong)
    ∷ []

-- the first fault of an element, where it has one
unfoldable pub fault_of : Portion → ℕ → ℕ → Element → Option ElementFault
fault_of portion place bytes element =
    option_map (λ row. row.1) (find (λ row. row.0) (faults portion place bytes element))

abbrev pub fault_at : ℕ → ElementFault → TreeFault
fault_at place fault = record { element = place; kind = number_of fault }

-- the first fault of elements, where as many stand before them and hold as many bytes together
abbrev pub first_fault_after : Portion → ℕ → ℕ → List Element → Option TreeFault
first_fault_after portion count bytes [] = None
first_fault_after portion count bytes (element ∷ elements) =
    let place = count + 1 in
    let held = bytes + bytes_held element.value in
    let own = option_map (fault_at place) (fault_of portion place held element) in
    option_or own (first_fault_after portion place held elements)
