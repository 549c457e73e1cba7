-- Numbers among the words of the command line.
use Rattle.std.specs.Prelude.{ℕ, ◌^◌, ℤ, pos, neg_ℤ, nat_eq, List, [], ◌∷◌, length, Bool, ◌&&◌, nat_le, nat_lt, if◌then◌else◌, Option, Some, None}
use Rattle.std.specs.Char.{is_ascii_digit}
use Rattle.std.specs.List.{list_all}
use Rattle.std.specs.Option.{option_and_then, option_map}
use Rattle.std.specs.Str.Parse.{digits_value}
use Rattle.math_tree.specs.declared.node.NodeId.{NodeId}

-- decimal digits alone, and at most so many
abbrev pub is_short_numeral : ℕ → List ℕ → Bool
is_short_numeral most word = list_all is_ascii_digit word && nat_le (length word) most

-- 1 to so many decimal digits that write a number below 2^64
abbrev pub is_numeral : ℕ → List ℕ → Bool
is_numeral most word =
    is_short_numeral most word && nat_lt 0 (length word)
    && nat_lt (digits_value 10 word) (2 ^ 64)

-- the number that they write; zeros may stand in front
unfoldable pub number_in : ℕ → List ℕ → Option ℕ
number_in most word = if is_numeral most word then Some (digits_value 10 word) else None

-- a seed has at most 20 digits
abbrev pub seed_in : List ℕ → Option ℕ
seed_in word = number_in 20 word

-- the most edits that are drawn
abbrev pub most_generated : ℕ
most_generated = 20000

abbrev pub is_count : ℕ → Bool
is_count count = nat_le 1 count && nat_le count most_generated

abbrev pub if_count : ℕ → Option ℕ
if_count count = if is_count count then Some count else None

-- a count has at most 5 digits, and is from 1 to 20,000
abbrev pub count_in : List ℕ → Option ℕ
count_in word = option_and_then if_count (number_in 5 word)

-- what stands behind a minus, if a word begins with one
abbrev pub behind_minus : List ℕ → List ℕ
behind_minus [] = []
behind_minus (first ∷ others) = if nat_eq first 45 then others else first ∷ others

abbrev pub negated : ℕ → ℤ
negated n = neg_ℤ (pos n)

-- a coordinate has 1 to 11 digits, and may have a minus before them
unfoldable pub coordinate_in : List ℕ → Option ℤ
coordinate_in [] = None
coordinate_in (first ∷ others) =
    if nat_eq first 45 then option_map negated (number_in 11 others)
    else option_map pos (number_in 11 (first ∷ others))

abbrev pub if_id : ℕ → Option NodeId
if_id number = if nat_lt number (2 ^ 32) then Some record { 0 = number } else None

-- an id has at most 10 digits, and lies below 2^32
abbrev pub id_in : List ℕ → Option NodeId
id_in word = option_and_then if_id (number_in 10 word)

-- the most edits that can be undone
abbrev pub most_undone : ℕ
most_undone = 1000

abbrev pub is_depth : ℕ → Bool
is_depth depth = nat_le 1 depth && nat_le depth most_undone

abbrev pub if_depth : ℕ → Option ℕ
if_depth depth = if is_depth depth then Some depth else None

-- a depth has at most 4 digits, and is from 1 to 1,000
abbrev pub depth_in : List ℕ → Option ℕ
depth_in word = option_and_then if_depth (number_in 4 word)
