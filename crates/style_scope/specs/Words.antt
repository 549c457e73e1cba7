-- What the attributes of styles say: directions and levels.
use Rattle.std.specs.Prelude.{ℕ, ◌+◌, ◌-◌, Bool, true, false, ◌&&◌, nat_eq, nat_le, if◌then◌else◌, List, [], ◌∷◌, length, codes, Option, Some, None}
use Rattle.std.specs.Char.{is_ascii_digit}
use Rattle.std.specs.List.{list_all}
use Rattle.std.specs.Option.{option_map}
use Rattle.std.specs.Str.Parse.{digits_value}
use Rattle.css_lengths.specs.Lengths.{plus, minus}
use Rattle.fixed_units.specs.Words.{is_word}

-- whether a direction is from right to left
unfoldable pub direction_of_word : List ℕ → Option Bool
direction_of_word value =
    if is_word value (codes "rtl") then Some true
    else if is_word value (codes "ltr") then Some false
    else None

-- a number of one to three digits
unfoldable pub number_of : List ℕ → Option ℕ
number_of text =
    if nat_le 1 (length text) && nat_le (length text) 3 && list_all is_ascii_digit text
    then Some (digits_value 10 text)
    else None

-- the depth that a level gives: its number, or the parent's depth plus or minus its number
unfoldable pub level_of : ℕ → List ℕ → Option ℕ
level_of parent_depth [] = None
level_of parent_depth (b ∷ bs) =
    if nat_eq b plus then option_map (λ n. parent_depth + n) (number_of bs)
    else if nat_eq b minus then option_map (λ n. parent_depth - n) (number_of bs)
    else number_of (b ∷ bs)
