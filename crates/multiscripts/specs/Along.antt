-- Where pairs of scripts stand along the line: prescripts before their base, and the others behind
-- it. Each pair has a room of its own, as wide as its scripts reach, and the space after scripts:
-- ahead of the room of prescripts, and behind that of others.
use Rattle.std.specs.Prelude.{ℕ, ℤ, pos, ◌+ℤ◌, ◌-ℤ◌, Bool, if◌then◌else◌, false, List, take, slice_index_or}
use Rattle.std.specs.Int.{int_max}
use Rattle.std.specs.List.{list_all}
use Rattle.fixed_units.specs.Boxes.{IsStored, farthest, empty_box}
use Rattle.fixed_units.specs.Numbers.{IsWithin}
use Rattle.fixed_units.specs.Sums.{sum_to, list_to}
use Rattle.fixed_units.specs.declared.boxes.MathBox.{MathBox}
use Rattle.multiscripts.specs.declared.along.Lean.{Lean}
use Rattle.multiscripts.specs.declared.along.Line.{Line}
use Rattle.multiscripts.specs.declared.parts.Pair.{Pair}
use Rattle.scripts.specs.Beside.{spot}
use Rattle.scripts.specs.declared.parts.Spot.{Spot}

-- ---- one pair

-- the italic correction of a base moves the first pair behind it: of a large operator the subscript
-- back, of any other base the superscript farther
unfoldable pub base_lean_of : MathBox → Bool → Lean
base_lean_of base large =
    if large then record { back = base.italic; forth = pos 0 } else record {
      back = pos 0;
      forth = base.italic;
    }

abbrev pub upright : Lean
upright = record { back = pos 0; forth = pos 0 }

-- where the two begin in their room: prescripts end together, the others begin together but for the
-- lean
unfoldable pub sub_start_of : Lean → Pair → ℤ
sub_start_of lean pair = if pair.before then int_max pair.sub.width pair.sup.width
    -ℤ pair.sub.width else pos 0 -ℤ lean.back

unfoldable pub sup_start_of : Lean → Pair → ℤ
sup_start_of lean pair = if pair.before then int_max pair.sub.width pair.sup.width
    -ℤ pair.sup.width else lean.forth

-- how far they reach in it
unfoldable pub room_of : Lean → Pair → ℤ
room_of lean pair = int_max (sub_start_of lean pair +ℤ pair.sub.width) (sup_start_of lean pair
    +ℤ pair.sup.width)

-- ---- all pairs, each at its place in their list

abbrev pub is_before : Pair → Bool
is_before pair = pair.before

abbrev pub no_pair : Pair
no_pair = record { sub = empty_box; sup = empty_box; before = false }

abbrev pub pair_at : List Pair → ℕ → Pair
pair_at pairs place = slice_index_or pairs place no_pair

-- the base leans over no pair but the first one behind it
unfoldable pub lean_at : MathBox → Bool → List Pair → ℕ → Lean
lean_at base large pairs place = if list_all is_before (take place pairs) then base_lean_of base
    large else upright

-- what the pair at a place takes, with the space
abbrev pub taken_at : ℤ → MathBox → Bool → List Pair → ℕ → ℤ
taken_at space base large pairs place = space
    +ℤ room_of (lean_at base large pairs place) (pair_at pairs place)

-- what the first n pairs take before the base
unfoldable pub ahead_of : ℤ → MathBox → Bool → List Pair → ℕ → ℤ
ahead_of space base large pairs n =
    sum_to n (λ place. if (pair_at pairs place).before then taken_at space base large pairs place
    else pos 0)

-- and behind it
unfoldable pub behind_of : ℤ → MathBox → Bool → List Pair → ℕ → ℤ
behind_of space base large pairs n =
    sum_to n (λ place. if (pair_at pairs place).before then pos 0 else taken_at space base large
    pairs place)

-- both, and the lean over what follows
abbrev pub line_at : ℤ → MathBox → Bool → List Pair → ℕ → Line
line_at space base large pairs n = record {
  ahead = ahead_of space base large pairs n;
  behind = behind_of space base large pairs n;
  lean = lean_at base large pairs n;
}

-- the line with one pair more
unfoldable pub past_of : ℤ → Line → Pair → Line
past_of space line pair =
    let taken = space +ℤ room_of line.lean pair in
    if pair.before then record line { ahead = line.ahead +ℤ taken }
    else record line { behind = line.behind +ℤ taken; lean = upright }

-- where the room of the next pair begins, with the base's end there
unfoldable pub room_x_of : ℤ → ℤ → Line → Pair → ℤ
room_x_of space end line pair = if pair.before then line.ahead +ℤ space else end +ℤ line.behind

-- where the scripts of the pair at a place begin, with the base's end there
abbrev pub sub_x_at : ℤ → ℤ → MathBox → Bool → List Pair → ℕ → ℤ
sub_x_at space end base large pairs place =
    room_x_of space end (line_at space base large pairs place) (pair_at pairs place)
    +ℤ sub_start_of (lean_at base large pairs place) (pair_at pairs place)

abbrev pub sup_x_at : ℤ → ℤ → MathBox → Bool → List Pair → ℕ → ℤ
sup_x_at space end base large pairs place =
    room_x_of space end (line_at space base large pairs place) (pair_at pairs place)
    +ℤ sup_start_of (lean_at base large pairs place) (pair_at pairs place)

abbrev pub sub_spots_of : ℤ → ℤ → MathBox → Bool → List Pair → ℤ → ℕ → List Spot
sub_spots_of space end base large pairs down n = list_to n
    (λ place. spot (sub_x_at space end base large pairs place) down)

abbrev pub sup_spots_of : ℤ → ℤ → MathBox → Bool → List Pair → ℤ → ℕ → List Spot
sup_spots_of space end base large pairs up n = list_to n
    (λ place. spot (sup_x_at space end base large pairs place) (pos 0 -ℤ up))

-- ---- how far they reach
pub record IsPairStored (pair : Pair) : Type 0 where
  pub sub : IsStored pair.sub
  pub sup : IsStored pair.sup

pub record IsLeanWithin (m : ℕ) (lean : Lean) : Type 0 where
  pub back : IsWithin m lean.back
  pub forth : IsWithin m lean.forth

pub record IsLineWithin (m : ℕ) (line : Line) : Type 0 where
  pub ahead : IsWithin m line.ahead
  pub behind : IsWithin m line.behind
  pub lean : IsLeanWithin farthest line.lean
