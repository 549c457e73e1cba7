-- What a row asks of its children, in two waves: which child is laid out with which pull.
use Rattle.std.specs.Prelude.{ℕ, ◌+◌, pos, Bool, true, false, if◌then◌else◌, List, [], ◌∷◌, ◌++◌, Option, Some, None}
use Rattle.std.specs.List.{list_all}
use Rattle.fixed_units.specs.Boxes.{all_joined}
use Rattle.fixed_units.specs.declared.boxes.MathBox.{MathBox}
use Rattle.fixed_units.specs.declared.pull.Pull.{Pull}
use Rattle.fixed_units.specs.declared.pull.Pull.TheVariants.{Free, Block, Inline}
use Rattle.op_dictionary.specs.declared.operator.Axis.{Axis}
use Rattle.op_dictionary.specs.declared.operator.Axis.TheVariants.{Block as Upright, Inline as Sideways}
use Rattle.row_stretch.specs.declared.asking.Plan.{Plan}
use Rattle.row_stretch.specs.declared.parts.Ask.{Ask}
use Rattle.row_stretch.specs.declared.parts.KidPull.{KidPull}

-- ---- one wave

abbrev pub is_along : Axis → Option Axis → Bool
is_along Upright (Some Upright) = true
is_along Sideways (Some Sideways) = true
is_along axis other = false

-- whether a child stretches along an axis
abbrev pub stretches : Axis → KidPull → Bool
stretches axis kid = is_along axis kid.axis

-- with what a wave asks a child
unfoldable pub planned : Plan → KidPull → Option Pull
planned plan kid = if stretches plan.axis kid then plan.stretching else plan.others

abbrev pub ask_of : ℕ → Option Pull → List Ask
ask_of place None = []
ask_of place (Some pull) = record { kid = place; pull = pull } ∷ []

-- what a wave asks of children in their order, where the first stands at that place
unfoldable pub asks_from : ℕ → Plan → List KidPull → List Ask
asks_from place plan [] = []
asks_from place plan (kid ∷ kids) = ask_of place (planned plan kid)
    ++ asks_from (place + 1) plan kids

-- ---- which waves there are

-- under a pull along the axis there is one wave: who stretches along it is asked with it, and the
-- others without
abbrev pub under : Axis → Pull → Plan
under axis pull = record { axis = axis; stretching = Some pull; others = Some Free }

-- else those that don't stretch come first; where there is no such child, all are asked with the
-- least pull
abbrev pub first_of_two : List KidPull → Axis → Pull → Plan
first_of_two kids axis least =
    if list_all (stretches axis) kids
    then record { axis = axis; stretching = Some least; others = None }
    else record { axis = axis; stretching = None; others = Some Free }

-- and then those that do
abbrev pub second_of_two : Axis → Pull → Plan
second_of_two axis pull = record { axis = axis; stretching = Some pull; others = None }

-- ---- a row, whose children stretch upward and downward

-- the largest ink ascent and the largest ink descent
abbrev pub target_of : List MathBox → Pull
target_of first = Block (all_joined first).ink_ascent (all_joined first).ink_descent

abbrev pub row_first : List KidPull → Pull → Plan
row_first kids Free = first_of_two kids Upright (Block (pos 0) (pos 0))
row_first kids (Block ascent descent) = under Upright (Block ascent descent)
row_first kids (Inline width) = under Sideways (Inline width)

abbrev pub row_second : List MathBox → Plan
row_second first = second_of_two Upright (target_of first)

abbrev pub first_asks_of : List KidPull → Pull → List Ask
first_asks_of kids own = asks_from 0 (row_first kids own) kids

-- under a pull all are asked already
abbrev pub second_asks_of : List KidPull → Pull → List MathBox → List Ask
second_asks_of kids Free first = asks_from 0 (row_second first) kids
second_asks_of kids own first = []
