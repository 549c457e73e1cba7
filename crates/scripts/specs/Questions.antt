-- What an element with limits asks of its children, in two waves: they stretch to the sides.
use Rattle.std.specs.Prelude.{ℤ, pos, List, [], ◌∷◌, fold, map, Some, None}
use Rattle.std.specs.Int.{int_max}
use Rattle.fixed_units.specs.declared.boxes.MathBox.{MathBox}
use Rattle.fixed_units.specs.declared.pull.Pull.{Pull}
use Rattle.fixed_units.specs.declared.pull.Pull.TheVariants.{Free, Block, Inline}
use Rattle.op_dictionary.specs.declared.operator.Axis.TheVariants.{Inline as Sideways}
use Rattle.row_stretch.specs.declared.asking.Plan.{Plan}
use Rattle.row_stretch.specs.declared.parts.Ask.{Ask}
use Rattle.row_stretch.specs.declared.parts.KidPull.{KidPull}
use Rattle.row_stretch.specs.Questions.{asks_from, under, first_of_two, second_of_two}

-- the largest width; without boxes, 0
abbrev pub widest_of : List MathBox → ℤ
widest_of [] = pos 0
widest_of (frame ∷ frames) = fold int_max frame.width (map (λ next. next.width) frames)

-- those that don't stretch
abbrev pub rest : Plan
rest = record { axis = Sideways; stretching = None; others = Some Free }

-- a pull up and down goes to the base, which counts as a child that doesn't stretch to the sides
abbrev pub first_limit_asks_of : List KidPull → Pull → List Ask
first_limit_asks_of kids (Inline width) = asks_from 0 (under Sideways (Inline width)) kids
first_limit_asks_of kids Free = asks_from 0 (first_of_two kids Sideways (Inline (pos 0))) kids
first_limit_asks_of [] (Block ascent descent) = []
first_limit_asks_of (base ∷ others) (Block ascent descent) =
    record { kid = 0; pull = Block ascent descent } ∷ asks_from 1 rest others

-- under a pull to the sides all are asked already
abbrev pub second_limit_asks_of : List KidPull → Pull → List MathBox → List Ask
second_limit_asks_of kids (Inline width) first = []
second_limit_asks_of kids Free first = asks_from 0
    (second_of_two Sideways (Inline (widest_of first))) kids
second_limit_asks_of [] (Block ascent descent) first = []
second_limit_asks_of (base ∷ others) (Block ascent descent) first =
    asks_from 1 (second_of_two Sideways (Inline (widest_of first))) others
