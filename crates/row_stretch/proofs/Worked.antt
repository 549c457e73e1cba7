-- Worked figures: the definitions compute them, and a wrong one is refused at its line.
use Rattle.std.proofs.Common.{◌≡◌, refl, ℕ, [], ◌∷◌, true, false, Some, None, ℤ, pos, neg_ℤ}
use Rattle.fixed_units.specs.Boxes.{joined}
use Rattle.fixed_units.specs.Numbers.{halved}
use Rattle.fixed_units.specs.Sums.{sum_to, list_to}
use Rattle.fixed_units.specs.declared.boxes.MathBox.{MathBox}
use Rattle.fixed_units.specs.declared.pull.Pull.{Pull}
use Rattle.fixed_units.specs.declared.pull.Pull.TheVariants.{Free, Block}
use Rattle.op_dictionary.specs.declared.operator.Axis.TheVariants.{Block as Upright}
use Rattle.row_stretch.specs.declared.parts.Ask.{Ask}
use Rattle.row_stretch.specs.declared.parts.KidPull.{KidPull}
use Rattle.row_stretch.specs.declared.parts.RowKid.{RowKid}
use Rattle.row_stretch.specs.Equation.{ahead_of, advance_of, room_of, offset_of, accent_of, row_of}
use Rattle.row_stretch.specs.Questions.{planned, asks_from, target_of, first_asks_of, second_asks_of}

-- ---- questions: a fence, a space of 16 px above the baseline, a fence
abbrev fence : KidPull
fence = record { axis = Some Upright }

abbrev plain : KidPull
plain = record { axis = None }

abbrev ask : ℕ → Pull → Ask
ask kid pull = record { kid = kid; pull = pull }

abbrev space : MathBox
space = record {
  width = pos 0;
  ascent = pos 16384;
  descent = pos 0;
  ink_ascent = pos 16384;
  ink_descent = pos 0;
  italic = pos 0;
  accent = pos 0;
}

-- first what doesn't stretch, then the fences with its ink
first-fences_and_space : first_asks_of (fence ∷ plain ∷ fence ∷ []) Free ≡ ask 1 Free ∷ []
unfolding asks_from planned
first-fences_and_space = refl

second-fences_and_space : second_asks_of (fence ∷ plain ∷ fence ∷ []) Free (space ∷ []) ≡ ask 0 (Block (pos 16384) (pos 0)) ∷ ask 2 (Block (pos 16384) (pos 0)) ∷ []
unfolding asks_from planned joined
second-fences_and_space = refl

-- nothing but fences: first with nothing, then with the largest ink of both
first-fences : first_asks_of (fence ∷ fence ∷ []) Free ≡ ask 0 (Block (pos 0) (pos 0)) ∷ ask 1 (Block (pos 0) (pos 0)) ∷ []
unfolding asks_from planned
first-fences = refl

second-fences : second_asks_of (fence ∷ fence ∷ []) Free (record space { ink_ascent = pos 12288; ink_descent = pos 4096 } ∷ record space { ink_ascent = pos 12000; ink_descent = pos 4096 } ∷ [])
    ≡ ask 0 (Block (pos 12288) (pos 4096)) ∷ ask 1 (Block (pos 12288) (pos 4096)) ∷ []
unfolding asks_from planned joined
second-fences = refl

-- under a pull of its own a row has one wave
first-pulled : first_asks_of (fence ∷ plain ∷ []) (Block (pos 5) (pos 3)) ≡ ask 0 (Block (pos 5) (pos 3)) ∷ ask 1 Free ∷ []
unfolding asks_from planned
first-pulled = refl

second-pulled : second_asks_of (fence ∷ plain ∷ []) (Block (pos 5) (pos 3)) [] ≡ []
second-pulled = refl

-- the target is ink that may lie above the baseline altogether
target-above : target_of (record space { ink_descent = neg_ℤ (pos 3712) } ∷ []) ≡ Block (pos 16384) (neg_ℤ (pos 3712))
target-above = refl

-- ---- places: 1 - x, with a minus sign of 12800 and spaces of 3641 at both ends
abbrev token : ℤ → RowKid
token width = record {
  frame = record space { width = width; ascent = pos 14400; descent = pos 4800; ink_ascent = pos 10880; accent = halved width };
  before = pos 0;
  after = pos 0;
  embellished = false;
}

abbrev minus : RowKid
minus = record (token (pos 12800)) { before = pos 3641; after = pos 3641; embellished = true }

row-one_minus_x : (row_of true (token (pos 8192) ∷ minus ∷ token (pos 9280) ∷ [])).offsets ≡ pos 0 ∷ pos 11833 ∷ pos 28274 ∷ []
unfolding offset_of room_of ahead_of advance_of sum_to list_to
row-one_minus_x = refl

width-one_minus_x : (row_of true (token (pos 8192) ∷ minus ∷ token (pos 9280) ∷ [])).frame.width ≡ pos 37554
unfolding room_of ahead_of advance_of sum_to
width-one_minus_x = refl

-- a row that is itself embellished shows no spaces
width-no_spaces : (row_of false (minus ∷ [])).frame.width ≡ pos 12800
unfolding room_of ahead_of advance_of sum_to
width-no_spaces = refl

-- a vertical bar alone in the root: 4551 at both ends, and its accent where its own is
abbrev bar : RowKid
bar = record (token (pos 4800)) { before = pos 4551; after = pos 4551; embellished = true }

row-bar : (row_of true (bar ∷ [])).offsets ≡ pos 4551 ∷ []
unfolding offset_of room_of ahead_of advance_of sum_to list_to
row-bar = refl

width-bar : (row_of true (bar ∷ [])).frame.width ≡ pos 13902
unfolding room_of ahead_of advance_of sum_to
width-bar = refl

accent-bar : (row_of true (bar ∷ [])).frame.accent ≡ pos 6951
unfolding accent_of offset_of room_of ahead_of advance_of sum_to halved
accent-bar = refl

-- two fences of 7680, without spaces of their own, round the space of no width that they cover
abbrev round_fence : RowKid
round_fence = record (token (pos 7680)) { embellished = true }

abbrev covered : RowKid
covered = record { frame = space; before = pos 0; after = pos 0; embellished = false }

row-fences_and_space : (row_of true (round_fence ∷ covered ∷ round_fence ∷ [])).offsets ≡ pos 0 ∷ pos 7680 ∷ pos 7680 ∷ []
unfolding offset_of room_of ahead_of advance_of sum_to list_to
row-fences_and_space = refl

width-fences_and_space : (row_of true (round_fence ∷ covered ∷ round_fence ∷ [])).frame.width ≡ pos 15360
unfolding room_of ahead_of advance_of sum_to
width-fences_and_space = refl

-- the italic correction stands ahead of what follows, and that of the last child is the row's
row-italic : (row_of true (record (token (pos 14400)) { frame = record (token (pos 14400)).frame { italic = pos 4800 } } ∷ token (pos 8192) ∷ [])).offsets ≡ pos 0 ∷ pos 19200 ∷ []
unfolding offset_of room_of ahead_of advance_of sum_to list_to
row-italic = refl

row-empty : row_of true [] ≡ record { frame = record space { ascent = pos 0; ink_ascent = pos 0 }; offsets = [] }
unfolding accent_of room_of sum_to list_to halved
row-empty = refl
