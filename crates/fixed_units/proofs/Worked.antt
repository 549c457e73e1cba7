-- Worked figures: the definitions compute them, and a wrong one is refused at its line.
use Rattle.std.proofs.Common.{◌≡◌, refl, ◌+◌, ◌*◌, pos, neg_ℤ, ◌*ℤ◌, [], ◌∷◌}
use Rattle.fixed_units.specs.Boxes.{raised, joined, all_joined}
use Rattle.fixed_units.specs.Numbers.{rounded, halved}
use Rattle.fixed_units.specs.Sums.{sum_to, list_to}
use Rattle.fixed_units.specs.declared.boxes.MathBox.{MathBox}

-- a tie goes to the larger number
pub rounded-one_half : rounded (pos 1) (pos 2) ≡ pos 1
unfolding rounded
rounded-one_half = refl

pub rounded-minus_one_half : rounded (neg_ℤ (pos 1)) (pos 2) ≡ pos 0
unfolding rounded
rounded-minus_one_half = refl

pub rounded-three_halves : rounded (pos 3) (pos 2) ≡ pos 2
unfolding rounded
rounded-three_halves = refl

pub rounded-minus_three_halves : rounded (neg_ℤ (pos 3)) (pos 2) ≡ neg_ℤ (pos 1)
unfolding rounded
rounded-minus_three_halves = refl

-- an ink ascent of 680 in 1024 units to the em, at a font size of 16 px
pub rounded-font_value : rounded (pos 680 *ℤ pos 16384) (pos 1024) ≡ pos 10880
unfolding rounded
rounded-font_value = refl

pub halved-minus_three : halved (neg_ℤ (pos 3)) ≡ neg_ℤ (pos 2)
unfolding halved
halved-minus_three = refl

-- ---- boxes

-- the digit 1 of the sample font at 16 px, and a minus sign, whose ink lies above the baseline
abbrev one : MathBox
one = record {
  width = pos 8192;
  ascent = pos 14400;
  descent = pos 4800;
  ink_ascent = pos 10880;
  ink_descent = pos 0;
  italic = pos 0;
  accent = pos 4096;
}

abbrev minus : MathBox
minus = record one { width = pos 12800; ink_ascent = pos 4480; ink_descent = neg_ℤ (pos 3712); accent = pos 6400 }

raised-one : raised one (pos 6400) ≡ record one { ascent = pos 20800; descent = neg_ℤ (pos 1600); ink_ascent = pos 17280; ink_descent = neg_ℤ (pos 6400) }
unfolding raised
raised-one = refl

-- the width is the first one's
joined-one_minus : joined minus one ≡ record minus { ink_ascent = pos 10880; ink_descent = pos 0 }
unfolding joined
joined-one_minus = refl

-- a union of boxes that lie above the baseline does too
all_joined-minus : all_joined (minus ∷ minus ∷ []) ≡ minus
unfolding joined
all_joined-minus = refl

-- 1 + 4 + 9
sum_to-three : sum_to 3 (λ i. pos ((i + 1) * (i + 1))) ≡ pos 14
unfolding sum_to
sum_to-three = refl

list_to-three : list_to 3 (λ i. pos (i * i)) ≡ pos 0 ∷ pos 1 ∷ pos 4 ∷ []
unfolding list_to
list_to-three = refl
