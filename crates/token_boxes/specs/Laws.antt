-- What holds of all leaves, in other words.
use Rattle.std.specs.Prelude.{ℤ, pos, ◌-ℤ◌, ◌≤ℤ◌}
use Rattle.fixed_units.specs.declared.boxes.MathBox.{MathBox}

-- ink that reaches so much farther above its baseline than below it; of an odd difference the odd
-- unit is above
abbrev pub RisesBy : ℤ → MathBox → Type 0
RisesBy rise frame =
    let more = (frame.ink_ascent -ℤ frame.ink_descent) -ℤ rise in
    (pos 0 ≤ℤ more) × (more ≤ℤ pos 1)
