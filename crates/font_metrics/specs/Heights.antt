-- The heights of a kern.
use Rattle.std.specs.Prelude.{ℤ, int_lt, Bool, true, ◌&&◌, List, [], ◌∷◌, map}
use Rattle.font_metrics.specs.declared.kern.Kern.{Kern}

abbrev pub heights_of : Kern → List ℤ
heights_of kern = map (λ step. step.height) kern.steps

-- each is above the one before it
abbrev pub do_rise : List ℤ → Bool
do_rise [] = true
do_rise (height ∷ []) = true
do_rise (height ∷ next ∷ more) = int_lt height next && do_rise (next ∷ more)
