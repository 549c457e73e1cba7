-- Worked figures: which surveys tell that there is no second wave.
use Rattle.std.proofs.Common.{◌≡◌, refl, [], ◌∷◌, true, false, Option, Some, None}
use Rattle.op_dictionary.specs.declared.operator.Axis.{Axis}
use Rattle.op_dictionary.specs.declared.operator.Axis.TheVariants.{Block}
use Rattle.row_stretch.specs.declared.parts.KidPull.{KidPull}
use Rattle.layout_model.specs.declared.asking.Asking.{Asking}
use Rattle.layout_model.specs.declared.asking.Asking.TheVariants.{AsRow, AsTable}
use Rattle.child_questions.specs.Surveys.{has_one_wave}
use Rattle.child_questions.specs.declared.survey.Survey.{Survey}

abbrev kid : Option Axis → KidPull
kid axis = record { axis = axis }

-- two children, the second of which may stretch
abbrev surveyed : Asking → Option Axis → Survey
surveyed way axis = record { asking = way; fences = record { first = 0; end = 2 }; pulls = kid None ∷ kid axis ∷ []; accent = false; accentunder = false }

-- a row of two letters has one wave, a row with a fence has two, and so has a table
row_of_letters : has_one_wave (surveyed AsRow None) ≡ true
row_of_letters = refl

row_with_a_fence : has_one_wave (surveyed AsRow (Some Block)) ≡ false
row_with_a_fence = refl

table : has_one_wave (surveyed AsTable None) ≡ false
table = refl
