-- Where no child stretches, nothing is asked in the second wave, but of a table.
use Rattle.std.proofs.Common.{◌≡◌, ap, refl, ℕ, ◌+◌, true, false, not, Bool, List, [], ◌∷◌, Option, Some, None, is_none, ◌&&◌}
use Rattle.std.specs.List.{list_all}
use Rattle.fixed_units.specs.declared.boxes.MathBox.{MathBox}
use Rattle.fixed_units.specs.declared.pull.Pull.{Pull}
use Rattle.fixed_units.specs.declared.pull.Pull.TheVariants.{Free, Block, Inline}
use Rattle.font_metrics.specs.Metrics.{MetricsValue}
use Rattle.op_dictionary.specs.declared.operator.Axis.{Axis}
use Rattle.op_dictionary.specs.declared.operator.Axis.TheVariants.{Block as Upright, Inline as Sideways}
use Rattle.embellished.specs.Seen.{Seen}
use Rattle.row_stretch.specs.Questions.{asks_from, is_along, planned, row_second}
use Rattle.row_stretch.specs.declared.asking.Plan.{Plan}
use Rattle.row_stretch.specs.declared.parts.KidPull.{KidPull}
use Rattle.layout_model.specs.Contexts.{pull_of}
use Rattle.layout_model.specs.Questions.{asked_all, asking, kid_pulls, second, second_as, second_asks}
use Rattle.layout_model.specs.declared.asking.Asking.{Asking}
use Rattle.layout_model.specs.declared.asking.Asking.TheVariants.{Nothing, Plainly, ForTheBase, AsRow, AsLimits, AsTable}
use Rattle.layout_model.specs.declared.context.Context.{Context}
use Rattle.layout_model.specs.declared.outcome.Answer.{Answer}
use Rattle.child_questions.specs.Surveys.{has_one_wave, is_as_table, survey_of}

-- a child that stretches along no axis
abbrev pub rests : KidPull → Bool
rests kid = is_none kid.axis

along_none : (axis : Axis) (kid : Option Axis) → is_none kid ≡ true → is_along axis kid ≡ false
along_none Upright None h = refl
along_none Sideways None h = refl
along_none axis (Some other) h = cc

both_true : (one two : Bool) → (one && two) ≡ true → (one ≡ true) × (two ≡ true)
both_true true two h = (refl, h)
both_true false two h = cc

none_asked : (place : ℕ) (plan : Plan) (kids : List KidPull) → plan.others ≡ None → list_all rests kids ≡ true → asks_from place plan kids ≡ []
unfolding asks_from planned
none_asked place plan [] e h = refl
none_asked place plan (kid ∷ kids) e h =
    let both = both_true (rests kid) (list_all rests kids) h in
    let first : planned plan kid ≡ None = rw (along_none plan.axis kid.axis both.0) e in
    rw first (none_asked (place + 1) plan kids e both.1)

rows_none : (kids : List KidPull) (own : Pull) (first : List MathBox) → list_all rests kids ≡ true → second_asks AsRow kids own first ≡ []
unfolding second_asks
rows_none kids Free first h = none_asked 0 (row_second first) kids refl h
rows_none kids (Block ascent descent) first h = refl
rows_none kids (Inline width) first h = refl

limits_none : (kids : List KidPull) (own : Pull) (first : List MathBox) → list_all rests kids ≡ true → second_asks AsLimits kids own first ≡ []
unfolding second_asks
limits_none kids (Inline width) first h = refl
limits_none kids Free first h = none_asked 0 _ kids refl h
limits_none [] (Block ascent descent) first h = refl
limits_none (base ∷ others) (Block ascent descent) first h = none_asked 1 _ others refl (both_true (rests base) (list_all rests others) h).1

-- where no child stretches, an element but a table has no further questions
pub none_second : (how : Asking) (m : MetricsValue) (seen : Seen) (context : Context) (answers : List Answer)
    → (other : how ≡ AsTable → ⊥) → list_all rests (kid_pulls m seen context) ≡ true → second_as how m seen context answers ≡ []
unfolding second_asks
none_second AsTable m seen context answers other h = absurd (other refl)
none_second Nothing m seen context answers other h = refl
none_second Plainly m seen context answers other h = refl
none_second ForTheBase m seen context answers other h = refl
none_second AsRow m seen context answers other h = ap (asked_all m seen context) (rows_none (kid_pulls m seen context) (pull_of context.stretch) _ h)
none_second AsLimits m seen context answers other h = ap (asked_all m seen context) (limits_none (kid_pulls m seen context) (pull_of context.stretch) _ h)

no_table : (how : Asking) → not (is_as_table how) ≡ true → how ≡ AsTable → ⊥
no_table how h e = let is : is_as_table how ≡ true = ap is_as_table e in cc

-- what an element with one wave asks in the second
pub one_wave : (m : MetricsValue) (seen : Seen) (context : Context) (answers : List Answer) → has_one_wave (survey_of m seen context) ≡ true → second m seen context answers ≡ []
unfolding second
one_wave m seen context answers h =
    let both = both_true (not (is_as_table (asking m seen context))) (list_all rests (kid_pulls m seen context)) h in
    none_second (asking m seen context) m seen context answers (no_table (asking m seen context) both.0) both.1
