-- What stretches children can be stored, where the element's own stretch and the answers can.
use Rattle.std.proofs.Common.{◌≡◌, refl, sym, ap, subst, ℕ, zero, suc, ◌+◌, arith, Bool, true, false, cond, List, [], ◌∷◌, length, map, fold, All, Option, Some, None, ℤ, pos}
use Rattle.std.proofs.lemmas.List.Elements.{All-append, All-cons, All-head, All-map, All-nil, All-tail}
use Rattle.std.specs.Int.{int_max}
use Rattle.std.specs.Prelude.{⊤}
use Rattle.std.specs.List.{AllPass, list_all}
use Rattle.fixed_units.specs.Boxes.{IsStored, farthest}
use Rattle.fixed_units.specs.Numbers.{IsWithin}
use Rattle.fixed_units.specs.Sums.{list_to}
use Rattle.fixed_units.specs.declared.boxes.MathBox.{MathBox}
use Rattle.fixed_units.specs.declared.pull.Pull.{Pull}
use Rattle.fixed_units.specs.declared.pull.Pull.TheVariants.{Free, Block, Inline}
use Rattle.fixed_units.proofs.Unions.{all_joined_in}
use Rattle.fixed_units.proofs.Within.{max_in, natural_in, widened}
use Rattle.font_metrics.specs.Metrics.{MetricsValue}
use Rattle.embellished.specs.Seen.{Seen}
use Rattle.row_stretch.specs.Questions.{ask_of, asks_from, first_of_two, planned, row_second, stretches, target_of}
use Rattle.row_stretch.specs.declared.asking.Plan.{Plan}
use Rattle.row_stretch.specs.declared.parts.Ask.{Ask}
use Rattle.row_stretch.specs.declared.parts.KidPull.{KidPull}
use Rattle.op_dictionary.specs.declared.operator.Axis.{Axis}
use Rattle.op_dictionary.specs.declared.operator.Axis.TheVariants.{Block as Upwards, Inline as Along}
use Rattle.scripts.specs.Questions.{first_limit_asks_of, rest, second_limit_asks_of, widest_of}
use Rattle.layout_model.specs.Contexts.{pull_of, stretch_of}
use Rattle.layout_model.specs.Fits.{AreAnswers, IsStretch}
use Rattle.layout_model.specs.Questions.{asked, asking, first, first_asks, kid_pulls, row_asked, second, second_as, second_asks, unstretched}
use Rattle.layout_model.specs.Range.{answer_fits}
use Rattle.layout_model.specs.declared.asking.Asking.{Asking}
use Rattle.layout_model.specs.declared.asking.Asking.TheVariants.{Nothing, Plainly, ForTheBase, AsRow, AsLimits, AsTable}
use Rattle.layout_model.specs.declared.context.Context.{Context}
use Rattle.layout_model.specs.declared.context.Question.{Question}
use Rattle.layout_model.specs.declared.context.Stretch.{Stretch}
use Rattle.layout_model.specs.declared.context.Stretch.TheVariants.{None as Unstretched, Block as Upright, Inline as Sideways, Columns, Slots}
use Rattle.layout_model.specs.declared.outcome.Answer.{Answer}
use Rattle.layout_model.proofs.Ranges.{answers_stored}
use Rattle.layout_model.proofs.TableCells.{row_stretch_stored}

-- ---- pulls

abbrev pub IsPulled : Pull → Type 0
IsPulled Free = ⊤
IsPulled (Block ascent descent) = IsWithin farthest ascent × IsWithin farthest descent
IsPulled (Inline width) = IsWithin farthest width

abbrev IsAskStored : Ask → Type 0
IsAskStored ask = IsPulled ask.pull

abbrev IsPlanned : Option Pull → Type 0
IsPlanned None = ⊤
IsPlanned (Some pull) = IsPulled pull

pub pull_stored : (stretch : Stretch) → IsStretch stretch → IsPulled (pull_of stretch)
unfolding pull_of
pull_stored Unstretched h = tt
pull_stored (Upright ascent descent) h = h
pull_stored (Sideways width) h = h
pull_stored (Columns widths) h = tt
pull_stored (Slots numbers) h = tt

pub stretch_stored : (pull : Pull) → IsPulled pull → IsStretch (stretch_of pull)
unfolding stretch_of
stretch_stored Free h = tt
stretch_stored (Block ascent descent) h = h
stretch_stored (Inline width) h = h

zero_stored : IsWithin farthest (pos 0)
zero_stored = widened farthest (natural_in 0) (omega arith)

-- ---- asks

ask_stored : (place : ℕ) (pull : Option Pull) → IsPlanned pull → All IsAskStored (ask_of place pull)
ask_stored place None h = All-nil IsAskStored
ask_stored place (Some pull) h = All-cons IsAskStored (record { kid = place; pull = pull }) [] h (All-nil IsAskStored)

planned_stored : (plan : Plan) (kid : KidPull) → IsPlanned plan.stretching → IsPlanned plan.others → IsPlanned (planned plan kid)
unfolding planned
planned_stored plan kid s o = by (stretches plan.axis kid)
  where
    by : (b : Bool) → IsPlanned (cond b plan.stretching plan.others)
    by true = s
    by false = o

asks_stored : (place : ℕ) (plan : Plan) (kids : List KidPull) → IsPlanned plan.stretching → IsPlanned plan.others → All IsAskStored (asks_from place plan kids)
unfolding asks_from
asks_stored place plan [] s o = All-nil IsAskStored
asks_stored place plan (kid ∷ kids) s o =
    All-append IsAskStored (ask_of place (planned plan kid)) (asks_from (place + 1) plan kids)
    (ask_stored place (planned plan kid) (planned_stored plan kid s o)) (asks_stored (place + 1) plan kids s o)

-- the plan of a first wave, where it is known whether all children stretch
abbrev pub first_plan : Axis → Pull → Bool → Plan
first_plan axis least true = record { axis = axis; stretching = Some least; others = None }
first_plan axis least false = record { axis = axis; stretching = None; others = Some Free }

pub plan_is : (axis : Axis) (least : Pull) (kids : List KidPull) (b : Bool) → list_all (stretches axis) kids ≡ b
    → first_of_two kids axis least ≡ first_plan axis least b
plan_is axis least kids true e = ap (λ (all : Bool). cond all (first_plan axis least true) (first_plan axis least false)) e
plan_is axis least kids false e = ap (λ (all : Bool). cond all (first_plan axis least true) (first_plan axis least false)) e

two_stored : (kids : List KidPull) (axis : Axis) (least : Pull) → IsPulled least → All IsAskStored (asks_from 0 (first_of_two kids axis least) kids)
two_stored kids axis least h = by (list_all (stretches axis) kids) refl
  where
    by : (b : Bool) → list_all (stretches axis) kids ≡ b → All IsAskStored (asks_from 0 (first_of_two kids axis least) kids)
    by true e = subst (λ (plan : Plan). All IsAskStored (asks_from 0 plan kids)) (sym (plan_is axis least kids true e)) (asks_stored 0 (first_plan axis least true) kids h tt)
    by false e = subst (λ (plan : Plan). All IsAskStored (asks_from 0 plan kids)) (sym (plan_is axis least kids false e)) (asks_stored 0 (first_plan axis least false) kids tt tt)

base_stored : (kids : List KidPull) (own : Pull) → IsPulled own → All IsAskStored (first_asks ForTheBase kids own)
unfolding first_asks
base_stored [] own h = All-nil IsAskStored
base_stored (base ∷ others) own h =
    All-cons IsAskStored (record { kid = 0; pull = own }) (asks_from 1 unstretched others) h (asks_stored 1 unstretched others tt tt)

row_stored : (kids : List KidPull) (own : Pull) → IsPulled own → All IsAskStored (first_asks AsRow kids own)
unfolding first_asks
row_stored kids Free h = two_stored kids Upwards (Block (pos 0) (pos 0)) (zero_stored, zero_stored)
row_stored kids (Block ascent descent) h = asks_stored 0 _ kids h tt
row_stored kids (Inline width) h = asks_stored 0 _ kids h tt

limits_stored : (kids : List KidPull) (own : Pull) → IsPulled own → All IsAskStored (first_limit_asks_of kids own)
limits_stored kids (Inline width) h = asks_stored 0 _ kids h tt
limits_stored kids Free h = two_stored kids Along (Inline (pos 0)) zero_stored
limits_stored [] (Block ascent descent) h = All-nil IsAskStored
limits_stored (base ∷ others) (Block ascent descent) h =
    All-cons IsAskStored (record { kid = 0; pull = Block ascent descent }) (asks_from 1 rest others) h (asks_stored 1 rest others tt tt)

first_asks_stored : (how : Asking) (kids : List KidPull) (own : Pull) → IsPulled own → All IsAskStored (first_asks how kids own)
unfolding first_asks
first_asks_stored Nothing kids own h = All-nil IsAskStored
first_asks_stored Plainly kids own h = asks_stored 0 unstretched kids tt tt
first_asks_stored ForTheBase kids own h = base_stored kids own h
first_asks_stored AsRow kids own h = row_stored kids own h
first_asks_stored AsLimits kids own h = limits_stored kids own h
first_asks_stored AsTable kids own h = asks_stored 0 unstretched kids tt tt

-- ---- asks over answers

target_stored : (frames : List MathBox) → All IsStored frames → IsPulled (target_of frames)
target_stored frames all = let joined = all_joined_in farthest frames all in (joined.ink_ascent, joined.ink_descent)

widths_in : (width : ℤ) (frames : List MathBox) → IsWithin farthest width → All IsStored frames
    → IsWithin farthest (fold int_max width (map (λ (next : MathBox). next.width) frames))
widths_in width [] p all = p
widths_in width (next ∷ frames) p all =
    widths_in (int_max width next.width) frames (widened farthest (max_in p (All-head IsStored next frames all).width) (omega arith)) (All-tail IsStored next frames all)

widest_stored : (frames : List MathBox) → All IsStored frames → IsWithin farthest (widest_of frames)
widest_stored [] all = zero_stored
widest_stored (frame ∷ frames) all = widths_in frame.width frames (All-head IsStored frame frames all).width (All-tail IsStored frame frames all)

second_row_stored : (kids : List KidPull) (own : Pull) (frames : List MathBox) → All IsStored frames → All IsAskStored (second_asks AsRow kids own frames)
unfolding second_asks
second_row_stored kids Free frames all = asks_stored 0 (row_second frames) kids (target_stored frames all) tt
second_row_stored kids (Block ascent descent) frames all = All-nil IsAskStored
second_row_stored kids (Inline width) frames all = All-nil IsAskStored

second_limits_stored : (kids : List KidPull) (own : Pull) (frames : List MathBox) → All IsStored frames → All IsAskStored (second_limit_asks_of kids own frames)
second_limits_stored kids (Inline width) frames all = All-nil IsAskStored
second_limits_stored kids Free frames all = asks_stored 0 _ kids (widest_stored frames all) tt
second_limits_stored [] (Block ascent descent) frames all = All-nil IsAskStored
second_limits_stored (base ∷ others) (Block ascent descent) frames all = asks_stored 1 _ others (widest_stored frames all) tt

second_asks_stored : (how : Asking) (kids : List KidPull) (own : Pull) (frames : List MathBox) → All IsStored frames → All IsAskStored (second_asks how kids own frames)
unfolding second_asks
second_asks_stored AsRow kids own frames all = second_row_stored kids own frames all
second_asks_stored AsLimits kids own frames all = second_limits_stored kids own frames all
second_asks_stored Nothing kids own frames all = All-nil IsAskStored
second_asks_stored Plainly kids own frames all = All-nil IsAskStored
second_asks_stored ForTheBase kids own frames all = All-nil IsAskStored
second_asks_stored AsTable kids own frames all = All-nil IsAskStored

-- ---- questions

abbrev pub IsQuestionStored : Question → Type 0
IsQuestionStored question = IsStretch question.context.stretch

frames_stored : (answers : List Answer) → AllPass answer_fits answers → All IsStored (map (λ (answer : Answer). answer.frame) answers)
frames_stored answers fit = All-map IsStored (λ (answer : Answer). answer.frame) answers (λ k d l. (answers_stored answers fit k d l).frame)

module _ (m : MetricsValue) (seen : Seen) (context : Context) where
  asked_stored : (asks : List Ask) → All IsAskStored asks → All IsQuestionStored (map (asked m seen context) asks)
  asked_stored asks h = All-map IsQuestionStored (asked m seen context) asks (λ k d l. stretch_stored _ (h k d l))

  pub first_stored : IsStretch context.stretch → All IsQuestionStored (first m seen context)
  unfolding first
  first_stored h = asked_stored _ (first_asks_stored (asking m seen context) (kid_pulls m seen context) _ (pull_stored context.stretch h))

  rows_stored : (rows : List Answer) → AreAnswers rows → (n : ℕ) → All IsQuestionStored (list_to n (row_asked m seen context rows))
  unfolding list_to
  rows_stored rows fit zero = All-nil IsQuestionStored
  rows_stored rows fit (suc n) =
      All-append IsQuestionStored (list_to n (row_asked m seen context rows)) (row_asked m seen context rows n ∷ [])
      (rows_stored rows fit n)
      (All-cons IsQuestionStored (row_asked m seen context rows n) [] (row_stretch_stored rows fit n) (All-nil IsQuestionStored))

  second_as_stored : (how : Asking) (answers : List Answer) → AreAnswers answers → All IsQuestionStored (second_as how m seen context answers)
  second_as_stored AsTable answers fit = rows_stored answers fit (length seen.kids)
  second_as_stored Nothing answers fit = asked_stored _ (second_asks_stored Nothing (kid_pulls m seen context) _ _ (frames_stored answers fit.fit))
  second_as_stored Plainly answers fit = asked_stored _ (second_asks_stored Plainly (kid_pulls m seen context) _ _ (frames_stored answers fit.fit))
  second_as_stored ForTheBase answers fit = asked_stored _ (second_asks_stored ForTheBase (kid_pulls m seen context) _ _ (frames_stored answers fit.fit))
  second_as_stored AsRow answers fit = asked_stored _ (second_asks_stored AsRow (kid_pulls m seen context) _ _ (frames_stored answers fit.fit))
  second_as_stored AsLimits answers fit = asked_stored _ (second_asks_stored AsLimits (kid_pulls m seen context) _ _ (frames_stored answers fit.fit))

  pub second_stored : (answers : List Answer) → AreAnswers answers → All IsQuestionStored (second m seen context answers)
  unfolding second
  second_stored answers fit = second_as_stored (asking m seen context) answers fit
