-- Questions go to children in flow.
use Rattle.std.proofs.Common.{◌≡◌, ℕ, zero, suc, ◌+◌, ◌<◌, ◌≤◌, arith, List, [], ◌∷◌, length, map, All, Option, Some, None}
use Rattle.std.proofs.lemmas.List.Elements.{All-append, All-cons, All-map, All-nil}
use Rattle.fixed_units.proofs.Sums.{length-list_to}
use Rattle.fixed_units.specs.declared.boxes.MathBox.{MathBox}
use Rattle.fixed_units.specs.declared.pull.Pull.{Pull}
use Rattle.fixed_units.specs.declared.pull.Pull.TheVariants.{Free, Block, Inline}
use Rattle.fixed_units.specs.Sums.{list_to}
use Rattle.font_metrics.specs.Metrics.{MetricsValue}
use Rattle.embellished.specs.Seen.{Seen}
use Rattle.row_stretch.specs.Questions.{ask_of, asks_from, planned, row_first, row_second}
use Rattle.row_stretch.specs.declared.asking.Plan.{Plan}
use Rattle.row_stretch.specs.declared.parts.Ask.{Ask}
use Rattle.row_stretch.specs.declared.parts.KidPull.{KidPull}
use Rattle.scripts.specs.Questions.{first_limit_asks_of, second_limit_asks_of}
use Rattle.layout_model.specs.Contexts.{kid_pull}
use Rattle.layout_model.specs.Questions.{IsAskBelow, IsBelow, asked, asking, first, first_asks, kid_pulls, second, second_as, second_asks, row_asked}
use Rattle.layout_model.specs.declared.asking.Asking.{Asking}
use Rattle.layout_model.specs.declared.asking.Asking.TheVariants.{Nothing, Plainly, ForTheBase, AsRow, AsLimits, AsTable}
use Rattle.layout_model.specs.declared.context.Context.{Context}
use Rattle.layout_model.specs.declared.context.Question.{Question}
use Rattle.layout_model.specs.declared.outcome.Answer.{Answer}

-- ---- pulls

ask_below : (n place : ℕ) (pull : Option Pull) → place < n → All (IsAskBelow n) (ask_of place pull)
ask_below n place None l = All-nil (IsAskBelow n)
ask_below n place (Some pull) l = All-cons (IsAskBelow n) (record { kid = place; pull = pull }) [] l (All-nil (IsAskBelow n))

asks_below : (n place : ℕ) (plan : Plan) (kids : List KidPull) → place + length kids ≤ n → All (IsAskBelow n) (asks_from place plan kids)
unfolding asks_from
asks_below n place plan [] l = All-nil (IsAskBelow n)
asks_below n place plan (kid ∷ kids) l =
    All-append (IsAskBelow n) (ask_of place (planned plan kid)) (asks_from (place + 1) plan kids)
    (ask_below n place (planned plan kid) (omega (arith, l))) (asks_below n (place + 1) plan kids (omega (arith, l)))

base_below : (n : ℕ) (base : KidPull) (others : List KidPull) (plan : Plan) (own : Pull) → length (base ∷ others) ≡ n
    → All (IsAskBelow n) (record { kid = 0; pull = own } ∷ asks_from 1 plan others)
base_below n base others plan own e =
    All-cons (IsAskBelow n) (record { kid = 0; pull = own }) (asks_from 1 plan others) (omega (arith, e)) (asks_below n 1 plan others (omega (arith, e)))

limits_below : (n : ℕ) (kids : List KidPull) (own : Pull) → length kids ≡ n → All (IsAskBelow n) (first_limit_asks_of kids own)
limits_below n kids (Inline width) e = asks_below n 0 _ kids (omega (arith, e))
limits_below n kids Free e = asks_below n 0 _ kids (omega (arith, e))
limits_below n [] (Block ascent descent) e = All-nil (IsAskBelow n)
limits_below n (base ∷ others) (Block ascent descent) e = base_below n base others _ (Block ascent descent) e

more_limits_below : (n : ℕ) (kids : List KidPull) (own : Pull) (first : List MathBox) → length kids ≡ n
    → All (IsAskBelow n) (second_limit_asks_of kids own first)
more_limits_below n kids (Inline width) first e = All-nil (IsAskBelow n)
more_limits_below n kids Free first e = asks_below n 0 _ kids (omega (arith, e))
more_limits_below n [] (Block ascent descent) first e = All-nil (IsAskBelow n)
more_limits_below n (base ∷ others) (Block ascent descent) first e = asks_below n 1 _ others (omega (arith, e))

based_below : (n : ℕ) (kids : List KidPull) (own : Pull) → length kids ≡ n → All (IsAskBelow n) (first_asks ForTheBase kids own)
unfolding first_asks
based_below n [] own e = All-nil (IsAskBelow n)
based_below n (base ∷ others) own e = base_below n base others _ own e

pub first_asks_below : (n : ℕ) (how : Asking) (kids : List KidPull) (own : Pull) → length kids ≡ n → All (IsAskBelow n) (first_asks how kids own)
unfolding first_asks
first_asks_below n Nothing kids own e = All-nil (IsAskBelow n)
first_asks_below n Plainly kids own e = asks_below n 0 _ kids (omega (arith, e))
first_asks_below n ForTheBase kids own e = based_below n kids own e
first_asks_below n AsRow kids own e = asks_below n 0 (row_first kids own) kids (omega (arith, e))
first_asks_below n AsLimits kids own e = limits_below n kids own e
first_asks_below n AsTable kids own e = asks_below n 0 _ kids (omega (arith, e))

row_below : (n : ℕ) (kids : List KidPull) (own : Pull) (first : List MathBox) → length kids ≡ n
    → All (IsAskBelow n) (second_asks AsRow kids own first)
unfolding second_asks
row_below n kids Free first e = asks_below n 0 (row_second first) kids (omega (arith, e))
row_below n kids (Block ascent descent) first e = All-nil (IsAskBelow n)
row_below n kids (Inline width) first e = All-nil (IsAskBelow n)

pub second_asks_below : (n : ℕ) (how : Asking) (kids : List KidPull) (own : Pull) (first : List MathBox) → length kids ≡ n
    → All (IsAskBelow n) (second_asks how kids own first)
unfolding second_asks
second_asks_below n AsRow kids own first e = row_below n kids own first e
second_asks_below n AsLimits kids own first e = more_limits_below n kids own first e
second_asks_below n Nothing kids own first e = All-nil (IsAskBelow n)
second_asks_below n Plainly kids own first e = All-nil (IsAskBelow n)
second_asks_below n ForTheBase kids own first e = All-nil (IsAskBelow n)
second_asks_below n AsTable kids own first e = All-nil (IsAskBelow n)

-- ---- questions

pub as_many_pulls : (m : MetricsValue) (seen : Seen) (context : Context) → length (kid_pulls m seen context) ≡ length seen.kids
unfolding kid_pulls
as_many_pulls m seen context = length-list_to (length seen.kids) (kid_pull m seen context.form)

module _ (m : MetricsValue) (seen : Seen) (context : Context) where
  abbrev below : Question → Type 0
  below = IsBelow (length seen.kids)

  asked_below : (asks : List Ask) → All (IsAskBelow (length seen.kids)) asks → All below (map (asked m seen context) asks)
  asked_below asks h = All-map below (asked m seen context) asks h

  pub first_below : All below (first m seen context)
  unfolding first
  first_below = asked_below _ (first_asks_below (length seen.kids) (asking m seen context) (kid_pulls m seen context) _ (as_many_pulls m seen context))

  rows_below : (rows : List Answer) (n : ℕ) → n ≤ length seen.kids → All below (list_to n (row_asked m seen context rows))
  unfolding list_to
  rows_below rows zero l = All-nil below
  rows_below rows (suc n) l =
      All-append below (list_to n (row_asked m seen context rows)) (row_asked m seen context rows n ∷ [])
      (rows_below rows n (omega (arith, l))) (All-cons below (row_asked m seen context rows n) [] (omega (arith, l)) (All-nil below))

  second_as_below : (how : Asking) (answers : List Answer) → All below (second_as how m seen context answers)
  second_as_below AsTable answers = rows_below answers (length seen.kids) (omega arith)
  second_as_below Nothing answers = asked_below _ (second_asks_below (length seen.kids) Nothing (kid_pulls m seen context) _ _ (as_many_pulls m seen context))
  second_as_below Plainly answers = asked_below _ (second_asks_below (length seen.kids) Plainly (kid_pulls m seen context) _ _ (as_many_pulls m seen context))
  second_as_below ForTheBase answers = asked_below _ (second_asks_below (length seen.kids) ForTheBase (kid_pulls m seen context) _ _ (as_many_pulls m seen context))
  second_as_below AsRow answers = asked_below _ (second_asks_below (length seen.kids) AsRow (kid_pulls m seen context) _ _ (as_many_pulls m seen context))
  second_as_below AsLimits answers = asked_below _ (second_asks_below (length seen.kids) AsLimits (kid_pulls m seen context) _ _ (as_many_pulls m seen context))

  pub second_below : (answers : List Answer) → All below (second m seen context answers)
  unfolding second
  second_below answers = second_as_below (asking m seen context) answers
