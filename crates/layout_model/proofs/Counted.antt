-- How often a child is asked in each wave, and in both.
use Rattle.std.proofs.Common.{◌≡◌, ◌∙◌, refl, sym, ap, subst, ℕ, zero, suc, ◌+◌, ◌<◌, ◌≤◌, ◌==◌, arith, zero-add, Bool, true, false, cond, ◌||◌, List, [], ◌∷◌, ◌++◌, length, map, take, get_or, inl, inr, Option, Some, None}
use Rattle.std.proofs.lemmas.Bool.{false≢true, ne_eqb}
use Rattle.std.proofs.lemmas.Bool.Decides.{eqb_tells}
use Rattle.std.proofs.lemmas.List.Sums.{sum_by-append}
use Rattle.std.proofs.lemmas.Option.{none-some}
use Rattle.std.specs.List.{count_by}
use Rattle.std.specs.Option.{option_and_then}
use Rattle.fixed_units.specs.Sums.{list_to}
use Rattle.fixed_units.specs.declared.boxes.MathBox.{MathBox}
use Rattle.fixed_units.specs.declared.pull.Pull.{Pull}
use Rattle.fixed_units.specs.declared.pull.Pull.TheVariants.{Free, Block, Inline}
use Rattle.font_metrics.specs.Metrics.{MetricsValue}
use Rattle.math_tree.specs.declared.kind.Kind.{Kind}
use Rattle.math_tree.specs.declared.kind.Kind.TheVariants.{Annotation, AnnotationXml, Mi, Mn, Mo, Ms, Mspace, Mtable, Mtext, Mtr}
use Rattle.math_tree.specs.declared.node.Head.{Head}
use Rattle.math_tree.specs.declared.node.Node.{Node}
use Rattle.math_tree.specs.declared.node.Node.TheViews.{out-Node}
use Rattle.op_dictionary.specs.declared.extra.OperatorLine.{OperatorLine}
use Rattle.op_dictionary.specs.declared.operator.Axis.{Axis}
use Rattle.op_dictionary.specs.declared.operator.Axis.TheVariants.{Block as Upwards, Inline as Along}
use Rattle.op_dictionary.specs.declared.operator.Form.{Form}
use Rattle.embellished.specs.Facts.{core_below, core_of, facts, facts_over, laid_kind}
use Rattle.embellished.specs.Flow.{flow_by, shown_by}
use Rattle.embellished.specs.Forms.{core_axis, stretch_axis}
use Rattle.embellished.specs.Kinds.{is_table_row, shows_its_first, shows_none}
use Rattle.embellished.specs.Seen.{Kid, Seen, kid_of, laid_kid, seen_of}
use Rattle.embellished.specs.Validity.{laid_as}
use Rattle.embellished.specs.declared.facts.Core.{Core}
use Rattle.embellished.specs.declared.facts.Facts.{Facts}
use Rattle.embellished.proofs.Nodes.{facts_out}
use Rattle.row_stretch.specs.Laws.{asked as times, IsPulled}
use Rattle.row_stretch.specs.Questions.{asks_from, planned, row_first, row_second, second_of_two, under}
use Rattle.row_stretch.specs.declared.asking.Plan.{Plan}
use Rattle.row_stretch.specs.declared.parts.Ask.{Ask}
use Rattle.row_stretch.specs.declared.parts.KidPull.{KidPull}
use Rattle.row_stretch.proofs.Counts.{asked-asks_from, asked-before, asked-few, asked_once, counted, either_asks, no_kid, questions, under_asks}
use Rattle.scripts.specs.Questions.{rest, widest_of}
use Rattle.layout_model.specs.Contexts.{pull_of}
use Rattle.layout_model.specs.Questions.{asked, asked_all, asked_as, asking, asking_of, first, first_asks, has_moved_limits, kid_pulls, row_asked, second, second_as, second_asks, unstretched}
use Rattle.layout_model.specs.Waves.{EachWaveLaw, MayCarry, OnceLaw, StretchesIn, both_waves, is_stretched, times_asked}
use Rattle.layout_model.specs.declared.asking.Asking.{Asking}
use Rattle.layout_model.specs.declared.asking.Asking.TheVariants.{Nothing, Plainly, ForTheBase, AsRow, AsLimits, AsTable}
use Rattle.layout_model.specs.declared.context.Context.{Context}
use Rattle.layout_model.specs.declared.context.Question.{Question}
use Rattle.layout_model.specs.declared.context.Stretch.{Stretch}
use Rattle.layout_model.specs.declared.context.Stretch.TheVariants.{None as Unstretched, Block as Upright, Inline as Sideways, Columns, Slots}
use Rattle.layout_model.specs.declared.outcome.Answer.{Answer}
use Rattle.layout_model.proofs.Places.{as_many_pulls}

-- ---- asks

-- one item more to count
pub counted_one : {X : Type 0} (test : X → Bool) (x : X) (xs : List X) → count_by test (x ∷ xs) ≡ cond (test x) 1 0 + count_by test xs
counted_one test x xs =
    sum_by-append (λ (y : _). cond (test y) 1 0) (x ∷ []) xs ∙ ap (λ (n : ℕ). n + count_by test xs) (zero-add (cond (test x) 1 0))

-- the base, and then others behind it
abbrev based : Pull → Plan → List KidPull → List Ask
based own plan others = record { kid = 0; pull = own } ∷ asks_from 1 plan others

at_the_base : (own : Pull) (plan : Plan) (others : List KidPull) → times 0 (based own plan others) ≡ 1 + times 0 (asks_from 1 plan others)
at_the_base own plan others = counted_one (λ (ask : Ask). ask.kid == 0) (record { kid = 0; pull = own }) (asks_from 1 plan others)

past_the_base : (own : Pull) (plan : Plan) (others : List KidPull) (kid : ℕ) → times (suc kid) (based own plan others) ≡ times (suc kid) (asks_from 1 plan others)
past_the_base own plan others kid =
    counted_one (λ (ask : Ask). ask.kid == suc kid) (record { kid = 0; pull = own }) (asks_from 1 plan others)
    ∙ ap (λ (b : Bool). cond b 1 0 + times (suc kid) (asks_from 1 plan others)) (ne_eqb 0 (suc kid) (λ e. omega (arith, e)))
    ∙ zero-add (times (suc kid) (asks_from 1 plan others))

based_few : (own : Pull) (plan : Plan) (others : List KidPull) (kid : ℕ) → times kid (based own plan others) ≤ 1
based_few own plan others zero = omega (arith, at_the_base own plan others, asked-before 0 1 plan others (omega arith))
based_few own plan others (suc kid) = omega (arith, past_the_base own plan others kid, asked-few (suc kid) 1 plan others)

first_few : (how : Asking) (kids : List KidPull) (own : Pull) (kid : ℕ) → times kid (first_asks how kids own) ≤ 1
unfolding first_asks
first_few Nothing kids own kid = omega arith
first_few Plainly kids own kid = asked-few kid 0 unstretched kids
first_few ForTheBase [] own kid = omega arith
first_few ForTheBase (base ∷ others) own kid = based_few own unstretched others kid
first_few AsRow kids own kid = asked-few kid 0 (row_first kids own) kids
first_few AsLimits kids Free kid = asked-few kid 0 _ kids
first_few AsLimits kids (Inline width) kid = asked-few kid 0 _ kids
first_few AsLimits [] (Block ascent descent) kid = omega arith
first_few AsLimits (base ∷ others) (Block ascent descent) kid = based_few (Block ascent descent) rest others kid
first_few AsTable kids own kid = asked-few kid 0 unstretched kids

second_few : (how : Asking) (kids : List KidPull) (own : Pull) (frames : List MathBox) (kid : ℕ) → times kid (second_asks how kids own frames) ≤ 1
unfolding second_asks
second_few AsRow kids Free frames kid = asked-few kid 0 (row_second frames) kids
second_few AsRow kids (Block ascent descent) frames kid = omega arith
second_few AsRow kids (Inline width) frames kid = omega arith
second_few AsLimits kids Free frames kid = asked-few kid 0 _ kids
second_few AsLimits kids (Inline width) frames kid = omega arith
second_few AsLimits [] (Block ascent descent) frames kid = omega arith
second_few AsLimits (base ∷ others) (Block ascent descent) frames kid = asked-few kid 1 _ others
second_few Nothing kids own frames kid = omega arith
second_few Plainly kids own frames kid = omega arith
second_few ForTheBase kids own frames kid = omega arith
second_few AsTable kids own frames kid = omega arith

-- ---- just once

abbrev pub IsOnce : Asking → List KidPull → Pull → List MathBox → ℕ → Type 0
IsOnce how kids own frames kid = times kid (first_asks how kids own) + times kid (second_asks how kids own frames) ≡ 1

pub plainly_once : (kids : List KidPull) (own : Pull) (frames : List MathBox) (kid : ℕ) → kid < length kids → IsOnce Plainly kids own frames kid
unfolding first_asks second_asks
plainly_once kids own frames kid l =
    omega (arith, counted unstretched kids kid l, under_asks Upwards Free (get_or kids kid no_kid))

-- a child behind the base
behind : (plan : Plan) (others : List KidPull) (kid : ℕ) → kid < length others
    → times (suc kid) (asks_from 1 plan others) ≡ questions (planned plan (get_or others kid no_kid))
behind plan others kid l =
    let e : suc kid ≡ 1 + kid = omega arith in
    ap (λ (k : ℕ). times k (asks_from 1 plan others)) e ∙ asked-asks_from 1 kid plan others no_kid l

pub base_once : (kids : List KidPull) (own : Pull) (frames : List MathBox) (kid : ℕ) → kid < length kids → IsOnce ForTheBase kids own frames kid
unfolding first_asks second_asks
base_once [] own frames kid l = absurd (omega (arith, l))
base_once (base ∷ others) own frames zero l = omega (arith, at_the_base own unstretched others, asked-before 0 1 unstretched others (omega arith))
base_once (base ∷ others) own frames (suc kid) l =
    omega (arith, past_the_base own unstretched others kid, behind unstretched others kid (omega (arith, l)), under_asks Upwards Free (get_or others kid no_kid))

row_once : (kids : List KidPull) (own : Pull) (frames : List MathBox) (kid : ℕ) → kid < length kids → IsPulled own → IsOnce AsRow kids own frames kid
unfolding first_asks second_asks
row_once kids own frames kid l h = asked_once kids own frames kid l h

pub limits_once : (kids : List KidPull) (own : Pull) (frames : List MathBox) (kid : ℕ) → kid < length kids → IsPulled own → IsOnce AsLimits kids own frames kid
unfolding first_asks second_asks
limits_once kids Free frames kid l h = absurd h
limits_once kids (Inline width) frames kid l h =
    omega (arith, counted (under Along (Inline width)) kids kid l, under_asks Along (Inline width) (get_or kids kid no_kid))
limits_once [] (Block ascent descent) frames kid l h = absurd (omega (arith, l))
limits_once (base ∷ others) (Block ascent descent) frames zero l h =
    omega (arith, at_the_base (Block ascent descent) rest others, asked-before 0 1 rest others (omega arith), asked-before 0 1 (second_of_two Along (Inline (widest_of frames))) others (omega arith))
limits_once (base ∷ others) (Block ascent descent) frames (suc kid) l h =
    let pull = Inline (widest_of frames) in
    omega (
      arith,
      past_the_base (Block ascent descent) rest others kid,
      behind rest others kid (omega (arith, l)),
      behind (second_of_two Along pull) others kid (omega (arith, l)),
      either_asks Along pull (get_or others kid no_kid),
    )

-- ---- questions

module _ (m : MetricsValue) (seen : Seen) (context : Context) where
  pub times_all : (kid : ℕ) (asks : List Ask) → times_asked kid (asked_all m seen context asks) ≡ times kid asks
  times_all kid [] = refl
  times_all kid (ask ∷ asks) =
      counted_one (λ (question : Question). question.kid == kid) (asked m seen context ask) (asked_all m seen context asks)
      ∙ ap (λ (n : ℕ). cond (ask.kid == kid) 1 0 + n) (times_all kid asks)
      ∙ sym (counted_one (λ (next : Ask). next.kid == kid) ask asks)

  pub first_once : (kid : ℕ) → times_asked kid (first m seen context) ≤ 1
  unfolding first
  first_once kid =
      let asks = first_asks (asking m seen context) (kid_pulls m seen context) (pull_of context.stretch) in
      omega (arith, times_all kid asks, first_few (asking m seen context) (kid_pulls m seen context) (pull_of context.stretch) kid)

  module _ (rows : List Answer) where
    abbrev row : ℕ → Question
    row = row_asked m seen context rows

    one_row : (kid n : ℕ) → times_asked kid (list_to (suc n) row) ≡ times_asked kid (list_to n row) + cond (n == kid) 1 0
    unfolding list_to
    one_row kid n = sum_by-append (λ (question : Question). cond (question.kid == kid) 1 0) (list_to n row) (row n ∷ []) ∙ omega arith

    no_row : (kid n : ℕ) → n ≤ kid → times_asked kid (list_to n row) ≡ 0
    unfolding list_to
    no_row kid zero l = refl
    no_row kid (suc n) l =
        let before = no_row kid n (omega (arith, l)) in
        elim (eqb_tells n kid) [
          | inl same ↦ absurd (omega (arith, same.1, l))
          | inr apart ↦ one_row kid n ∙ ap (λ (b : Bool). times_asked kid (list_to n row) + cond b 1 0) apart.0 ∙ omega (arith, before)
        ]

    rows_once : (kid n : ℕ) → times_asked kid (list_to n row) ≤ 1
    rows_once kid zero = omega (arith, no_row kid zero (omega arith))
    rows_once kid (suc n) =
        let more = one_row kid n in
        elim (eqb_tells n kid) [
          | inl same ↦
              let none = no_row kid n (omega (arith, same.1)) in
              let here = more ∙ ap (λ (b : Bool). times_asked kid (list_to n row) + cond b 1 0) same.0 in
              omega (arith, none, here)
          | inr apart ↦
              let here = more ∙ ap (λ (b : Bool). times_asked kid (list_to n row) + cond b 1 0) apart.0 in
              omega (arith, rows_once kid n, here)
        ]

    abbrev pub frames : List MathBox
    frames = map (λ (answer : Answer). answer.frame) rows

    abbrev pub further : Asking → List Ask
    further how = second_asks how (kid_pulls m seen context) (pull_of context.stretch) frames

    further_once : (how : Asking) (kid : ℕ) → times_asked kid (asked_all m seen context (further how)) ≤ 1
    further_once how kid =
        omega (arith, times_all kid (further how), second_few how (kid_pulls m seen context) (pull_of context.stretch) frames kid)

    second_as_once : (how : Asking) (kid : ℕ) → times_asked kid (second_as how m seen context rows) ≤ 1
    second_as_once AsTable kid = rows_once kid (length seen.kids)
    second_as_once Nothing kid = further_once Nothing kid
    second_as_once Plainly kid = further_once Plainly kid
    second_as_once ForTheBase kid = further_once ForTheBase kid
    second_as_once AsRow kid = further_once AsRow kid
    second_as_once AsLimits kid = further_once AsLimits kid

    pub second_once : (kid : ℕ) → times_asked kid (second m seen context rows) ≤ 1
    unfolding second
    second_once kid = second_as_once (asking m seen context) kid

    -- ---- both waves

    abbrev asks_once : Asking → ℕ → Type 0
    asks_once how kid = IsOnce how (kid_pulls m seen context) (pull_of context.stretch) frames kid

    pub both_are : (how : Asking) (kid : ℕ)
        → times_asked kid (asked_all m seen context (first_asks how (kid_pulls m seen context) (pull_of context.stretch)) ++ asked_all m seen context (further how))
        ≡ times kid (first_asks how (kid_pulls m seen context) (pull_of context.stretch)) + times kid (further how)
    both_are how kid =
        let ones = first_asks how (kid_pulls m seen context) (pull_of context.stretch) in
        sum_by-append (λ (question : Question). cond (question.kid == kid) 1 0) (asked_all m seen context ones) (asked_all m seen context (further how))
        ∙ ap (λ (n : ℕ). n + times_asked kid (asked_all m seen context (further how))) (times_all kid ones)
        ∙ ap (λ (n : ℕ). times kid ones + n) (times_all kid (further how))

    abbrev pub asked_by : Asking → List Question
    asked_by how = asked_all m seen context (first_asks how (kid_pulls m seen context) (pull_of context.stretch)) ++ second_as how m seen context rows

    pub both_by : both_waves m seen context rows ≡ asked_by (asking m seen context)
    unfolding first second
    both_by = refl

    both_once : (how : Asking) (kid : ℕ) → asking m seen context ≡ how → times_asked kid (asked_by how) ≡ 1
        → times_asked kid (both_waves m seen context rows) ≡ 1
    both_once how kid e h = ap (times_asked kid) (both_by ∙ ap asked_by e) ∙ h

    plain_row : (kid : ℕ) → kid < length seen.kids → asking m seen context ≡ Plainly → times_asked kid (both_waves m seen context rows) ≡ 1
    plain_row kid l e =
        both_once Plainly kid e (both_are Plainly kid ∙ plainly_once (kid_pulls m seen context) (pull_of context.stretch) frames kid (omega (arith, l, as_many_pulls m seen context)))

    pulled_by : (how : Asking) (kid : ℕ) → kid < length seen.kids → asking m seen context ≡ how → IsPulled (pull_of context.stretch)
        → (how ≡ Nothing → ⊥) → (how ≡ AsTable → ⊥) → times_asked kid (both_waves m seen context rows) ≡ 1
    pulled_by Nothing kid l e h none table = absurd (none refl)
    pulled_by AsTable kid l e h none table = absurd (table refl)
    pulled_by Plainly kid l e h none table = plain_row kid l e
    pulled_by ForTheBase kid l e h none table =
        both_once ForTheBase kid e (both_are ForTheBase kid ∙ base_once (kid_pulls m seen context) (pull_of context.stretch) frames kid (omega (arith, l, as_many_pulls m seen context)))
    pulled_by AsRow kid l e h none table =
        both_once AsRow kid e (both_are AsRow kid ∙ row_once (kid_pulls m seen context) (pull_of context.stretch) frames kid (omega (arith, l, as_many_pulls m seen context)) h)
    pulled_by AsLimits kid l e h none table =
        both_once AsLimits kid e (both_are AsLimits kid ∙ limits_once (kid_pulls m seen context) (pull_of context.stretch) frames kid (omega (arith, l, as_many_pulls m seen context)) h)

pub each_wave : EachWaveLaw
each_wave m seen context one kid = (first_once m seen context kid, second_once m seen context one kid)

-- ---- kinds

is_nothing : Asking → Bool
is_nothing Nothing = true
is_nothing other = false

is_for_table : Asking → Bool
is_for_table AsTable = true
is_for_table other = false

asked_nothing : (kind : Kind) → is_nothing (asking_of kind) ≡ true → shows_none kind ≡ true
unfolding asking_of is_nothing
asked_nothing Annotation e = refl
asked_nothing AnnotationXml e = refl
asked_nothing Mi e = refl
asked_nothing Mn e = refl
asked_nothing Mo e = refl
asked_nothing Ms e = refl
asked_nothing Mspace e = refl
asked_nothing Mtext e = refl
asked_nothing other e = absurd (false≢true e)

asked_table : (kind : Kind) → is_for_table (asking_of kind) ≡ true → kind ≡ Mtable
unfolding asking_of is_for_table
asked_table Mtable e = refl
asked_table other e = absurd (false≢true e)

as_nothing : (how : Asking) (moved : Bool) → asked_as how moved ≡ Nothing → is_nothing how ≡ true
unfolding is_nothing
as_nothing AsLimits true e = absurd (false≢true (ap is_nothing e))
as_nothing AsLimits false e = ap is_nothing e
as_nothing Nothing moved e = refl
as_nothing Plainly moved e = ap is_nothing e
as_nothing ForTheBase moved e = ap is_nothing e
as_nothing AsRow moved e = ap is_nothing e
as_nothing AsTable moved e = ap is_nothing e

as_table : (how : Asking) (moved : Bool) → asked_as how moved ≡ AsTable → is_for_table how ≡ true
unfolding is_for_table
as_table AsLimits true e = absurd (false≢true (ap is_for_table e))
as_table AsLimits false e = ap is_for_table e
as_table Nothing moved e = ap is_for_table e
as_table Plainly moved e = ap is_for_table e
as_table ForTheBase moved e = ap is_for_table e
as_table AsRow moved e = ap is_for_table e
as_table AsTable moved e = refl

-- a table is asked as one by its kind
pub table_is : (m : MetricsValue) (seen : Seen) (context : Context) → asking m seen context ≡ AsTable → seen.facts.laid ≡ Mtable
unfolding asking
table_is m seen context e = asked_table seen.facts.laid (as_table (asking_of seen.facts.laid) (has_moved_limits m seen context) e)

-- nothing is in flow where nothing is asked
pub nothing_in_flow : (m : MetricsValue) (node : Node) (context : Context) → asking m (seen_of node) context ≡ Nothing → (seen_of node).kids ≡ []
unfolding asking seen_of flow_by
nothing_in_flow m node context e =
    let laid : Kind = (facts node).laid in
    let all : List Kid = map kid_of (out-Node node).children in
    let none = asked_nothing laid (as_nothing (asking_of laid) (has_moved_limits m (seen_of node) context) e) in
    ap (λ (b : Bool). cond b [] (cond (shows_its_first laid) (shown_by laid_kid laid (take 1 all)) (shown_by laid_kid laid all))) none

-- a table has no core
table_without_core : (head : Head) (kids : List Facts) → (facts_over head kids).laid ≡ Mtable → (facts_over head kids).core ≡ None
unfolding facts_over core_below
table_without_core head kids e =
    let laid : Kind = laid_as head.kind (map laid_kind kids) in
    ap (λ (k : Kind). core_of head k (flow_by laid_kind laid kids)) e

abbrev TableIsPlain : Facts → Type 0
TableIsPlain own = own.laid ≡ Mtable → own.core ≡ None

pub no_core_of_table : (node : Node) → TableIsPlain (facts node)
no_core_of_table node = subst TableIsPlain (sym (facts_out node)) (table_without_core (out-Node node).head (map facts (out-Node node).children))

pub core_of_stretching : (own : Facts) (form : Form) (lines : List OperatorLine) (axis : Axis) → stretch_axis own form lines ≡ Some axis → own.core ≡ None → ⊥
unfolding stretch_axis
core_of_stretching own form lines axis e none =
    none-some axis (sym (ap (λ (core : Option Core). option_and_then (core_axis form lines) core) none) ∙ e)

-- ---- the law

row_is : (kind : Kind) → is_table_row kind ≡ true → kind ≡ Mtr
row_is Mtr e = refl
row_is other e = absurd (false≢true e)

pub row_plainly : (m : MetricsValue) (seen : Seen) (context : Context) → seen.facts.laid ≡ Mtr → asking m seen context ≡ Plainly
unfolding asking asking_of
row_plainly m seen context e = ap (λ (kind : Kind). asked_as (asking_of kind) (has_moved_limits m seen context)) e

module _ (m : MetricsValue) (node : Node) (one : List Answer) (kid : ℕ) (l : kid < length (seen_of node).kids) where
  abbrev once_in : Context → Type 0
  once_in context = times_asked kid (both_waves m (seen_of node) context one) ≡ 1

  by_row : (context : Context) → (facts node).laid ≡ Mtr → once_in context
  unfolding seen_of
  by_row context e = plain_row m (seen_of node) context one kid l (row_plainly m (seen_of node) context e)

  by_pull : (context : Context) (axis : Axis) → StretchesIn m (facts node) context.form axis → IsPulled (pull_of context.stretch) → once_in context
  unfolding seen_of
  by_pull context axis h pulled =
      pulled_by m (seen_of node) context one (asking m (seen_of node) context) kid l refl pulled
      (λ none. omega (arith, l, ap (λ (kids : List Kid). length kids) (nothing_in_flow m node context none)))
      (λ table. core_of_stretching (facts node) context.form m.operators axis h.along (no_core_of_table node (table_is m (seen_of node) context table)))

  by_stretch : (context : Context) (stretch : Stretch) → context.stretch ≡ stretch → MayCarry m (facts node) context.form stretch
      → (is_stretched stretch || is_table_row (facts node).laid) ≡ true → once_in context
  unfolding pull_of
  by_stretch context Unstretched e may h = by_row context (row_is (facts node).laid h)
  by_stretch context (Columns widths) e may h = by_row context may
  by_stretch context (Slots numbers) e may h = by_row context may
  by_stretch context (Upright ascent descent) e may h = by_pull context Upwards may (subst (λ (s : Stretch). IsPulled (pull_of s)) (sym e) tt)
  by_stretch context (Sideways width) e may h = by_pull context Along may (subst (λ (s : Stretch). IsPulled (pull_of s)) (sym e) tt)

pub once : OnceLaw
once m node context one kid may l h = by_stretch m node one kid l context context.stretch refl may h
