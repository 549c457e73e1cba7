-- What the questions of an element have in common: each has its child's style and form; all to one child carry a
-- stretch, or none does; and what may stretch the element is handed down.
use Rattle.std.proofs.Common.{◌≡◌, ◌∙◌, refl, sym, ap, subst, ℕ, zero, suc, ◌<◌, Bool, true, false, true≢false, cond, not, nat_eq, ◌&&◌, List, [], ◌∷◌, length, get_or, inl, inr, ◌⊎◌, All, Option, Some, None, is_some, unwrap_or, slice_get}
use Rattle.std.proofs.lemmas.Bool.{eqb-true, false≢true}
use Rattle.std.proofs.lemmas.List.Elements.{All-append, All-contains, All-cons, All-map, All-nil}
use Rattle.std.proofs.lemmas.Option.{get_or_from_slice_get, same_Some, slice_get_within}
use Rattle.std.specs.List.{Contains}
use Rattle.std.specs.Option.{IfSome, option_and_then, option_map_or}
use Rattle.fixed_units.specs.Sums.{list_to}
use Rattle.fixed_units.proofs.Sums.{slice_get-list_to}
use Rattle.fixed_units.specs.declared.pull.Pull.{Pull}
use Rattle.fixed_units.specs.declared.pull.Pull.TheVariants.{Free, Block, Inline}
use Rattle.font_metrics.specs.Metrics.{MetricsValue}
use Rattle.math_tree.specs.declared.kind.Kind.{Kind}
use Rattle.math_tree.specs.declared.kind.Kind.TheVariants.{Mfrac, Mmultiscripts, Mo, Mover, Msub, Msubsup, Msup, Mtable, Mtr, Munder, Munderover}
use Rattle.math_tree.specs.declared.node.Node.{Node}
use Rattle.op_dictionary.specs.declared.operator.Axis.{Axis}
use Rattle.op_dictionary.specs.declared.operator.Axis.TheVariants.{Block as Upwards, Inline as Along}
use Rattle.op_dictionary.specs.declared.operator.Form.{Form}
use Rattle.op_dictionary.specs.declared.operator.Form.TheVariants.{Infix}
use Rattle.embellished.specs.Facts.{facts}
use Rattle.embellished.specs.Forms.{core_axis, form_at, form_by_place, form_of_core, form_of_kid, leads, stretch_axis}
use Rattle.embellished.specs.Kinds.{is_led_by_its_base, is_operator}
use Rattle.embellished.specs.Laws.{IsLed}
use Rattle.embellished.specs.Seen.{Kid, Seen, laid_kid, seen_of}
use Rattle.embellished.specs.declared.facts.Core.{Core}
use Rattle.embellished.specs.declared.facts.Facts.{Facts}
use Rattle.embellished.proofs.CoreLaws.{led}
use Rattle.embellished.proofs.FlowLaws.{tabular}
use Rattle.row_stretch.specs.declared.parts.Ask.{Ask}
use Rattle.row_stretch.specs.declared.parts.KidPull.{KidPull}
use Rattle.row_stretch.proofs.Counts.{no_kid}
use Rattle.layout_model.specs.Contexts.{kid_axis, kid_context, kid_pull, pull_of, stretch_of}
use Rattle.layout_model.specs.Questions.{asked, asked_all, asked_as, asking, asking_of, first, first_asks, has_moved_limits, kid_pulls, row_asked, second, second_as}
use Rattle.span_tables.specs.Laws.{slots_at}
use Rattle.layout_model.specs.Tables.{cells_of_rows, columns_at, has_spans, stretch_at}
use Rattle.layout_model.specs.Waves.{AlikeLaw, HandedLaw, IsPlain, MayAsk, MayBeAsked, MayCarry, PlainLaw, StretchesIn, both_waves, is_stretched}
use Rattle.layout_model.specs.declared.asking.Asking.{Asking}
use Rattle.layout_model.specs.declared.asking.Asking.TheVariants.{Nothing, Plainly, ForTheBase, AsRow, AsLimits, AsTable}
use Rattle.layout_model.specs.declared.context.Context.{Context}
use Rattle.layout_model.specs.declared.context.Question.{Question}
use Rattle.layout_model.specs.declared.context.Stretch.{Stretch}
use Rattle.layout_model.specs.declared.context.Stretch.TheVariants.{None as Unstretched, Block as Upright, Inline as Sideways, Columns, Slots}
use Rattle.layout_model.specs.declared.outcome.Answer.{Answer}
use Rattle.layout_model.proofs.Carried.{AskCarried, IsCarried, IsFor, IsHanded, axis_of, carries, first_carried, hands_down, is_pulled, kid_at, second_carried}
use Rattle.layout_model.proofs.Counted.{core_of_stretching, table_is}

-- ---- stretches

stretched_is : (pull : Pull) → is_stretched (stretch_of pull) ≡ is_pulled pull
unfolding stretch_of
stretched_is Free = refl
stretched_is (Block ascent descent) = refl
stretched_is (Inline width) = refl

pub unstretched_is : (stretch : Stretch) → is_stretched stretch ≡ false → stretch ≡ Unstretched
unstretched_is Unstretched e = refl
unstretched_is (Upright ascent descent) e = absurd (true≢false e)
unstretched_is (Sideways width) e = absurd (true≢false e)
unstretched_is (Columns widths) e = absurd (true≢false e)
unstretched_is (Slots numbers) e = absurd (true≢false e)

-- what holds at each place of a list over places
all_listed : {A : Type 0} (P : A → Type 0) (n : ℕ) (f : ℕ → A) → ((i : ℕ) → P (f i)) → All P (list_to n f)
unfolding list_to
all_listed P zero f h = All-nil P
all_listed P (suc n) f h = All-append P (list_to n f) (f n ∷ []) (all_listed P n f h) (All-cons P (f n) [] (h n) (All-nil P))

abbrev is_table_asking : Asking → Bool
is_table_asking AsTable = true
is_table_asking other = false

-- ---- one question

-- by a pull that the child may take
pub record IsQuestionCarried (m : MetricsValue) (seen : Seen) (context : Context) (how : Asking) (question : Question) : Type 0 where
  pub pull : Pull
  pub stretch : question.context.stretch ≡ stretch_of pull
  pub carried : IsCarried how (pull_of context.stretch) question.kid (kid_at (kid_pulls m seen context) question.kid) pull

module _ (m : MetricsValue) (seen : Seen) (context : Context) where
  abbrev pub HasPlace : Question → Type 0
  HasPlace question = question.context ≡ kid_context m seen context question.kid question.context.stretch

  asked_placed : (asks : List Ask) → All HasPlace (asked_all m seen context asks)
  asked_placed asks = All-map HasPlace (asked m seen context) asks (λ k d l. refl)

  asked_carried : (how : Asking) (asks : List Ask) → All (AskCarried how (kid_pulls m seen context) (pull_of context.stretch)) asks
      → All (IsQuestionCarried m seen context how) (asked_all m seen context asks)
  asked_carried how asks h =
      All-map (IsQuestionCarried m seen context how) (asked m seen context) asks
      (λ k d l. record { pull = (get_or asks k d).pull; stretch = refl; carried = h k d l })

  second_placed : (how : Asking) (rows : List Answer) → All HasPlace (second_as how m seen context rows)
  second_placed AsTable rows = all_listed HasPlace (length seen.kids) (row_asked m seen context rows) (λ i. refl)
  second_placed Nothing rows = asked_placed _
  second_placed Plainly rows = asked_placed _
  second_placed ForTheBase rows = asked_placed _
  second_placed AsRow rows = asked_placed _
  second_placed AsLimits rows = asked_placed _

  further_carried : (how : Asking) (rows : List Answer) → (how ≡ AsTable → ⊥) → All (IsQuestionCarried m seen context how) (second_as how m seen context rows)
  further_carried AsTable rows none = absurd (none refl)
  further_carried Nothing rows none = asked_carried Nothing _ (second_carried Nothing (kid_pulls m seen context) (pull_of context.stretch) _)
  further_carried Plainly rows none = asked_carried Plainly _ (second_carried Plainly (kid_pulls m seen context) (pull_of context.stretch) _)
  further_carried ForTheBase rows none = asked_carried ForTheBase _ (second_carried ForTheBase (kid_pulls m seen context) (pull_of context.stretch) _)
  further_carried AsRow rows none = asked_carried AsRow _ (second_carried AsRow (kid_pulls m seen context) (pull_of context.stretch) _)
  further_carried AsLimits rows none = asked_carried AsLimits _ (second_carried AsLimits (kid_pulls m seen context) (pull_of context.stretch) _)

  ones_carried : All (IsQuestionCarried m seen context (asking m seen context)) (asked_all m seen context (first_asks (asking m seen context) (kid_pulls m seen context) (pull_of context.stretch)))
  ones_carried = asked_carried (asking m seen context) _ (first_carried (asking m seen context) (kid_pulls m seen context) (pull_of context.stretch))

  module _ (one : List Answer) where
    pub all_placed : All HasPlace (both_waves m seen context one)
    unfolding first second
    all_placed =
        All-append HasPlace (asked_all m seen context (first_asks (asking m seen context) (kid_pulls m seen context) (pull_of context.stretch)))
        (second_as (asking m seen context) m seen context one)
        (asked_placed _) (second_placed (asking m seen context) one)

    -- but for a table, whose rows are asked with its columns
    module _ (plain : seen.facts.laid ≡ Mtable → ⊥) where
      pub all_carried : All (IsQuestionCarried m seen context (asking m seen context)) (both_waves m seen context one)
      unfolding first second
      all_carried =
          All-append (IsQuestionCarried m seen context (asking m seen context))
          (asked_all m seen context (first_asks (asking m seen context) (kid_pulls m seen context) (pull_of context.stretch)))
          (second_as (asking m seen context) m seen context one)
          ones_carried (further_carried (asking m seen context) one (λ e. plain (table_is m seen context e)))

      -- whether a question carries a stretch is a matter of its child alone
      pub flag_is : (question : Question) → Contains (both_waves m seen context one) question
          → is_stretched question.context.stretch
          ≡ carries (asking m seen context) (axis_of (pull_of context.stretch)) question.kid (kid_at (kid_pulls m seen context) question.kid)
      flag_is question in' =
          let found = All-contains (IsQuestionCarried m seen context (asking m seen context)) (both_waves m seen context one) question all_carried in' in
          ap is_stretched found.stretch ∙ stretched_is found.pull ∙ found.carried.flag

      same_flag : (q r : Question) → Contains (both_waves m seen context one) q → Contains (both_waves m seen context one) r
          → q.kid ≡ r.kid → is_stretched q.context.stretch ≡ is_stretched r.context.stretch
      same_flag q r i j e =
          flag_is q i
          ∙ ap (λ (k : ℕ). carries (asking m seen context) (axis_of (pull_of context.stretch)) k (kid_at (kid_pulls m seen context) k)) e
          ∙ sym (flag_is r j)

      same_question : (q r : Question) → Contains (both_waves m seen context one) q → Contains (both_waves m seen context one) r
          → q.kid ≡ r.kid → is_stretched q.context.stretch ≡ false → q ≡ r
      same_question q r i j e free =
          let own : q.context.stretch ≡ Unstretched = unstretched_is q.context.stretch free in
          let its : r.context.stretch ≡ Unstretched = unstretched_is r.context.stretch (sym (same_flag q r i j e) ∙ free) in
          let placed = All-contains HasPlace (both_waves m seen context one) in
          let contexts : q.context ≡ r.context =
          placed q all_placed i ∙ (λ t. kid_context m seen context (e t) (own t))
          ∙ ap (kid_context m seen context r.kid) (sym its) ∙ sym (placed r all_placed j) in
          λ t. record { kid = e t; context = contexts t }

pub alike : AlikeLaw
alike m seen context one plain = record {
  place = all_placed m seen context one;
  alike = same_flag m seen context one plain;
  alone = same_question m seen context one plain;
}

-- ---- what is handed down

-- what has no core is asked without stretch
unpulled : (m : MetricsValue) (own : Facts) (form : Form) (pull : Pull) → own.core ≡ None → MayCarry m own form (stretch_of pull) → stretch_of pull ≡ Unstretched
unfolding stretch_of
unpulled m own form Free none may = refl
unpulled m own form (Block ascent descent) none may = absurd (core_of_stretching own form m.operators Upwards may.along none)
unpulled m own form (Inline width) none may = absurd (core_of_stretching own form m.operators Along may.along none)

again : (given : Option Form) (form : Form) → unwrap_or given (unwrap_or given form) ≡ unwrap_or given form
again None form = refl
again (Some own) form = refl

kept : (own : Core → Form) (found : Option Core)
    → IfSome found (λ core. unwrap_or core.form (option_map_or (λ (c : Core). unwrap_or c.form (own c)) found Infix) ≡ option_map_or (λ (c : Core). unwrap_or c.form (own c)) found Infix)
kept own None = tt
kept own (Some core) = again core.form (own core)

-- the child at a place, in its form
module _ (m : MetricsValue) (seen : Seen) (own : Form) (place : ℕ) (kid : Kid) (at : slice_get seen.kids place ≡ Some kid) where
  pub form_is : form_at seen place own ≡ form_of_kid seen kid place own
  unfolding form_at
  form_is = ap (λ (found : Option Kid). option_map_or (λ k. form_of_kid seen k place own) found Infix) at

  by_attribute : IfSome kid.facts.core (λ core. unwrap_or core.form (form_at seen place own) ≡ form_at seen place own)
  by_attribute =
      subst (λ (f : Form). IfSome kid.facts.core (λ core. unwrap_or core.form f ≡ f)) (sym form_is)
      (kept (λ core. cond (is_some seen.facts.core && leads seen.facts.laid kid.facts place) own (form_by_place seen.facts.laid seen.kids place)) kid.facts.core)

  axis_is : kid_axis m seen own place ≡ stretch_axis kid.facts (form_at seen place own) m.operators
  unfolding kid_axis
  axis_is = ap (λ (found : Option Kid). option_and_then (λ k. stretch_axis k.facts (form_at seen place own) m.operators) found) at

  plain_form : kid.facts.core ≡ None → form_at seen place own ≡ Infix
  plain_form none = form_is ∙ ap (λ (found : Option Core). option_map_or (λ core. form_of_core seen kid core place own) found Infix) none

pull_at : (m : MetricsValue) (seen : Seen) (context : Context) (place : ℕ) → place < length seen.kids
    → kid_at (kid_pulls m seen context) place ≡ kid_pull m seen context.form place
unfolding kid_pulls
pull_at m seen context place l =
    get_or_from_slice_get (list_to (length seen.kids) (kid_pull m seen context.form)) place (kid_pull m seen context.form place) no_kid
    (slice_get-list_to (length seen.kids) place (kid_pull m seen context.form) l)

-- ---- the base of what is stretched

led_by_kind : (kind : Kind) → hands_down (asking_of kind) ≡ true → is_led_by_its_base kind ≡ true
unfolding asking_of
led_by_kind Mfrac e = refl
led_by_kind Msub e = refl
led_by_kind Msup e = refl
led_by_kind Msubsup e = refl
led_by_kind Mmultiscripts e = refl
led_by_kind Munder e = refl
led_by_kind Mover e = refl
led_by_kind Munderover e = refl
led_by_kind other e = absurd (false≢true e)

handed_as : (how : Asking) (moved : Bool) → hands_down (asked_as how moved) ≡ hands_down how
handed_as AsLimits true = refl
handed_as AsLimits false = refl
handed_as Nothing moved = refl
handed_as Plainly moved = refl
handed_as ForTheBase moved = refl
handed_as AsRow moved = refl
handed_as AsTable moved = refl

led_by_asking : (m : MetricsValue) (seen : Seen) (context : Context) → hands_down (asking m seen context) ≡ true → is_led_by_its_base seen.facts.laid ≡ true
unfolding asking
led_by_asking m seen context e =
    led_by_kind seen.facts.laid (sym (handed_as (asking_of seen.facts.laid) (has_moved_limits m seen context)) ∙ e)

no_operator : (kind : Kind) → is_led_by_its_base kind ≡ true → is_operator kind ≡ false
no_operator Mo e = absurd (false≢true e)
no_operator other e = refl

module _ (m : MetricsValue) (node : Node) (context : Context) (kid : Kid) (base : slice_get (seen_of node).kids 0 ≡ Some kid)
    (by_base : is_led_by_its_base (facts node).laid ≡ true) where
  -- its core is the element's own
  core_is : (core : Core) → (facts node).core ≡ Some core → kid.facts.core ≡ Some core
  unfolding seen_of
  core_is core e =
      let found : IsLed (seen_of node) core = led node core e (no_operator (facts node).laid by_base) in
      let zero_th : found.index ≡ 0 =
      eqb-true found.index 0 (sym (ap (λ (b : Bool). cond b (nat_eq found.index 0) (not found.kid.facts.space_like)) by_base) ∙ found.leading) in
      let same : found.kid ≡ kid = same_Some found.kid kid (sym found.at ∙ ap (slice_get (seen_of node).kids) zero_th ∙ base) in
      ap (λ (k : Kid). k.facts.core) (sym same) ∙ found.own

  base_form : (core : Core) → (facts node).core ≡ Some core → unwrap_or core.form context.form ≡ context.form
      → form_at (seen_of node) 0 context.form ≡ context.form
  unfolding seen_of
  base_form core e a =
      let seen : Seen = seen_of node in
      let rest : Form = form_by_place seen.facts.laid seen.kids 0 in
      form_is m seen context.form 0 kid base
      ∙ ap (λ (found : Option Core). option_map_or (λ c. form_of_core seen kid c 0 context.form) found Infix) (core_is core e)
      ∙ (λ t. unwrap_or core.form (cond (is_some (e t) && cond (by_base t) true (not kid.facts.space_like)) context.form rest))
      ∙ a

  base_stretches : (axis : Axis) → StretchesIn m (facts node) context.form axis → StretchesIn m kid.facts (form_at (seen_of node) 0 context.form) axis
  unfolding stretch_axis
  base_stretches axis h = by (facts node).core refl
    where
      by : (found : Option Core) → (facts node).core ≡ found → StretchesIn m kid.facts (form_at (seen_of node) 0 context.form) axis
      by None e = absurd (core_of_stretching (facts node) context.form m.operators axis h.along e)
      by (Some core) e =
          let own = subst (λ (found : Option Core). IfSome found (λ c. unwrap_or c.form context.form ≡ context.form)) e h.by_attribute in
          let form = base_form core e own in
          record {
            along =
                ap (λ (f : Form). stretch_axis kid.facts f m.operators) form
                ∙ ap (λ (found : Option Core). option_and_then (core_axis context.form m.operators) found) (core_is core e ∙ sym e) ∙ h.along;
            by_attribute = by_attribute m (seen_of node) context.form 0 kid base;
          }

-- ---- a child may be asked what it is asked

module _ (m : MetricsValue) (node : Node) (context : Context) (may : MayBeAsked m node context) where
  abbrev seen : Seen
  seen = seen_of node

  abbrev own : Pull
  own = pull_of context.stretch

  handed : (kid : Kid) → slice_get seen.kids 0 ≡ Some kid → hands_down (asking m seen context) ≡ true
      → (stretch : Stretch) → MayCarry m (facts node) context.form stretch
      → MayCarry m kid.facts (form_at seen 0 context.form) (stretch_of (pull_of stretch))
  unfolding pull_of stretch_of seen_of
  handed kid at h Unstretched may' = tt
  handed kid at h (Upright ascent descent) may' = base_stretches m node context kid at (led_by_asking m seen context h) Upwards may'
  handed kid at h (Sideways width) may' = base_stretches m node context kid at (led_by_asking m seen context h) Along may'
  handed kid at h (Columns widths) may' = tt
  handed kid at h (Slots numbers) may' = tt

  along_own : (place : ℕ) (kid : Kid) → slice_get seen.kids place ≡ Some kid → place < length seen.kids
      → (pull : Pull) → IsFor (kid_at (kid_pulls m seen context) place) pull → MayCarry m kid.facts (form_at seen place context.form) (stretch_of pull)
  unfolding stretch_of
  along_own place kid at l Free h = tt
  along_own place kid at l (Block ascent descent) h = record {
    along = sym (axis_is m seen context.form place kid at) ∙ sym (ap (λ (k : KidPull). k.axis) (pull_at m seen context place l)) ∙ h;
    by_attribute = by_attribute m seen context.form place kid at;
  }
  along_own place kid at l (Inline width) h = record {
    along = sym (axis_is m seen context.form place kid at) ∙ sym (ap (λ (k : KidPull). k.axis) (pull_at m seen context place l)) ∙ h;
    by_attribute = by_attribute m seen context.form place kid at;
  }

  carries_it : (place : ℕ) (kid : Kid) → slice_get seen.kids place ≡ Some kid → (pull : Pull)
      → IsFor (kid_at (kid_pulls m seen context) place) pull ⊎ IsHanded (asking m seen context) own place pull
      → MayCarry m kid.facts (form_at seen place context.form) (stretch_of pull)
  carries_it place kid at pull (inl h) = along_own place kid at (slice_get_within seen.kids place kid at) pull h
  carries_it place kid at pull (inr h) =
      let first_kid = subst (λ (p : ℕ). slice_get seen.kids p ≡ Some kid) h.base at in
      let given = handed kid first_kid h.by_its_base context.stretch may in
      let here = subst (λ (p : ℕ). MayCarry m kid.facts (form_at seen p context.form) (stretch_of own)) (sym h.base) given in
      subst (λ (p : Pull). MayCarry m kid.facts (form_at seen place context.form) (stretch_of p)) (sym h.own_pull) here

  module _ (one : List Answer) where
    abbrev all_asks : List Question
    all_asks = both_waves m seen context one

    carried_is_asked : (question : Question) → IsQuestionCarried m seen context (asking m seen context) question → HasPlace m seen context question → MayAsk m seen question
    carried_is_asked question found placed kid at =
        let carried = carries_it question.kid kid at found.pull found.carried.fits in
        let stretch = subst (λ (s : Stretch). MayCarry m kid.facts (form_at seen question.kid context.form) s) (sym found.stretch) carried in
        subst (λ (f : Form). MayCarry m kid.facts f question.context.stretch) (sym (ap (λ (c : Context). c.form) placed)) stretch

    asked_so : (asks : List Question) → All (IsQuestionCarried m seen context (asking m seen context)) asks → All (HasPlace m seen context) asks → All (MayAsk m seen) asks
    asked_so asks h p k d l = carried_is_asked (get_or asks k d) (h k d l) (p k d l)

    -- the rows of a table are asked with its columns or slots
    row_may : (own : Facts) (form : Form) (place : ℕ) → own.laid ≡ Mtr → MayCarry m own form (stretch_at one place)
    unfolding stretch_at
    row_may own form place is = by (has_spans one)
      where
        by : (b : Bool) → MayCarry m own form (cond b (Slots (slots_at (cells_of_rows one) place)) (columns_at one place))
        by true = is
        by false = is

    row_is_asked : asking m seen context ≡ AsTable → (place : ℕ) → MayAsk m seen (row_asked m seen context one place)
    unfolding seen_of
    row_is_asked e place kid at =
        let rows = (tabular node).rows (table_is m seen context e) place kid (slice_get_within seen.kids place kid at) in
        row_may kid.facts (form_at seen place context.form) place
        (sym (ap laid_kid (get_or_from_slice_get seen.kids place kid kid at)) ∙ rows)

    others : (how : Asking) → asking m seen context ≡ how → (how ≡ AsTable → ⊥) → All (MayAsk m seen) (second_as how m seen context one)
    others how e none =
        let twos = second_as how m seen context one in
        asked_so twos
        (subst (λ (h : Asking). All (IsQuestionCarried m seen context h) twos) (sym e) (further_carried m seen context how one none))
        (second_placed m seen context how one)

    twos_asked : (how : Asking) → asking m seen context ≡ how → All (MayAsk m seen) (second_as how m seen context one)
    twos_asked AsTable e = all_listed (MayAsk m seen) (length seen.kids) (row_asked m seen context one) (row_is_asked e)
    twos_asked Nothing e = others Nothing e (λ h. false≢true (ap is_table_asking h))
    twos_asked Plainly e = others Plainly e (λ h. false≢true (ap is_table_asking h))
    twos_asked ForTheBase e = others ForTheBase e (λ h. false≢true (ap is_table_asking h))
    twos_asked AsRow e = others AsRow e (λ h. false≢true (ap is_table_asking h))
    twos_asked AsLimits e = others AsLimits e (λ h. false≢true (ap is_table_asking h))

    may_ask : All (MayAsk m seen) all_asks
    unfolding first second
    may_ask =
        let ones = asked_all m seen context (first_asks (asking m seen context) (kid_pulls m seen context) (pull_of context.stretch)) in
        All-append (MayAsk m seen) ones (second_as (asking m seen context) m seen context one)
        (asked_so ones (ones_carried m seen context) (asked_placed m seen context _)) (twos_asked (asking m seen context) refl)

    plainly : ((facts node).laid ≡ Mtable → ⊥) → All (IsPlain seen) all_asks
    unfolding seen_of
    plainly plain k d l kid at none =
        let question : Question = get_or all_asks k d in
        let placed = all_placed m seen context one k d l in
        let form = ap (λ (c : Context). c.form) placed ∙ plain_form m seen context.form question.kid kid at none in
        let found = all_carried m seen context one plain k d l in
        let may' = may_ask k d l kid at in
        (form, found.stretch ∙ unpulled m kid.facts question.context.form found.pull none (subst (λ (s : Stretch). MayCarry m kid.facts question.context.form s) found.stretch may'))

pub plain_kids : PlainLaw
plain_kids m node context one may plain = plainly m node context may one plain

pub handed_down : HandedLaw
handed_down m node context one may = may_ask m node context may one
