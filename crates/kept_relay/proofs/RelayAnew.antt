-- The call that asks an element anew: what holds of its two waves of questions, which a view of the
-- element asks, and what the pass has done when they are answered.
use Rattle.std.proofs.Common.{◌≡◌, ◌∙◌, refl, sym, ap, subst, ℕ, ◌+◌, ◌≤◌, Bool, true, false, List, map, All, Option, is_some}
use Rattle.std.proofs.lemmas.List.Elements.{All-append}
use Rattle.std.specs.List.{AllByRecursion}
use Rattle.font_metrics.specs.Metrics.{MetricsValue}
use Rattle.math_tree.specs.Trees.{element_count}
use Rattle.math_tree.specs.declared.node.Node.{Node}
use Rattle.embellished.specs.Seen.{seen_of}
use Rattle.style_scope.specs.Sizes.{size_of}
use Rattle.layout_model.specs.Answers.{answers_in, questions_in}
use Rattle.layout_model.specs.Fits.{AreAnswers, HasFont, HasStyle, RepliesAll}
use Rattle.layout_model.specs.Laws.{answer_of}
use Rattle.layout_model.specs.Layout.{equation, in_range, lay}
use Rattle.layout_model.specs.Questions.{first, second}
use Rattle.layout_model.specs.Range.{is_font_size, outcome_fits}
use Rattle.layout_model.specs.declared.context.Context.{Context}
use Rattle.layout_model.specs.declared.context.Question.{Question}
use Rattle.layout_model.specs.declared.outcome.Answer.{Answer}
use Rattle.layout_model.specs.declared.outcome.Outcome.{Outcome}
use Rattle.layout_model.specs.declared.reply.Reply.{Reply}
use Rattle.layout_model.proofs.Fits.{answers_are, fonts_are}
use Rattle.layout_model.proofs.Waves.{all_fit}
use Rattle.layout_model.proofs.Whole.{ones_apart, ones_below, ones_false, range_waves, twos_apart, twos_below, twos_false}
use Rattle.outcome_cells.specs.Store.{StoreValue}
use Rattle.kept_results.specs.Backed.{Grows, OnlyGrows}
use Rattle.kept_results.specs.Contexts.{IsProper, Suits}
use Rattle.kept_results.specs.Kept.{IsKept, IsMissing, IsSound, NamesKept, is_fresh_from, is_marked}
use Rattle.kept_results.specs.Looking.{IsKeptNow}
use Rattle.kept_results.specs.Passes.{AnswersNeed, Needs, Passes}
use Rattle.kept_results.specs.Regular.{IsRegular}
use Rattle.kept_results.specs.Tidy.{AreTidy, IsTidy, is_new}
use Rattle.kept_results.specs.declared.entries.Asked.{Asked}
use Rattle.kept_results.specs.declared.memo.Former.{Former}
use Rattle.kept_results.specs.declared.memo.Memo.{Memo}
use Rattle.kept_results.specs.declared.memo.Memo.TheViews.{out-Memo}
use Rattle.kept_results.proofs.Agreement.{has_added}
use Rattle.kept_results.proofs.Backed.{grows_added, grows_both, grows_step}
use Rattle.kept_results.proofs.Lists.{all_then}
use Rattle.kept_results.proofs.Passing.{fresh_live, passes_both}
use Rattle.kept_relay.proofs.RelayCalls.{own_entry, own_step}
use Rattle.kept_results.proofs.Tidying.{tidy_added}
use Rattle.kept_results.proofs.Turns.{Waves, missing_same, names_still, ones_proper, pass_ones, pass_twos, sound_made, twos_proper, waves_fit, waves_lay}

-- ---- the first wave

-- what is known of the first questions of an element that suits its context
pub record First (m : MetricsValue) (node shown : Node) (context : Context) (ones : List Question) : Type 0 where
  pub few : element_count node ≤ 65_536
  pub suits : Suits m node context
  pub shown_is : shown ≡ node
  pub ones_are : ones ≡ first m (seen_of shown) context
  pub styles : All HasStyle ones

pub ones_known : {m : MetricsValue} {node shown : Node} {context : Context} {ones : List Question} → element_count node ≤ 65_536 → Suits m node context → shown ≡ node
    → ones ≡ first m (seen_of shown) context → All HasStyle ones → First m node shown context ones
ones_known few suits shown_is ones_are styles = record { few = few; suits = suits; shown_is = shown_is; ones_are = ones_are; styles = styles }

module _ {m : MetricsValue} {node shown : Node} {context : Context} {ones : List Question} (w : First m node shown context ones) where
  pub ones_suit : All (IsProper m node) ones
  ones_suit = ones_proper m node shown context w.shown_is ones w.ones_are w.suits w.styles

  -- a pass for them is one for the element
  pub pass_first : {a b : Memo} {from to : ℕ} {done : Bool} → Passes m node (AnswersNeed m node ones) a b from to done → Passes m node (Needs m node context) a b from to done
  pass_first pass = pass_ones m node shown context w.shown_is ones w.ones_are pass

  pub ones_unfit : all_fit m node ones ≡ false → in_range m node context ≡ false
  ones_unfit bad = ones_false _ _ _ _ (range_waves m node shown context w.shown_is ones w.ones_are (map (answer_of m node) ones) refl _ refl) bad

  pub ones_stored : {one : List Answer} → one ≡ map (answer_of m node) ones → all_fit m node ones ≡ true → AreAnswers one
  ones_stored told fit =
      subst AreAnswers (sym told) (answers_are m node w.few ones (ones_apart m node shown context w.shown_is ones w.ones_are) fit)

  ones_sized : all_fit m node ones ≡ true → All (HasFont m) ones
  ones_sized fit = fonts_are m node w.few ones (ones_below m node shown context w.shown_is ones w.ones_are) fit

-- ---- the second wave

-- what is known of the questions that follow what the first were answered
pub record Second (m : MetricsValue) (node shown : Node) (context : Context) (ones twos : List Question) (one : List Answer) : Type 0 where
  pub ahead : First m node shown context ones
  pub one_is : one ≡ map (answer_of m node) ones
  pub one_fit : all_fit m node ones ≡ true
  pub twos_are : twos ≡ second m (seen_of shown) context one
  pub styles : All HasStyle twos

pub twos_known : {m : MetricsValue} {node shown : Node} {context : Context} {ones twos : List Question} {one : List Answer} → First m node shown context ones
    → one ≡ map (answer_of m node) ones → all_fit m node ones ≡ true → twos ≡ second m (seen_of shown) context one → All HasStyle twos → Second m node shown context ones twos one
twos_known ahead one_is one_fit twos_are styles = record { ahead = ahead; one_is = one_is; one_fit = one_fit; twos_are = twos_are; styles = styles }

module _ {m : MetricsValue} {node shown : Node} {context : Context} {ones twos : List Question} {one : List Answer} (w : Second m node shown context ones twos one) where
  pub twos_suit : All (IsProper m node) twos
  twos_suit =
      twos_proper m node shown context w.ahead.shown_is ones w.ahead.ones_are one w.one_is twos w.twos_are w.ahead.suits w.styles
      (ones_stored w.ahead w.one_is w.one_fit)

  pub pass_second : {a b : Memo} {from to : ℕ} {done : Bool} → Passes m node (AnswersNeed m node twos) a b from to done → Passes m node (Needs m node context) a b from to done
  pass_second pass = pass_twos m node shown context w.ahead.shown_is ones w.ahead.ones_are one w.one_is twos w.twos_are pass

  pub twos_unfit : all_fit m node twos ≡ false → in_range m node context ≡ false
  twos_unfit bad = twos_false _ _ _ _ (range_waves m node shown context w.ahead.shown_is ones w.ahead.ones_are one w.one_is twos w.twos_are) bad

  twos_stored : {two : List Answer} → two ≡ map (answer_of m node) twos → all_fit m node twos ≡ true → AreAnswers two
  twos_stored told fit =
      subst AreAnswers (sym told) (answers_are m node w.ahead.few twos (twos_apart m node shown context w.ahead.shown_is ones w.ahead.ones_are one w.one_is twos w.twos_are) fit)

  twos_sized : all_fit m node twos ≡ true → All (HasFont m) twos
  twos_sized fit = fonts_are m node w.ahead.few twos (twos_below m node shown context w.ahead.shown_is ones w.ahead.ones_are one w.one_is twos w.twos_are) fit

-- ---- both are answered

-- what both waves put is what one pass for the element puts
module _ {m : MetricsValue} {node : Node} {memo mid after : Memo} {held middle holds : StoreValue} {from at to : ℕ}
    (one : Grows m node memo mid held middle from at true) (two : Grows m node mid after middle holds at to true) where
  pub grown_waves : Grows m node memo after held holds from to true
  grown_waves = grows_both m one two

  -- one step more, and nothing is kept
  pub unkept_anew : {last : Memo} {put : StoreValue} {end : ℕ} → last ≡ after → OnlyGrows holds put → Grows m node memo last held put from end false
  unkept_anew {last} {put} {end} same only =
      subst (λ (z : Memo). Grows m node memo z held put from end false) (sym same)
      (grows_both m grown_waves (grows_step m node after holds put to end two.backed only))

-- the replies to a wave, and what asking it kept
pub record Told (m : MetricsValue) (node : Node) (asks : List Question) (replies : List Reply) (before after : Memo) (from to : ℕ) : Type 0 where
  pub passed : Passes m node (AnswersNeed m node asks) before after from to true
  pub own : (out-Memo after).entries ≡ (out-Memo before).entries
  pub marked : (out-Memo after).former ≡ (out-Memo before).former
  pub kept : AllByRecursion (NamesKept node (out-Memo after).below) asks
  pub asked : questions_in replies ≡ asks
  pub ok : answers_in replies ≡ map (answer_of m node) asks
  pub fit : all_fit m node asks ≡ true

pub told_of : {m : MetricsValue} {node : Node} {asks : List Question} (replies : List Reply) {before after : Memo} {from to : ℕ} → Passes m node (AnswersNeed m node asks) before after from to true
    → (out-Memo after).entries ≡ (out-Memo before).entries → (out-Memo after).former ≡ (out-Memo before).former → AllByRecursion (NamesKept node (out-Memo after).below) asks
    → questions_in replies ≡ asks → answers_in replies ≡ map (answer_of m node) asks → all_fit m node asks ≡ true → Told m node asks replies before after from to
told_of replies passed own marked kept asked ok fit = record { passed = passed; own = own; marked = marked; kept = kept; asked = asked; ok = ok; fit = fit }

-- both waves, asked and answered
pub record Answered (m : MetricsValue) (node shown : Node) (context : Context) (ones twos : List Question) (said told : List Reply) (memo mid after : Memo) (from at to : ℕ) : Type 0 where
  pub asked : Second m node shown context ones twos (answers_in said)
  pub one : Told m node ones said memo mid from at
  pub two : Told m node twos told mid after at to

pub answered_of : {m : MetricsValue} {node shown : Node} {context : Context} {ones twos : List Question} {said told : List Reply} {memo mid after : Memo} {from at to : ℕ}
    → First m node shown context ones → Told m node ones said memo mid from at → twos ≡ second m (seen_of shown) context (answers_in said) → All HasStyle twos
    → Told m node twos told mid after at to → Answered m node shown context ones twos said told memo mid after from at to
answered_of ahead one twos_are styles two = record { asked = twos_known ahead one.ok one.fit twos_are styles; one = one; two = two }

module _ {m : MetricsValue} {node shown : Node} {context : Context} {ones twos : List Question} {said told : List Reply} {memo mid after : Memo} {from at to : ℕ}
    (d : Answered m node shown context ones twos said told memo mid after from at to) where
  pub waves : Waves m node shown context ones twos (answers_in said) (answers_in told)
  waves = record { shown_is = d.asked.ahead.shown_is; ones_are = d.asked.ahead.ones_are; one_is = d.one.ok; twos_are = d.asked.twos_are; two_is = d.two.ok }

  pub replies_all : RepliesAll m (seen_of shown) context said told
  replies_all = record {
    one_asked = d.one.asked ∙ d.asked.ahead.ones_are;
    two_asked = d.two.asked ∙ d.asked.twos_are;
    one_fits = ones_stored d.asked.ahead d.one.ok d.one.fit;
    two_fits = twos_stored d.asked d.two.ok d.two.fit;
    fonts =
        All-append (HasFont m) (questions_in said) (questions_in told)
        (subst (All (HasFont m)) (sym d.one.asked) (ones_sized d.asked.ahead d.one.fit))
        (subst (All (HasFont m)) (sym d.two.asked) (twos_sized d.asked d.two.fit));
  }

  pub fit_anew : is_font_size (size_of m context.style) ≡ true → outcome_fits (equation m (seen_of shown) context (answers_in said) (answers_in told)) ≡ true
      → in_range m node context ≡ true
  fit_anew size fits = waves_fit waves size fits d.one.fit d.two.fit

  -- both waves are one pass for the element
  both : Passes m node (Needs m node context) memo after from to true
  both = passes_both m (pass_first d.asked.ahead d.one.passed) (pass_second d.asked d.two.passed)

  still_missing : IsMissing (is_marked (out-Memo memo)) context (out-Memo memo).entries → IsMissing (is_marked (out-Memo after)) context (out-Memo after).entries
  still_missing missing =
      missing_same _ _ context _ _ missing (ap (λ (former : Option Former). is_some former) (d.two.marked ∙ d.one.marked)) (d.two.own ∙ d.one.own)

  -- one step more, and nothing is kept
  pub stepped_anew : {last : Memo} {end : ℕ} → last ≡ after → IsMissing (is_marked (out-Memo memo)) context (out-Memo memo).entries → end ≡ to + 1
      → Passes m node (Needs m node context) memo last from end false
  stepped_anew {last} {end} same missing step =
      subst (λ (z : Memo). Passes m node (Needs m node context) memo z from end false) (sym same)
      (passes_both m both (own_step both.agrees (still_missing missing) step))

  -- its outcome is kept
  module _ {last : Memo} {holds put : StoreValue} {outcome : Outcome} {regular : Bool} (kept : IsKeptNow after last holds put context outcome record { one = said; two = told; regular = regular })
      (made : outcome ≡ equation m (seen_of shown) context (answers_in said) (answers_in told)) (fits : in_range m node context ≡ true)
      (is_regular : regular ≡ true → IsRegular m shown context (questions_in said)) where
    regular_still : regular ≡ true → IsRegular m node context ones
    regular_still e = subst (λ (n : Node). IsRegular m n context ones) d.asked.ahead.shown_is (subst (IsRegular m shown context) d.one.asked (is_regular e))

    named : AllByRecursion (NamesKept node (out-Memo after).below) ones
    named = all_then (NamesKept node (out-Memo mid).below) (NamesKept node (out-Memo after).below) (names_still node d.two.passed.keeps) ones d.one.kept

    sound : IsSound m node (out-Memo after).below kept.entry
    sound =
        sound_made waves (out-Memo after).below kept.entry regular said told d.one.asked refl d.two.asked refl kept.holds d.asked.ahead.suits fits d.asked.ahead.styles
        named d.two.kept regular_still

    pub passed_anew : {end : ℕ} → IsMissing (is_marked (out-Memo memo)) context (out-Memo memo).entries → end ≡ to + 1
        → Passes m node (Needs m node context) memo last from end true
    passed_anew {end} missing step =
        subst (λ (z : Memo). Passes m node (Needs m node context) memo z from end true) (sym kept.added)
        (passes_both m both (own_entry both.agrees (still_missing missing) step kept.entry sound kept.holds.in_context kept.made))

    pub grown_anew : {held : StoreValue} {end : ℕ} → Grows m node memo after held holds from to true → end ≡ to + 1 → Grows m node memo last held put from end true
    grown_anew {held} {end} grows step =
        subst (λ (z : Memo). Grows m node memo z held put from end true) (sym kept.added)
        (grows_both m grows (grows_added m node after kept.entry holds put outcome to end both.agrees grows.backed kept.puts
        (made ∙ waves_lay waves ∙ ap (lay m node) (sym kept.holds.in_context)) step))

-- what it leaves, then
module _ {after last : Memo} {holds put : StoreValue} {context : Context} {outcome : Outcome} {asked : Asked} (kept : IsKeptNow after last holds put context outcome asked) where
  pub kept_anew : IsKept (out-Memo last) context
  kept_anew =
      let live = fresh_live (is_marked (out-Memo after)) kept.entry (ap is_fresh_from kept.made) in
      subst (λ (memo : Memo). IsKept (out-Memo memo) context) (sym kept.added)
      record { entry = kept.entry; has = has_added after kept.entry live; in_context = kept.holds.in_context }

  pub tidy_anew : AreTidy (out-Memo after).below → IsTidy last
  tidy_anew tidy = subst IsTidy (sym kept.added) (tidy_added after kept.entry (ap is_new kept.made) tidy)
