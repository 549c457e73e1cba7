-- The call that asks a regular element again, of which layout sees the same but for one child: what
-- it reads, what that child answers, and what the pass has done then.
use Rattle.std.proofs.Common.{◌≡◌, ◌∙◌, refl, sym, ap, subst, ℕ, ◌+◌, ◌<◌, ◌≤◌, arith, true, false, Bool, List, [], length, get_or, map, set, All, Some, slice_get, Result, IfOk}
use Rattle.std.proofs.lemmas.Result.{IfOk-weaker}
use Rattle.std.proofs.lemmas.Option.{get_or_from_slice_get, slice_get_within}
use Rattle.std.specs.List.{AllByRecursion}
use Rattle.font_metrics.specs.Metrics.{MetricsValue}
use Rattle.math_tree.specs.Trees.{element_count}
use Rattle.math_tree.specs.declared.node.Node.{Node}
use Rattle.math_tree.specs.declared.node.Node.TheViews.{out-Node, size-Node}
use Rattle.embellished.specs.Seen.{Child, HasChild, seen_of}
use Rattle.layout_model.specs.Answers.{answers_in, questions_in}
use Rattle.layout_model.specs.Fits.{AreAnswers, HasFont, HasStyle}
use Rattle.layout_model.specs.Laws.{answer_of}
use Rattle.layout_model.specs.Layout.{equation, in_range, lay}
use Rattle.layout_model.specs.Questions.{first}
use Rattle.layout_model.specs.Range.{outcome_fits}
use Rattle.layout_model.specs.declared.context.Context.{Context}
use Rattle.layout_model.specs.declared.context.Question.{Question}
use Rattle.layout_model.specs.declared.outcome.Answer.{Answer}
use Rattle.layout_model.specs.declared.outcome.Outcome.{Outcome}
use Rattle.layout_model.specs.declared.reply.Reply.{Reply}
use Rattle.layout_model.proofs.Children.{few_below, in_flow, smaller}
use Rattle.layout_model.proofs.Replies.{answers_set, questions_set}
use Rattle.layout_model.proofs.Waves.{broken}
use Rattle.layout_model.proofs.Whole.{ones_false, range_waves}
use Rattle.outcome_cells.specs.Store.{Runs, StoreValue}
use Rattle.kept_results.specs.Backed.{Grows, IsBacked}
use Rattle.kept_results.specs.Contexts.{Suits}
use Rattle.kept_results.specs.Kept.{Agrees, IsKept, IsMissing, IsSound, NamesKept, is_marked}
use Rattle.kept_results.specs.Looking.{IsEarlier, IsMadeAgain, one_at}
use Rattle.kept_results.specs.Passes.{Needs, Passes}
use Rattle.kept_results.specs.Regular.{IsShownBy, restyled, restyled_at}
use Rattle.kept_results.specs.declared.earlier.Earlier.{Earlier}
use Rattle.kept_results.specs.declared.memo.Entry.{Entry}
use Rattle.kept_results.specs.declared.memo.Memo.{Memo}
use Rattle.kept_results.specs.declared.memo.Memo.TheViews.{out-Memo}
use Rattle.kept_results.proofs.Again.{asked_now, asked_there, asks_are_set, entry_made, first_is, fits_again, grow_again, has_child, made_holds, missing_again, named_again, near_below, near_child, now, pass_again, proper_again, put_again, read_entry, regular_again, shown_by, sized_again, still_sized, stored_again, styles_again, told_now, was_here, waves_again}
use Rattle.kept_results.proofs.Agreement.{agrees_child}
use Rattle.kept_results.proofs.Backed.{backed_child, grows_both, grows_step, grows_under, only_same}
use Rattle.kept_results.proofs.Passing.{passes_both}
use Rattle.kept_relay.proofs.RelayCalls.{own_need, own_step}
use Rattle.kept_results.proofs.Shown.{read_at}
use Rattle.kept_results.proofs.Turns.{Waves, sound_made, suits_child, waves_fit, waves_lay, waves_unfit}

-- ---- what the call reads

module _ {m : MetricsValue} {node : Node} {memo : Memo} {context : Context} {before : Earlier} (h : Agrees m node memo) (b : IsEarlier (out-Memo memo) context before) where
  -- the child on the way to the edit, and its memo, are there
  pub child_there : before.child < length (out-Node node).children
  child_there = near_child h b (map (restyled_at m (seen_of node) context before.child) (questions_in b.entry.one)) refl

  pub memo_there : before.child < length (out-Memo memo).below
  memo_there = near_below h b (map (restyled_at m (seen_of node) context before.child) (questions_in b.entry.one)) refl

  -- the question to it before the edit
  pub was_read : (entries : List Entry) (entry : Entry) (replies : List Reply) (reply : Reply) → entries ≡ (out-Memo memo).entries → entry ≡ get_or entries before.entry entry
      → replies ≡ entry.one → reply ≡ get_or replies before.child reply → slice_get (questions_in b.entry.one) before.child ≡ Some reply.question
  was_read entries entry replies reply e entry_is f reply_is = was_here h b replies entry reply f (read_entry h b entries entry e entry_is) reply_is

-- what is known where that child is asked again: the entry of before the edit, the question to the
-- child then and now, and its memo
pub record Turn (m : MetricsValue) (node : Node) (memo : Memo) (context : Context) (before : Earlier) (was asked : Question) (child : Node) (old : Memo) : Type 0 where
  pub agrees : Agrees m node memo
  pub earlier : IsEarlier (out-Memo memo) context before
  pub few : element_count node ≤ 65_536
  pub suits : Suits m node context
  pub was_at : slice_get (questions_in earlier.entry.one) before.child ≡ Some was
  pub is : asked ≡ restyled m (seen_of node) context was
  pub style : HasStyle asked
  pub there : slice_get (out-Node node).children before.child ≡ Some child
  pub at : slice_get (out-Memo memo).below before.child ≡ Some old

-- it is known by what the call has read
pub turn_of : {m : MetricsValue} {node : Node} {memo : Memo} {context : Context} {before : Earlier} {asked : Question} {child : Node} {old : Memo} (h : Agrees m node memo) (b : IsEarlier (out-Memo memo) context before)
    → element_count node ≤ 65_536 → Suits m node context
    → (entries : List Entry) (entry : Entry) (replies : List Reply) (reply : Reply) (children : List Node) (shown : Node)
    → entries ≡ (out-Memo memo).entries → entry ≡ get_or entries before.entry entry → replies ≡ entry.one → reply ≡ get_or replies before.child reply
    → shown ≡ node → asked ≡ restyled m (seen_of shown) context reply.question → HasStyle asked
    → children ≡ (out-Node node).children → child ≡ get_or children before.child child → slice_get (out-Memo memo).below before.child ≡ Some old
    → Turn m node memo context before reply.question asked child old
turn_of {m} {node} {memo} {context} {before} {asked} {child} {old} h b few suits entries entry replies reply children shown e entry_is f reply_is shown_is is style g child_is at =
    record {
      agrees = h;
      earlier = b;
      few = few;
      suits = suits;
      was_at = was_read h b entries entry replies reply e entry_is f reply_is;
      is = is ∙ ap (λ (n : Node). restyled m (seen_of n) context reply.question) shown_is;
      style = style;
      there = read_at children (out-Node node).children before.child child g (child_there h b) child_is;
      at = at;
    }

module _ {m : MetricsValue} {node : Node} {memo : Memo} {context : Context} {before : Earlier} {was asked : Question} {child : Node} {old : Memo}
    (turn : Turn m node memo context before was asked child old) where
  abbrev asks : List Question
  asks = set (questions_in turn.earlier.entry.one) before.child asked

  o : asks ≡ map (restyled_at m (seen_of node) context before.child) (questions_in turn.earlier.entry.one)
  o = asks_are_set turn.agrees turn.earlier was asked turn.was_at turn.is

  own_ask : slice_get asks before.child ≡ Some asked
  own_ask = asked_there turn.agrees turn.earlier was asked turn.was_at turn.is

  styles : All HasStyle asks
  styles = styles_again turn.agrees turn.earlier was asked turn.was_at turn.is turn.style

  first_again : asks ≡ first m (seen_of node) context
  first_again = first_is turn.agrees turn.earlier asks o

  -- ---- the child is asked

  goes : (P : Child → Type 0) → P record { place = before.child; node = child } → HasChild node asked.kid P
  goes P holds = has_child turn.agrees turn.earlier asks o before.child asked child own_ask turn.there P holds

  node_is : HasChild node asked.kid (λ x. x.node ≡ child)
  node_is = goes (λ x. x.node ≡ child) refl

  place_is : HasChild node asked.kid (λ x. x.place ≡ before.child)
  place_is = goes (λ x. x.place ≡ before.child) refl

  pub child_smaller : size-Node child < size-Node node
  child_smaller = smaller node child asked.kid before.child node_is place_is

  pub child_few : element_count child ≤ 65_536
  child_few = let few = few_below node child asked.kid before.child node_is place_is in omega (arith, few, turn.few)

  pub child_agrees : Agrees m child old
  child_agrees = agrees_child m node memo before.child child old turn.agrees turn.there turn.at

  pub child_backed : {runs : Runs} → IsBacked m runs node memo → IsBacked m runs child old
  child_backed {runs} backed = backed_child m runs node memo before.child child old backed turn.there turn.at

  pub child_suits : Suits m child asked.context
  child_suits =
      suits_child node child asked.kid before.child node_is place_is m asked refl
      (proper_again turn.agrees turn.earlier asks o turn.suits styles before.child asked own_ask)

  -- it is refused: so is the element
  pub child_unfit : in_range m child asked.context ≡ false → in_range m node context ≡ false
  child_unfit bad =
      ones_false _ _ _ _ (range_waves m node node context refl asks first_again (map (answer_of m node) asks) refl _ refl)
      (broken m node asks before.child asked child (slice_get_within asks before.child asked own_ask) (sym (get_or_from_slice_get asks before.child asked asked own_ask))
      (in_flow node child asked.kid before.child node_is place_is) bad)

  pub passed_child : {new : Memo} {from mid : ℕ} {done : Bool} → Passes m child (Needs m child asked.context) old new from mid done
      → Passes m node (Needs m node context) memo (now turn.agrees turn.earlier new) from mid done
  passed_child {new} {from} {mid} {done} pass = pass_again turn.agrees turn.earlier asks o asked own_ask child turn.there old new turn.at pass.keeps from mid done pass

  pub grown_child : {new : Memo} {held holds : StoreValue} {from mid : ℕ} {done : Bool} → IsBacked m held.runs node memo → Grows m child old new held holds from mid done
      → Grows m node memo (now turn.agrees turn.earlier new) held holds from mid done
  grown_child backed grows = grows_under m node memo before.child turn.agrees backed turn.there turn.at grows

-- ---- the child has answered

-- what is known then
pub record Heard (m : MetricsValue) (node : Node) (memo : Memo) (context : Context) (before : Earlier) (was asked : Question) (child : Node) (old new : Memo) (from mid : ℕ) (answer : Answer) : Type 0 where
  pub turn : Turn m node memo context before was asked child old
  pub passed : Passes m child (Needs m child asked.context) old new from mid true
  pub is : answer ≡ (lay m child asked.context).answer
  pub kept : IsKept (out-Memo new) asked.context

pub heard_of : {m : MetricsValue} {node : Node} {memo : Memo} {context : Context} {before : Earlier} {was asked : Question} {child : Node} {old new : Memo} {from mid : ℕ} {answer : Answer}
    → Turn m node memo context before was asked child old → Passes m child (Needs m child asked.context) old new from mid true → answer ≡ (lay m child asked.context).answer
    → IsKept (out-Memo new) asked.context → Heard m node memo context before was asked child old new from mid answer
heard_of turn passed is kept = record { turn = turn; passed = passed; is = is; kept = kept }

module _ {m : MetricsValue} {node : Node} {memo : Memo} {context : Context} {before : Earlier} {was asked : Question} {child : Node} {old new : Memo} {from mid : ℕ} {answer : Answer}
    (d : Heard m node memo context before was asked child old new from mid answer) where
  abbrev reply : Reply
  reply = record { question = asked; answer = answer }

  abbrev answers : List Answer
  answers = set (answers_in d.turn.earlier.entry.one) before.child answer

  abbrev below_now : List Memo
  below_now = (out-Memo (now d.turn.agrees d.turn.earlier new)).below

  -- the replies of the entry with this one
  abbrev replies : List Reply
  replies = set (one_at (out-Memo (now d.turn.agrees d.turn.earlier new)) before.entry) before.child reply

  abbrev outcome : Outcome
  outcome = equation m (seen_of node) context (answers_in replies) []

  agrees : Agrees m node (now d.turn.agrees d.turn.earlier new)
  agrees = (passed_child d.turn d.passed).agrees

  pub shown_again : IsShownBy (now d.turn.agrees d.turn.earlier new) node
  shown_again = shown_by d.turn.agrees d.turn.earlier (now d.turn.agrees d.turn.earlier new) agrees d.turn.few

  pub ones_again : questions_in replies ≡ first m (seen_of node) context
  ones_again = asked_now d.turn.agrees d.turn.earlier new asked answer ∙ first_again d.turn

  pub answers_again : AreAnswers (answers_in replies)
  answers_again =
      subst AreAnswers (sym (told_now d.turn.agrees d.turn.earlier new asked answer))
      (stored_again d.turn.agrees d.turn.earlier (asks d.turn) (o d.turn) asked (own_ask d.turn) child d.turn.there old new d.turn.at d.passed.keeps answer d.is answers refl agrees d.kept d.turn.few)

  pub fonts_again : All (HasFont m) (questions_in replies)
  fonts_again =
      subst (All (HasFont m)) (sym (asked_now d.turn.agrees d.turn.earlier new asked answer))
      (sized_again d.turn.agrees d.turn.earlier (asks d.turn) (o d.turn) asked (own_ask d.turn) child d.turn.there old new d.turn.at d.passed.keeps answer d.is answers refl agrees d.kept d.turn.few)

  named : AllByRecursion (NamesKept node below_now) (asks d.turn)
  named = named_again d.turn.agrees d.turn.earlier (asks d.turn) (o d.turn) asked (own_ask d.turn) child d.turn.there old new d.turn.at d.passed.keeps answer d.is answers refl agrees d.kept

  waves : Waves m node node context (asks d.turn) [] answers []
  waves = waves_again d.turn.agrees d.turn.earlier (asks d.turn) (o d.turn) asked (own_ask d.turn) child d.turn.there old new d.turn.at d.passed.keeps answer d.is answers refl agrees d.kept

  outcome_is : outcome ≡ equation m (seen_of node) context answers []
  outcome_is = ap (λ (l : List Answer). equation m (seen_of node) context l []) (told_now d.turn.agrees d.turn.earlier new asked answer)

  pub answer_again : {E : Type 0} (result : Result Answer E) → IfOk result (λ a. a ≡ outcome.answer) → IfOk result (λ a. a ≡ (lay m node context).answer)
  answer_again result given =
      IfOk-weaker result (λ a. a ≡ outcome.answer) (λ a. a ≡ (lay m node context).answer)
      (λ a e. e ∙ ap (λ (x : Outcome). x.answer) (outcome_is ∙ waves_lay waves)) given

  pub unfit_again : outcome_fits outcome ≡ false → in_range m node context ≡ false
  unfit_again bad = waves_unfit waves (ap outcome_fits (sym outcome_is) ∙ bad)

  pub fit_again : outcome_fits outcome ≡ true → in_range m node context ≡ true
  fit_again fits =
      waves_fit waves (still_sized d.turn.agrees d.turn.earlier) (ap outcome_fits (sym outcome_is) ∙ fits)
      (fits_again d.turn.agrees d.turn.earlier (asks d.turn) (o d.turn) asked (own_ask d.turn) child d.turn.there old new d.turn.at d.passed.keeps answer d.is answers refl agrees d.kept) refl

  -- one step more, and nothing is kept
  pub stepped_again : {after : Memo} {to : ℕ} → after ≡ now d.turn.agrees d.turn.earlier new → IsMissing (is_marked (out-Memo memo)) context (out-Memo memo).entries → to ≡ mid + 1
      → Passes m node (Needs m node context) memo after from to false
  stepped_again {after} {to} same missing step =
      subst (λ (z : Memo). Passes m node (Needs m node context) memo z from to false) (sym same)
      (passes_both m (passed_child d.turn d.passed)
      (own_step agrees (missing_again d.turn.agrees d.turn.earlier (asks d.turn) (o d.turn) before.child new missing) step))

  -- what was put then
  module _ {held middle : StoreValue} (backed : IsBacked m held.runs node memo) (grows : Grows m child old new held middle from mid true) where
    grown_now : Grows m node memo (now d.turn.agrees d.turn.earlier new) held middle from mid true
    grown_now = grown_child d.turn backed grows

    pub unkept_again : {after : Memo} {holds : StoreValue} {to : ℕ} → after ≡ now d.turn.agrees d.turn.earlier new → holds ≡ middle → Grows m node memo after held holds from to false
    unkept_again {after} {holds} {to} same as_was =
        subst (λ (z : Memo). Grows m node memo z held holds from to false) (sym same)
        (grows_both m grown_now (grows_step m node (now d.turn.agrees d.turn.earlier new) middle holds mid to grown_now.backed (only_same middle holds as_was)))

    pub grown_again : {after : Memo} {holds : StoreValue} {to : ℕ} → IsMadeAgain (now d.turn.agrees d.turn.earlier new) after middle holds before outcome reply → to ≡ mid + 1
        → Grows m node memo after held holds from to true
    grown_again {after} {holds} {to} made step =
        grows_both m grown_now (grow_again d.turn.agrees d.turn.earlier new after outcome reply made mid to agrees grown_now.backed (outcome_is ∙ waves_lay waves) step)

  -- the entry is made anew
  module _ {after : Memo} {held holds : StoreValue} (made : IsMadeAgain (now d.turn.agrees d.turn.earlier new) after held holds before outcome reply) (fits : outcome_fits outcome ≡ true) where
    sound : IsSound m node below_now (entry_made d.turn.agrees d.turn.earlier new after outcome reply made)
    sound =
        sound_made waves below_now (entry_made d.turn.agrees d.turn.earlier new after outcome reply made) true (set d.turn.earlier.entry.one before.child reply) []
        (questions_set d.turn.earlier.entry.one before.child reply) (answers_set d.turn.earlier.entry.one before.child reply) refl refl
        (made_holds d.turn.agrees d.turn.earlier new after outcome reply made) d.turn.suits (fit_again fits) (styles d.turn) named tt
        (λ _. regular_again d.turn.agrees d.turn.earlier (asks d.turn) (o d.turn))

    pub passed_again : {to : ℕ} → IsMissing (is_marked (out-Memo memo)) context (out-Memo memo).entries → to ≡ mid + 1
        → Passes m node (Needs m node context) memo after from to true
    passed_again {to} missing step =
        passes_both m (passed_child d.turn d.passed) (put_again d.turn.agrees d.turn.earlier new after outcome reply made mid to agrees sound missing (own_need m node context) step)
