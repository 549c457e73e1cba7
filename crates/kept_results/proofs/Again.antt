-- A regular element again, of which layout sees the same but for one child: what it asks, what is
-- answered, and the entry that is made anew.
use Rattle.std.proofs.Common.{◌≡◌, ◌∙◌, ◌⊎◌, inl, inr, refl, sym, ap, subst, ℕ, ◌+◌, ◌<◌, ◌≤◌, arith, Bool, true, false, cond, List, [], ◌∷◌, get_or, length, map, length-set, set, All, Option, None, Some, is_some, slice_get}
use Rattle.std.proofs.lemmas.Bool.{eq-eqb}
use Rattle.std.proofs.lemmas.Bool.Decides.{eqb_tells}
use Rattle.std.proofs.lemmas.List.{length-map}
use Rattle.std.proofs.lemmas.List.Elements.{All-set}
use Rattle.std.proofs.lemmas.Option.{get_or_from_slice_get, none-some, same_Some, slice_get_within}
use Rattle.std.specs.List.{AllByRecursion}
use Rattle.std.specs.Option.{option_and_then, option_map_or}
use Rattle.font_metrics.specs.Metrics.{MetricsValue}
use Rattle.math_tree.specs.Trees.{element_count}
use Rattle.math_tree.specs.declared.node.Node.{Node}
use Rattle.math_tree.specs.declared.node.Node.TheViews.{out-Node}
use Rattle.embellished.specs.Seen.{Child, HasChild, flow_children, seen_of}
use Rattle.style_scope.specs.Sizes.{size_of}
use Rattle.embellished.proofs.InFlow.{shown}
use Rattle.layout_model.specs.Answers.{answers_in, questions_in}
use Rattle.layout_model.specs.Laws.{answer_of}
use Rattle.layout_model.specs.Fits.{AreAnswers, HasFont, HasStyle}
use Rattle.layout_model.specs.Layout.{lay}
use Rattle.layout_model.specs.Questions.{IsBelow, first}
use Rattle.layout_model.specs.Range.{is_font_size}
use Rattle.layout_model.specs.declared.context.Context.{Context}
use Rattle.layout_model.specs.declared.context.Question.{Question}
use Rattle.layout_model.specs.declared.outcome.Answer.{Answer}
use Rattle.layout_model.specs.declared.outcome.Outcome.{Outcome}
use Rattle.layout_model.specs.declared.reply.Reply.{Reply}
use Rattle.layout_model.proofs.Made.{answer_of_child}
use Rattle.layout_model.proofs.Places.{first_below}
use Rattle.layout_model.proofs.Replies.{answer_there, answers_set, as_many, asked_within, question_there, question_was, questions_set}
use Rattle.layout_model.proofs.Children.{few_children}
use Rattle.layout_model.specs.Waves.{times_asked}
use Rattle.layout_model.proofs.Counted.{each_wave}
use Rattle.layout_model.proofs.Fits.{answers_are as answers_are_stored, fonts_are}
use Rattle.layout_model.proofs.Together.{AreApart}
use Rattle.layout_model.proofs.Waves.{all_fit}
use Rattle.child_questions.proofs.Unstretched.{one_wave}
use Rattle.outcome_cells.specs.Store.{StoreValue}
use Rattle.kept_results.specs.Backed.{Grows, IsBacked}
use Rattle.kept_results.specs.Contexts.{IsProper, Suits}
use Rattle.kept_results.specs.Ends.{undone, undone_from}
use Rattle.kept_results.specs.Kept.{Agrees, IsKept, IsMemoOf, IsMissing, IsSound, Keeps, NamesKept, StaysBut, is_fresh, is_live, is_marked}
use Rattle.kept_results.specs.Looking.{IsEarlier, IsEntryOf, IsMadeAgain, one_at, remade, turned}
use Rattle.kept_results.specs.Passes.{AnswersNeed, Needs, Pair, Passes}
use Rattle.kept_results.specs.Regular.{IsRegular, IsShownBy, restyled, restyled_at}
use Rattle.kept_results.specs.Tidy.{AreTidy, IsTidy}
use Rattle.kept_results.specs.declared.earlier.Earlier.{Earlier}
use Rattle.kept_results.specs.declared.memo.Memo.{Memo}
use Rattle.kept_results.specs.declared.memo.Entry.{Entry}
use Rattle.kept_results.specs.declared.memo.Former.{Former}
use Rattle.kept_results.specs.declared.memo.Origin.{Origin}
use Rattle.kept_results.specs.declared.memo.Origin.TheVariants.{Standing}
use Rattle.kept_results.specs.declared.memo.Memo.TheOpen.{Memo-F}
use Rattle.kept_results.specs.declared.memo.Memo.TheViews.{out-Memo, out-roll-Memo, roll-Memo}
use Rattle.kept_results.proofs.Agreement.{has_put, names_renewed, renewed}
use Rattle.kept_results.proofs.Backed.{grows_put}
use Rattle.kept_results.proofs.Lists.{set_back, set_here, set_other}
use Rattle.kept_results.proofs.Passing.{fresh_live, pair_at, passes_put, passes_under, under}
use Rattle.kept_results.proofs.Restyling.{all_at, all_named_fit, kid_stays, map_was, mapped_at, other_stays}
use Rattle.kept_results.proofs.Shown.{as_many_kids, flow_at, read_at, there_is}
use Rattle.kept_results.proofs.Tidying.{stands, tidy_again}
use Rattle.kept_results.proofs.Turns.{Waves, facts_known, missing_same, needed_below, ones_proper, own_entries, own_mark, pass_ones}

-- ---- what the element asks

module _ {m : MetricsValue} {node : Node} {memo : Memo} {context : Context} {before : Earlier} (h : Agrees m node memo) (b : IsEarlier (out-Memo memo) context before) where
  abbrev restyle : Question → Question
  restyle question = restyled_at m (seen_of node) context before.child question

  own : IsMemoOf m node (out-Memo memo)
  own = h.at [] node memo (refl, refl)

  pub stays : StaysBut m node (out-Memo memo).below before.child b.entry
  stays = own.stays before.child b.alike before.entry b.entry b.at b.serves.older b.serves.regular

  pub still_regular : IsRegular m node context (questions_in b.entry.one)
  still_regular = subst (λ (c : Context). IsRegular m node c (questions_in b.entry.one)) b.serves.in_context stays.regular

  pub shown_by : (other : Memo) → Agrees m node other → element_count node ≤ 65_536 → IsShownBy other node
  shown_by other agrees few = record {
    own = (agrees.at [] node other (refl, refl)).facts_are;
    kids = facts_known m node other agrees;
    few = omega (arith, few_children node, few);
    all = still_regular.all;
    behind = still_regular.behind;
  }

  pub still_sized : is_font_size (size_of m context.style) ≡ true
  still_sized = ap (λ (c : Context). is_font_size (size_of m c.style)) (sym b.serves.in_context) ∙ stays.sized

  pub asks_are : map restyle (questions_in b.entry.one) ≡ first m (seen_of node) context
  asks_are =
      ap (λ (c : Context). map (restyled_at m (seen_of node) c before.child) (questions_in b.entry.one)) (sym b.serves.in_context)
      ∙ sym stays.ones ∙ ap (first m (seen_of node)) b.serves.in_context

  -- what another child was asked and answered holds still
  still_other : (i : ℕ) (q : Question) (answer : Answer) → slice_get (questions_in b.entry.one) i ≡ Some q → slice_get (answers_in b.entry.one) i ≡ Some answer
      → (i ≡ before.child → ⊥) → (answer ≡ answer_of m node q) × NamesKept node (out-Memo memo).below q
  still_other i q answer q_at answer_at apart =
      let r = question_was b.entry.one i q q_at in
      let holds = stays.others i r.0 r.1 apart in
      let told : answer ≡ r.0.answer = same_Some answer r.0.answer (sym answer_at ∙ answer_there b.entry.one i r.0 r.1) in
      (told ∙ holds.0 ∙ ap (answer_of m node) (sym r.2), subst (NamesKept node (out-Memo memo).below) (sym r.2) holds.1)

  module _ (asks : List Question) (o : asks ≡ map restyle (questions_in b.entry.one)) where
    pub as_many_asks : length asks ≡ length (questions_in b.entry.one)
    as_many_asks = ap length o ∙ length-map (questions_in b.entry.one) restyle

    pub first_is : asks ≡ first m (seen_of node) context
    first_is = o ∙ asks_are

    -- a question was asked before
    asked_at : (i : ℕ) (question : Question) → slice_get asks i ≡ Some question → (q : Question) × (slice_get (questions_in b.entry.one) i ≡ Some q) × (question ≡ restyle q)
    asked_at i question at = map_was restyle (questions_in b.entry.one) i question (ap (λ (l : List Question). slice_get l i) (sym o) ∙ at)

    pub kid_is : (i : ℕ) (question : Question) → slice_get asks i ≡ Some question → question.kid ≡ i
    kid_is i question at =
        let q = asked_at i question at in
        ap (λ (x : Question). x.kid) q.2 ∙ kid_stays m (seen_of node) context before.child q.0 ∙ still_regular.in_order i q.0 q.1

    -- the child to which it goes
    pub near : (i : ℕ) (question : Question) → slice_get asks i ≡ Some question → i < length (out-Node node).children
    near i question at =
        let all = first_below m (seen_of node) context i question (slice_get_within (first m (seen_of node) context) i question (ap (λ (l : List Question). slice_get l i) (sym first_is) ∙ at)) in
        let below : question.kid < length (seen_of node).kids = subst (IsBelow (length (seen_of node).kids)) (get_or_from_slice_get (first m (seen_of node) context) i question question (ap (λ (l : List Question). slice_get l i) (sym first_is) ∙ at)) all in
        omega (arith, below, kid_is i question at, as_many_kids node still_regular.all)

    pub within_asks : before.child < length asks
    within_asks = let w = asked_within b.entry.one before.child b.serves.within in omega (arith, w, as_many_asks)

    pub near_child : before.child < length (out-Node node).children
    near_child = let q = there_is asks before.child within_asks in near before.child q.0 q.1

    pub near_below : before.child < length (out-Memo memo).below
    near_below = let l = own.as_many in omega (arith, near_child, l)

    pub near_kids : before.child < length (seen_of node).kids
    near_kids = omega (arith, near_child, as_many_kids node still_regular.all)

    pub goes_to : (i : ℕ) (question : Question) (child : Node) → slice_get asks i ≡ Some question → slice_get (out-Node node).children i ≡ Some child
        → slice_get (flow_children node) question.kid ≡ Some record { place = i; node = child }
    goes_to i question child at there = ap (slice_get (flow_children node)) (kid_is i question at) ∙ flow_at node i child still_regular.all there

    -- ---- with the answer of one child
    module _ (question : Question) (asked : slice_get asks before.child ≡ Some question) (child : Node) (there : slice_get (out-Node node).children before.child ≡ Some child)
        (old new : Memo) (at : slice_get (out-Memo memo).below before.child ≡ Some old) (keeps : Keeps old new) where
      pub answers_are : (answer : Answer) → answer ≡ (lay m child question.context).answer → set (answers_in b.entry.one) before.child answer ≡ map (answer_of m node) asks
      answers_are answer e =
          let long : length (set (answers_in b.entry.one) before.child answer) ≡ length asks =
          length-set (answers_in b.entry.one) before.child answer ∙ as_many b.entry.one ∙ sym as_many_asks in
          mapped_at (answer_of m node) (set (answers_in b.entry.one) before.child answer) asks long
          (λ i y q y_at q_at.
          elim (set_other (answers_in b.entry.one) before.child i answer y y_at) [
            | inl p ↦ (
                let same : question ≡ q = same_Some question q (sym asked ∙ ap (slice_get asks) (sym p.0) ∙ q_at) in
                p.1 ∙ e ∙ sym (answer_of_child m node question record { place = before.child; node = child } (goes_to before.child question child asked there))
                ∙ ap (answer_of m node) same
                )
            | inr k ↦ (
                let was = asked_at i q q_at in
                let other : was.0.kid ≡ before.child → ⊥ = λ z. k.0 (sym (still_regular.in_order i was.0 was.1) ∙ z) in
                let same : q ≡ was.0 = was.2 ∙ other_stays m (seen_of node) context before.child was.0 other in
                (still_other i was.0 y was.1 k.1 k.0).0 ∙ ap (answer_of m node) (sym same)
                )
          ])

      name_at : IsKept (out-Memo new) question.context → (i : ℕ) (q : Question) → slice_get asks i ≡ Some q → (i ≡ before.child) ⊎ (i ≡ before.child → ⊥)
          → NamesKept node (set (out-Memo memo).below before.child new) q
      name_at kept i q q_at (inl e) =
          let same : question ≡ q = same_Some question q (sym asked ∙ ap (slice_get asks) (sym e) ∙ q_at) in
          subst (NamesKept node (set (out-Memo memo).below before.child new)) same
          record {
            child = record { place = before.child; node = child };
            to = goes_to before.child question child asked there;
            memo = new;
            at = set_here (out-Memo memo).below before.child new old at;
            kept = kept;
          }
      name_at kept i q q_at (inr other) =
          let was = asked_at i q q_at in
          let l = as_many b.entry.one in
          let a = there_is (answers_in b.entry.one) i (omega (arith, l, slice_get_within (questions_in b.entry.one) i was.0 was.1)) in
          let apart : was.0.kid ≡ before.child → ⊥ = λ z. other (sym (still_regular.in_order i was.0 was.1) ∙ z) in
          let same : q ≡ was.0 = was.2 ∙ other_stays m (seen_of node) context before.child was.0 apart in
          names_renewed memo before.child old new at keeps node q
          (subst (NamesKept node (out-Memo memo).below) (sym same) (still_other i was.0 a.0 was.1 a.1 other).1)

      same_place : (i : ℕ) → (i ≡ before.child) ⊎ (i ≡ before.child → ⊥)
      same_place i = elim (eqb_tells i before.child) [ inl p ↦ inl p.1 | inr q ↦ inr q.1 ]

      pub names_are : IsKept (out-Memo new) question.context → AllByRecursion (NamesKept node (set (out-Memo memo).below before.child new)) asks
      names_are kept = all_at (NamesKept node (set (out-Memo memo).below before.child new)) asks (λ i q q_at. name_at kept i q q_at (same_place i))

      -- ---- a pass over that child
      module _ (from to : ℕ) (done : Bool) (made : Passes m child (Needs m child question.context) old new from to done) where
        need : (pair : Pair) → Needs m child question.context pair → AnswersNeed m node asks (under before.child pair)
        need pair k =
            needed_below m node child before.child asks before.child question (slice_get_within asks before.child question asked)
            (sym (get_or_from_slice_get asks before.child question question asked)) (goes_to before.child question child asked there) pair k

        pub pass_again : Passes m node (Needs m node context) memo (roll-Memo (renewed memo before.child new)) from to done
        pass_again =
            pass_ones m node node context refl asks first_is
            (passes_under m node memo before.child (AnswersNeed m node asks) h there at need made)

      -- both waves, where it is done
      module _ (answer : Answer) (e : answer ≡ (lay m child question.context).answer) (one : List Answer) (one_is : one ≡ set (answers_in b.entry.one) before.child answer)
          (now : Agrees m node (roll-Memo (renewed memo before.child new))) (kept : IsKept (out-Memo new) question.context) where
        pub named_again : AllByRecursion (NamesKept node (out-Memo (roll-Memo (renewed memo before.child new))).below) asks
        named_again =
            subst (λ (l : Memo-F Memo). AllByRecursion (NamesKept node l.below) asks) (sym (out-roll-Memo (renewed memo before.child new))) (names_are kept)

        pub fits_again : all_fit m node asks ≡ true
        fits_again = all_named_fit m node (roll-Memo (renewed memo before.child new)) asks now named_again

        pub told_again : one ≡ map (answer_of m node) asks
        told_again = one_is ∙ answers_are answer e

        pub waves_again : Waves m node node context asks [] one []
        waves_again = record {
          shown_is = refl;
          ones_are = first_is;
          one_is = told_again;
          twos_are = sym (one_wave m (seen_of node) context one still_regular.one_wave);
          two_is = refl;
        }

        pub stored_again : element_count node ≤ 65_536 → AreAnswers one
        stored_again few =
            let ones : first m (seen_of node) context ≡ asks = sym first_is in
            let apart : AreApart (length (seen_of node).kids) asks = record {
              below = subst (All (IsBelow (length (seen_of node).kids))) ones (first_below m (seen_of node) context);
              once = λ kid. subst (λ (list : List Question). times_asked kid list ≤ 1) ones (each_wave m (seen_of node) context [] kid).0;
            } in
            subst AreAnswers (sym told_again) (answers_are_stored m node few asks apart fits_again)

        pub sized_again : element_count node ≤ 65_536 → All (HasFont m) asks
        sized_again few =
            fonts_are m node few asks (subst (All (IsBelow (length (seen_of node).kids))) (sym first_is) (first_below m (seen_of node) context)) fits_again

    pub regular_again : IsRegular m node context asks
    regular_again = record {
      all = still_regular.all;
      behind = still_regular.behind;
      one_wave = still_regular.one_wave;
      in_order = kid_is;
    }

    pub missing_again : (place : ℕ) (new : Memo) → IsMissing (is_marked (out-Memo memo)) context (out-Memo memo).entries
        → IsMissing (is_marked (out-Memo (roll-Memo (renewed memo place new)))) context (out-Memo (roll-Memo (renewed memo place new))).entries
    missing_again place new none =
        missing_same _ _ context _ _ none (ap (λ (former : Option Former). is_some former) (own_mark memo place new)) (own_entries memo place new)

    pub proper_again : Suits m node context → All HasStyle asks → (i : ℕ) (question : Question) → slice_get asks i ≡ Some question → IsProper m node question
    proper_again suits styles i question at =
        let all = ones_proper m node node context refl asks first_is suits styles in
        subst (IsProper m node) (get_or_from_slice_get asks i question question at) (all i question (slice_get_within asks i question at))

    -- the child to which a question goes
    pub has_child : (i : ℕ) (question : Question) (child : Node) → slice_get asks i ≡ Some question → slice_get (out-Node node).children i ≡ Some child
        → (P : Child → Type 0) → P record { place = i; node = child } → HasChild node question.kid P
    has_child i question child at there P holds = record {
      child = record { place = i; node = child };
      in_flow = goes_to i question child at there;
      among = there;
      shown = shown node question.kid record { place = i; node = child } (goes_to i question child at there);
      holds = holds;
    }

  -- what the code reads
  pub read_entry : (list : List Entry) (entry : Entry) → list ≡ (out-Memo memo).entries → entry ≡ get_or list before.entry entry → entry ≡ b.entry
  read_entry list entry e is =
      is ∙ ap (λ (l : List Entry). get_or l before.entry entry) e ∙ get_or_from_slice_get (out-Memo memo).entries before.entry b.entry entry b.at

  -- ---- the question to the child on the way, once more

  module _ (was asked : Question) (was_at : slice_get (questions_in b.entry.one) before.child ≡ Some was) (is : asked ≡ restyled m (seen_of node) context was) where
    restyled_here : (i : ℕ) (q : Question) → slice_get (questions_in b.entry.one) i ≡ Some q → i ≡ before.child → restyle q ≡ asked
    restyled_here i q at e =
        let own : q.kid ≡ before.child = still_regular.in_order i q at ∙ e in
        let same : q ≡ was = same_Some q was (sym at ∙ ap (slice_get (questions_in b.entry.one)) e ∙ was_at) in
        ap (λ (t : Bool). cond t (restyled m (seen_of node) context q) q) (eq-eqb q.kid before.child own)
        ∙ ap (restyled m (seen_of node) context) same ∙ sym is

    restyled_there : (i : ℕ) (q : Question) → slice_get (questions_in b.entry.one) i ≡ Some q → (i ≡ before.child → ⊥) → restyle q ≡ q
    restyled_there i q at other = other_stays m (seen_of node) context before.child q (λ e. other (sym (still_regular.in_order i q at) ∙ e))

    pub asks_are_set : set (questions_in b.entry.one) before.child asked ≡ map restyle (questions_in b.entry.one)
    asks_are_set =
        mapped_at restyle (set (questions_in b.entry.one) before.child asked) (questions_in b.entry.one) (length-set (questions_in b.entry.one) before.child asked)
        (λ i y q y_at q_at.
        elim (set_other (questions_in b.entry.one) before.child i asked y y_at) [
          | inl p ↦ p.1 ∙ sym (restyled_here i q q_at p.0)
          | inr k ↦ same_Some y q (sym k.1 ∙ q_at) ∙ sym (restyled_there i q q_at k.0)
        ])

    pub asked_there : slice_get (set (questions_in b.entry.one) before.child asked) before.child ≡ Some asked
    asked_there = set_here (questions_in b.entry.one) before.child asked was was_at

    pub styles_again : HasStyle asked → All HasStyle (set (questions_in b.entry.one) before.child asked)
    styles_again style = All-set HasStyle (questions_in b.entry.one) before.child asked style stays.styled

  pub was_near : (was : Question) → slice_get (questions_in b.entry.one) before.child ≡ Some was → was.kid < length (seen_of node).kids
  was_near was at =
      let near = near_kids (map restyle (questions_in b.entry.one)) refl in
      omega (arith, near, still_regular.in_order before.child was at)

  pub was_here : (list : List Reply) (entry : Entry) (was : Reply) → list ≡ entry.one → entry ≡ b.entry → was ≡ get_or list before.child was
      → slice_get (questions_in b.entry.one) before.child ≡ Some was.question
  was_here list entry was e f is =
      question_there b.entry.one before.child was (read_at list b.entry.one before.child was (e ∙ ap (λ (x : Entry). x.one) f) b.serves.within is)

  marked : is_marked (out-Memo memo) ≡ true
  marked = by (out-Memo memo).former b.alike
    where
      by : (former : Option Former) → option_and_then (λ (f : Former). f.alike_but) former ≡ Some before.child → is_some former ≡ true
      by None e = absurd (none-some before.child e)
      by (Some former) e = refl

  -- ---- made anew, behind the pass over that child

  module _ (new : Memo) where
    abbrev pub now : Memo
    now = roll-Memo (renewed memo before.child new)

    pub entry_now : slice_get (out-Memo now).entries before.entry ≡ Some b.entry
    entry_now = ap (λ (l : List Entry). slice_get l before.entry) (own_entries memo before.child new) ∙ b.at

    pub near_entry : before.entry < length (out-Memo now).entries
    near_entry = slice_get_within (out-Memo now).entries before.entry b.entry entry_now

    pub one_now : one_at (out-Memo now) before.entry ≡ b.entry.one
    one_now = ap (λ (o : Option Entry). option_map_or (λ (e : Entry). e.one) o []) entry_now

    module _ (asked : Question) (answer : Answer) where
      abbrev pub reply : Reply
      reply = record { question = asked; answer = answer }

      -- what is asked and answered with this reply
      pub asked_now : questions_in (set (one_at (out-Memo now) before.entry) before.child reply) ≡ set (questions_in b.entry.one) before.child asked
      asked_now = ap (λ (l : List Reply). questions_in (set l before.child reply)) one_now ∙ questions_set b.entry.one before.child reply

      pub told_now : answers_in (set (one_at (out-Memo now) before.entry) before.child reply) ≡ set (answers_in b.entry.one) before.child answer
      told_now = ap (λ (l : List Reply). answers_in (set l before.child reply)) one_now ∙ answers_set b.entry.one before.child reply

    module _ {held holds : StoreValue} (after : Memo) (outcome : Outcome) (reply : Reply) (made : IsMadeAgain now after held holds before outcome reply) where
      abbrev pub entry_made : Entry
      entry_made = remade (turned made.entry before.child reply) made.run before.child made.had

      pub was_entry : made.entry ≡ b.entry
      was_entry = same_Some made.entry b.entry (sym made.at ∙ entry_now)

      pub made_holds : IsEntryOf entry_made context record { one = set b.entry.one before.child reply; two = []; regular = true }
      made_holds = record {
        in_context = ap (λ (e : Entry). e.context) was_entry ∙ b.serves.in_context;
        one_is = ap (λ (e : Entry). set e.one before.child reply) was_entry;
        two_is = ap (λ (e : Entry). e.two) was_entry ∙ stays.two;
        regular_is = ap (λ (e : Entry). e.regular) was_entry ∙ b.serves.regular;
      }

      stood : made.entry.origin ≡ Standing
      stood = stands made.entry.origin (ap is_fresh was_entry ∙ b.serves.older)

      pub same_before : undone entry_made ≡ undone made.entry
      same_before =
          (λ i. record {
            context = made.entry.context;
            run = made.entry.run;
            one = set_back made.entry.one before.child reply made.had made.has i;
            two = made.entry.two;
            regular = made.entry.regular;
            origin = sym stood i;
          } ∷ [])
          ∙ sym (ap (λ (o : Origin). undone_from o made.entry) stood)

      pub was_older : is_live (is_marked (out-Memo now)) made.entry ≡ false
      was_older =
          let mark : is_marked (out-Memo now) ≡ true = ap (λ (f : Option Former). is_some f) (own_mark memo before.child new) ∙ marked in
          ap (λ (t : Bool). is_live t made.entry) mark ∙ ap is_fresh was_entry ∙ b.serves.older

      -- one step more, whose outcome is kept
      pub put_again : (from to : ℕ) → Agrees m node now → IsSound m node (out-Memo now).below entry_made
          → IsMissing (is_marked (out-Memo memo)) context (out-Memo memo).entries → Needs m node context (pair_at [] context) → to ≡ from + 1
          → Passes m node (Needs m node context) now after from to true
      put_again from to agrees sound missing need step =
          subst (λ (z : Memo). Passes m node (Needs m node context) now z from to true) (sym made.changed)
          (passes_put m node (Needs m node context) now before.entry made.entry entry_made context from to agrees made.at was_older same_before sound
          (missing_again (map restyle (questions_in b.entry.one)) refl before.child new missing) made_holds.in_context refl need step)

      pub grow_again : (from to : ℕ) → Agrees m node now → IsBacked m held.runs node now → outcome ≡ lay m node context → to ≡ from + 1 → Grows m node now after held holds from to true
      grow_again from to agrees backed is step =
          subst (λ (z : Memo). Grows m node now z held holds from to true) (sym made.changed)
          (grows_put m node now before.entry entry_made held holds outcome from to agrees backed made.puts (is ∙ ap (lay m node) (sym made_holds.in_context)) step)

      pub kept_again : IsKept (out-Memo after) context
      kept_again =
          subst (λ (z : Memo). IsKept (out-Memo z) context) (sym made.changed)
          record {
            entry = entry_made;
            has = has_put now before.entry made.entry entry_made made.at was_older (fresh_live (is_marked (out-Memo now)) entry_made refl);
            in_context = made_holds.in_context;
          }

      pub tidied_again : IsTidy memo → AreTidy (out-Memo now).below → IsTidy after
      tidied_again tidy below = subst IsTidy (sym made.changed) (tidy_again memo before.child b.alike before.entry b.entry entry_made b.at b.serves.older refl new tidy below)
