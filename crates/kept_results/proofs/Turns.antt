-- The turns of a pass: one question more, and both waves of an element.
use Rattle.std.proofs.Common.{◌≡◌, ◌∙◌, refl, sym, ap, subst, ℕ, ◌+◌, ◌<◌, Bool, true, false, ◌&&◌, List, [], ◌∷◌, ◌++◌, length, map, set, take, get_or, arith, length-append, All, Contains, Some, slice_get, suc}
use Rattle.std.proofs.lemmas.List.{get_or-append-add, get_or_append_left, map_more}
use Rattle.std.proofs.lemmas.List.Elements.{Contains-append_left, Contains-append_right}
use Rattle.std.proofs.lemmas.Option.{same_Some}
use Rattle.std.specs.List.{AllByRecursion}
use Rattle.font_metrics.specs.Metrics.{MetricsValue}
use Rattle.math_tree.specs.declared.node.Node.{Node}
use Rattle.embellished.specs.Seen.{Child, HasChild, flow_children, kid_of, seen_of}
use Rattle.style_scope.specs.Sizes.{size_of}
use Rattle.layout_model.specs.Answers.{answers_in, questions_in}
use Rattle.layout_model.specs.Fits.{AreAnswers, HasStyle}
use Rattle.layout_model.specs.Laws.{answer_of}
use Rattle.layout_model.specs.Layout.{equation, in_range, lay, questions}
use Rattle.layout_model.specs.Made.{IsMade, asks_of}
use Rattle.layout_model.specs.Questions.{first, second}
use Rattle.layout_model.specs.Range.{is_font_size, outcome_fits}
use Rattle.layout_model.specs.Waves.{MayAsk, MayBeAsked}
use Rattle.layout_model.specs.declared.context.Context.{Context}
use Rattle.layout_model.specs.declared.context.Question.{Question}
use Rattle.layout_model.specs.declared.outcome.Answer.{Answer}
use Rattle.layout_model.specs.declared.reply.Reply.{Reply}
use Rattle.layout_model.proofs.Alike.{handed_down}
use Rattle.layout_model.proofs.Made.{answer_of_child}
use Rattle.layout_model.proofs.Waves.{all_fit}
use Rattle.layout_model.proofs.Whole.{and_true, fits_true, first_false, lay_waves, ones_below, ones_stored, outcome_false, range_waves, twos_below, twos_stored}
use Rattle.embellished.specs.Facts.{facts}
use Rattle.math_tree.specs.declared.node.Node.TheViews.{out-Node}
use Rattle.outcome_cells.specs.Store.{Runs}
use Rattle.kept_results.specs.Backed.{IsBacked}
use Rattle.kept_results.specs.Contexts.{IsProper, Suits}
use Rattle.kept_results.specs.Kept.{Agrees, IsKept, IsMissing, IsSound, Keeps, NamesKept}
use Rattle.kept_results.specs.Looking.{HasAnswer, IsEntryOf, own_facts}
use Rattle.kept_results.specs.Passes.{AnswersNeed, Needs, Pair, Passes}
use Rattle.kept_results.specs.Regular.{IsRegular}
use Rattle.kept_results.specs.declared.memo.Entry.{Entry}
use Rattle.kept_results.specs.declared.memo.Memo.{Memo}
use Rattle.kept_results.specs.declared.memo.Memo.TheOpen.{Memo-F}
use Rattle.kept_results.specs.declared.memo.Memo.TheViews.{out-Memo, out-roll-Memo, roll-Memo}
use Rattle.kept_results.proofs.Agreement.{names_renewed, renewed}
use Rattle.kept_results.proofs.Backed.{own_backed}
use Rattle.kept_results.proofs.Lists.{all_more, all_then, set_here}
use Rattle.kept_results.proofs.Passing.{passes_wider, under}

-- ---- a child in flow

module _ (node kid : Node) (index place : ℕ) (n : HasChild node index (λ child. child.node ≡ kid)) (p : HasChild node index (λ child. child.place ≡ place)) where
  abbrev pub the_child : Child
  the_child = record { place = place; node = kid }

  place_is : n.child.place ≡ place
  place_is = ap (λ (c : Child). c.place) (same_Some n.child p.child (sym n.in_flow ∙ p.in_flow)) ∙ p.holds

  pub child_in_flow : slice_get (flow_children node) index ≡ Some the_child
  child_in_flow = n.in_flow ∙ ap (λ (c : Child). Some c) (λ i. record { place = place_is i; node = n.holds i })

  -- what is proper to ask suits the child
  pub suits_child : (m : MetricsValue) (question : Question) → question.kid ≡ index → IsProper m node question → Suits m kid question.context
  suits_child m question e h = record {
    style = h.style;
    stretch = h.stretch;
    carried = subst (λ (k : Node). MayBeAsked m k question.context) n.holds
        (h.carried (kid_of n.child.node) (ap (slice_get (seen_of node).kids) e ∙ n.shown));
  }

-- ---- one question more

module _ (m : MetricsValue) (node kid : Node) (place : ℕ) (asks : List Question) (i : ℕ) (question : Question) (within : i < length asks) (is : question ≡ get_or asks i question)
    (to : slice_get (flow_children node) question.kid ≡ Some record { place = place; node = kid }) where
  -- what its answer needs is needed for the answers to all
  pub needed_below : (pair : Pair) → Needs m kid question.context pair → AnswersNeed m node asks (under place pair)
  needed_below pair h = record {
    question = question;
    asked = (i, within, sym is);
    child = record { place = place; node = kid };
    to = to;
    path = pair.path;
    down = refl;
    below = record { element = h.element; made = h.made };
  }

  pub told_more : (before after : List Answer) (answer : Answer) → before ≡ map (answer_of m node) (take i asks) → answer ≡ (lay m kid question.context).answer
      → after ≡ before ++ answer ∷ [] → after ≡ map (answer_of m node) (take (i + 1) asks)
  told_more before after answer b e pushed =
      let own : answer ≡ answer_of m node (get_or asks i question) = e ∙ sym (answer_of_child m node question record { place = place; node = kid } to) ∙ ap (answer_of m node) is in
      pushed ∙ ap (λ (list : List Answer). list ++ answer ∷ []) b
      ∙ ap (λ (a : Answer). map (answer_of m node) (take i asks) ++ a ∷ []) own
      ∙ sym (map_more (answer_of m node) asks i question within)

  pub kept_more : (memo old new : Memo) → slice_get (out-Memo memo).below place ≡ Some old → Keeps old new
      → AllByRecursion (NamesKept node (out-Memo memo).below) (take i asks) → IsKept (out-Memo new) question.context
      → AllByRecursion (NamesKept node (out-Memo (roll-Memo (renewed memo place new))).below) (take (i + 1) asks)
  kept_more memo old new at keeps before here =
      let below : List Memo = (out-Memo memo).below in
      let P : Question → Type 0 = NamesKept node (set below place new) in
      let one : P question = record { child = record { place = place; node = kid }; to = to; memo = new; at = set_here below place new old at; kept = here } in
      let first_ones = all_then (NamesKept node below) P (names_renewed memo place old new at keeps node) (take i asks) before in
      subst (λ (l : Memo-F Memo). AllByRecursion (NamesKept node l.below) (take (i + 1) asks)) (sym (out-roll-Memo (renewed memo place new)))
      (all_more P asks i question within is first_ones one)

pub own_entries : (memo : Memo) (place : ℕ) (new : Memo) → (out-Memo (roll-Memo (renewed memo place new))).entries ≡ (out-Memo memo).entries
own_entries memo place new = ap (λ (l : Memo-F Memo). l.entries) (out-roll-Memo (renewed memo place new))

pub own_mark : (memo : Memo) (place : ℕ) (new : Memo) → (out-Memo (roll-Memo (renewed memo place new))).former ≡ (out-Memo memo).former
own_mark memo place new = ap (λ (l : Memo-F Memo). l.former) (out-roll-Memo (renewed memo place new))

-- ---- what is kept

-- a kept answer is that of the layout
module _ (m : MetricsValue) (runs : Runs) (node : Node) (memo : Memo) (context : Context) (answer : Answer) (h : Agrees m node memo) (r : HasAnswer runs (out-Memo memo) context answer) where
  own_sound : IsSound m node (out-Memo memo).below r.entry
  own_sound = (h.at [] node memo (refl, refl)).sound r.entry r.has

  pub kept_answers : IsBacked m runs node memo → answer ≡ (lay m node context).answer
  kept_answers backed =
      r.answers (lay m node r.entry.context) (own_backed m runs node memo backed r.entry r.has)
      ∙ ap (λ (c : Context). (lay m node c).answer) r.in_context

  pub kept_fits : in_range m node context ≡ true
  kept_fits = ap (in_range m node) (sym r.in_context) ∙ own_sound.fits

-- what a question names stays kept
pub names_still : {a b : Memo} (node : Node) → Keeps a b → (question : Question) → NamesKept node (out-Memo a).below question → NamesKept node (out-Memo b).below question
names_still node keeps question k =
    let there = keeps.at (k.child.place ∷ []) k.kept.entry (k.memo, k.at, k.kept.has) in
    record { child = k.child; to = k.to; memo = there.0; at = there.1; kept = record { entry = k.kept.entry; has = there.2; in_context = k.kept.in_context } }

pub missing_same : (marked other : Bool) (context : Context) (entries others : List Entry) → IsMissing marked context entries → other ≡ marked → others ≡ entries → IsMissing other context others
missing_same marked other context entries others h e f =
    subst (λ (b : Bool). IsMissing b context others) (sym e) (subst (λ (l : List Entry). IsMissing marked context l) (sym f) h)

-- ---- both waves

module _ {X : Type 0} (P : X → Type 0) (xs ys : List X) (h : All P (xs ++ ys)) where
  front_all : All P xs
  front_all k d l = subst P (get_or_append_left xs ys d k l) (h k d (omega (arith, l, length-append xs ys)))

  back_all : All P ys
  back_all k d l = subst P (get_or-append-add xs ys k d) (h (length xs + k) d (omega (arith, l, length-append xs ys)))

-- what both waves of an element are, where a view shows it
pub record Waves (m : MetricsValue) (node shown : Node) (context : Context) (ones twos : List Question) (one two : List Answer) : Type 0 where
  pub shown_is : shown ≡ node
  pub ones_are : ones ≡ first m (seen_of shown) context
  pub one_is : one ≡ map (answer_of m node) ones
  pub twos_are : twos ≡ second m (seen_of shown) context one
  pub two_is : two ≡ map (answer_of m node) twos

module _ (m : MetricsValue) (node shown : Node) (context : Context) (e : shown ≡ node) (ones : List Question) (o : ones ≡ first m (seen_of shown) context) where
  abbrev needed : List Question → Pair → Type 0
  needed asks = AnswersNeed m node asks

  needs_all : (asks : List Question) → ((question : Question) → Contains asks question → Contains (asks_of m node context) question)
      → (pair : Pair) → needed asks pair → Needs m node context pair
  needs_all asks f pair h = record {
    element = h.below.element;
    made = subst (λ (path : List ℕ). IsMade m path node context h.below.element pair.context) (sym h.down)
        (h.question, h.child, record { asked = f h.question h.asked; to = h.to }, refl, h.below.made);
  }

  first_are : ones ≡ first m (seen_of node) context
  first_are = o ∙ ap (λ (n : Node). first m (seen_of n) context) e

  in_ones : (question : Question) → Contains ones question → Contains (asks_of m node context) question
  unfolding questions
  in_ones question c =
      Contains-append_left (first m (seen_of node) context) (second m (seen_of node) context (map (answer_of m node) (first m (seen_of node) context))) question
      (subst (λ (l : List Question). Contains l question) first_are c)

  -- a pass for the first wave is one for the element
  pub pass_ones : {a b : Memo} {from to : ℕ} {done : Bool} → Passes m node (AnswersNeed m node ones) a b from to done → Passes m node (Needs m node context) a b from to done
  pass_ones h = passes_wider m (Needs m node context) (needs_all ones in_ones) h

  pub ones_proper : Suits m node context → All HasStyle ones → All (IsProper m node) ones
  ones_proper suits styles =
      let asked : All (MayAsk m (seen_of node)) ones =
      subst (All (MayAsk m (seen_of node))) (sym first_are)
      (front_all (MayAsk m (seen_of node)) (first m (seen_of node) context) (second m (seen_of node) context []) (handed_down m node context [] suits.carried)) in
      λ k d l. record {
        within = ones_below m node shown context e ones o k d l;
        style = styles k d l;
        stretch = ones_stored m node shown context e ones o suits.stretch k d l;
        carried = asked k d l;
      }

  module _ (one : List Answer) (a : one ≡ map (answer_of m node) ones) (twos : List Question) (t : twos ≡ second m (seen_of shown) context one) where
    second_given : twos ≡ second m (seen_of node) context one
    second_given = t ∙ ap (λ (n : Node). second m (seen_of n) context one) e

    pub second_are : twos ≡ second m (seen_of node) context (map (answer_of m node) (first m (seen_of node) context))
    second_are = second_given ∙ ap (second m (seen_of node) context) (a ∙ ap (map (answer_of m node)) first_are)

    in_twos : (question : Question) → Contains twos question → Contains (asks_of m node context) question
    unfolding questions
    in_twos question c =
        Contains-append_right (first m (seen_of node) context) (second m (seen_of node) context (map (answer_of m node) (first m (seen_of node) context))) question
        (subst (λ (l : List Question). Contains l question) second_are c)

    pub pass_twos : {before after : Memo} {from to : ℕ} {done : Bool} → Passes m node (AnswersNeed m node twos) before after from to done → Passes m node (Needs m node context) before after from to done
    pass_twos h = passes_wider m (Needs m node context) (needs_all twos in_twos) h

    pub twos_proper : Suits m node context → All HasStyle twos → AreAnswers one → All (IsProper m node) twos
    twos_proper suits styles fit =
        let asked : All (MayAsk m (seen_of node)) twos =
        subst (All (MayAsk m (seen_of node))) (sym second_given)
        (back_all (MayAsk m (seen_of node)) (first m (seen_of node) context) (second m (seen_of node) context one) (handed_down m node context one suits.carried)) in
        λ k d l. record {
          within = twos_below m node shown context e ones o one a twos t k d l;
          style = styles k d l;
          stretch = twos_stored m node shown context e ones o one a twos t fit k d l;
          carried = asked k d l;
        }

module _ {m : MetricsValue} {node shown : Node} {context : Context} {ones twos : List Question} {one two : List Answer} (w : Waves m node shown context ones twos one two) where
  pub waves_lay : equation m (seen_of shown) context one two ≡ lay m node context
  waves_lay = lay_waves m node shown context w.shown_is ones w.ones_are one w.one_is twos w.twos_are two w.two_is

  range_is : in_range m node context ≡ ((is_font_size (size_of m context.style) && outcome_fits (lay m node context)) && (all_fit m node ones && all_fit m node twos))
  range_is = range_waves m node shown context w.shown_is ones w.ones_are one w.one_is twos w.twos_are

  pub waves_fit : is_font_size (size_of m context.style) ≡ true → outcome_fits (equation m (seen_of shown) context one two) ≡ true
      → all_fit m node ones ≡ true → all_fit m node twos ≡ true → in_range m node context ≡ true
  waves_fit size fit f g =
      fits_true (is_font_size (size_of m context.style) && outcome_fits (lay m node context)) (all_fit m node ones) (all_fit m node twos) (in_range m node context) range_is
      (and_true (is_font_size (size_of m context.style)) (outcome_fits (lay m node context)) size (ap outcome_fits (sym waves_lay) ∙ fit)) f g

  pub waves_unfit : outcome_fits (equation m (seen_of shown) context one two) ≡ false → in_range m node context ≡ false
  waves_unfit fit =
      first_false (is_font_size (size_of m context.style) && outcome_fits (lay m node context)) (all_fit m node ones) (all_fit m node twos) (in_range m node context) range_is
      (outcome_false (is_font_size (size_of m context.style)) (outcome_fits (lay m node context)) (ap outcome_fits (sym waves_lay) ∙ fit))

  -- the entry that is kept then is sound
  pub sound_made : (below : List Memo) (entry : Entry) (regular : Bool) (said told : List Reply)
      → questions_in said ≡ ones → answers_in said ≡ one → questions_in told ≡ twos → answers_in told ≡ two
      → IsEntryOf entry context record { one = said; two = told; regular = regular }
      → Suits m node context → in_range m node context ≡ true → All HasStyle ones
      → AllByRecursion (NamesKept node below) ones → AllByRecursion (NamesKept node below) twos
      → (regular ≡ true → IsRegular m node context ones) → IsSound m node below entry
  sound_made below entry regular said told q a r d kept suits fits styles h k same =
      let here = kept.in_context in
      let ones_are : questions_in entry.one ≡ ones = ap questions_in kept.one_is ∙ q in
      let twos_are : questions_in entry.two ≡ twos = ap questions_in kept.two_is ∙ r in
      record {
        suits = subst (Suits m node) (sym here) suits;
        fits = ap (in_range m node) here ∙ fits;
        ones = ones_are ∙ first_are m node shown context w.shown_is ones w.ones_are ∙ ap (first m (seen_of node)) (sym here);
        twos = twos_are ∙ second_are m node shown context w.shown_is ones w.ones_are one w.one_is twos w.twos_are
            ∙ ap (λ (c : Context). second m (seen_of node) c (map (answer_of m node) (first m (seen_of node) c))) (sym here);
        styled = subst (All HasStyle) (sym ones_are) styles;
        one = ap answers_in kept.one_is ∙ a ∙ w.one_is ∙ ap (map (answer_of m node)) (sym ones_are);
        two = ap answers_in kept.two_is ∙ d ∙ w.two_is ∙ ap (map (answer_of m node)) (sym twos_are);
        ones_kept = subst (AllByRecursion (NamesKept node below)) (sym ones_are) h;
        twos_kept = subst (AllByRecursion (NamesKept node below)) (sym twos_are) k;
        regular = λ e.
            subst (λ (c : Context). IsRegular m node c (questions_in entry.one)) (sym here)
            (subst (IsRegular m node context) (sym ones_are) (same (sym kept.regular_is ∙ e)));
      }

-- ---- what is known of the children

mapped_same : {A B C : Type 0} (f : A → C) (g : B → C) (xs : List A) (ys : List B) → length xs ≡ length ys
    → ((i : ℕ) (x : A) (y : B) → slice_get xs i ≡ Some x → slice_get ys i ≡ Some y → f x ≡ g y) → map f xs ≡ map g ys
mapped_same f g [] [] l h = refl
mapped_same f g [] (y ∷ ys) l h = absurd (omega (arith, l))
mapped_same f g (x ∷ xs) [] l h = absurd (omega (arith, l))
mapped_same {A} {B} {C} f g (x ∷ xs) (y ∷ ys) l h =
    ap (λ (z : C). z ∷ map f xs) (h 0 x y refl refl)
    ∙ ap (λ (rest : List C). g y ∷ rest) (mapped_same f g xs ys (omega (arith, l)) (λ i a b p q. h (suc i) a b p q))

pub facts_known : (m : MetricsValue) (node : Node) (memo : Memo) → Agrees m node memo → map own_facts (out-Memo memo).below ≡ map facts (out-Node node).children
facts_known m node memo h =
    mapped_same own_facts facts (out-Memo memo).below (out-Node node).children (h.at [] node memo (refl, refl)).as_many
    (λ i kept child a b. (h.at (i ∷ []) child kept (child, kept, b, a, (refl, refl))).facts_are)
