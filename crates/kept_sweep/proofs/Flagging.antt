-- How flags come to stand for what is needed.
use Rattle.std.proofs.Common.{◌≡◌, ◌∙◌, ◌⊎◌, inl, inr, refl, sym, ap, subst, ℕ, ◌<◌, Bool, true, false, true≢false, List, [], ◌∷◌, ◌++◌, get_or, length, map, set, Contains, None, Some, slice_get}
use Rattle.std.proofs.lemmas.Option.{get_or_from_slice_get, same_Some, slice_get-map, slice_get_within}
use Rattle.std.specs.List.{AllByRecursion}
use Rattle.std.specs.Option.{option_map}
use Rattle.font_metrics.specs.Metrics.{MetricsValue}
use Rattle.math_tree.specs.declared.node.Node.{Node}
use Rattle.math_tree.specs.declared.node.Node.TheViews.{out-Node, size-Node}
use Rattle.embellished.specs.Facts.{facts}
use Rattle.embellished.specs.Seen.{Child, HasChild, flow_children, seen_of}
use Rattle.embellished.proofs.InFlow.{among, shown}
use Rattle.layout_model.specs.Answers.{questions_in}
use Rattle.layout_model.specs.Laws.{answer_of}
use Rattle.layout_model.specs.Layout.{questions}
use Rattle.layout_model.specs.Made.{IsMade, asks_of}
use Rattle.layout_model.specs.Questions.{first, second}
use Rattle.layout_model.specs.declared.context.Context.{Context}
use Rattle.layout_model.specs.declared.context.Question.{Question}
use Rattle.layout_model.proofs.Children.{smaller}
use Rattle.kept_results.specs.Ends.{settled}
use Rattle.kept_results.specs.Kept.{Agrees, AreApart, HasEntry, HoldsIn, HoldsOne, IsKept, IsMemoOf, IsMissing, IsSound, NamesKept, is_fresh, is_live, is_marked}
use Rattle.kept_results.specs.Looking.{own_facts}
use Rattle.kept_results.specs.Passes.{AnswersNeed, Needs, Pair}
use Rattle.kept_results.specs.declared.memo.Entry.{Entry}
use Rattle.kept_results.specs.declared.memo.Memo.{Memo}
use Rattle.kept_results.specs.declared.memo.Origin.TheVariants.{Made}
use Rattle.kept_results.specs.declared.memo.Memo.TheOpen.{Memo-F}
use Rattle.kept_results.specs.declared.memo.Memo.TheViews.{out-Memo, out-roll-Memo, roll-Memo, roll-out-Memo}
use Rattle.kept_results.proofs.Agreement.{agrees_child, agrees_made, missing_kept}
use Rattle.kept_results.proofs.Lists.{all_then, one_place, set_cases, set_here, still_cases}
use Rattle.kept_results.proofs.Passing.{fresh_live}
use Rattle.kept_results.proofs.Tidying.{new_calms, tidy_below, tidy_made, tidy_set}
use Rattle.kept_results.proofs.Turns.{facts_known}
use Rattle.kept_sweep.specs.Flagged.{AreFlagged, BelowAgree, IsFlagged, StandsAt, cleared}
use Rattle.kept_sweep.proofs.Clearing.{apart_any, apart_settled, as_many_cleared, cleared_out, cleared_roll, cleared_set, out_cleared, same_known, settled_set, sound_settled, stands_cleared}

-- ---- one need after another

module _ {m : MetricsValue} {node : Node} where
  need_wider : {few : List Question} (many : List Question) → ((question : Question) → Contains few question → Contains many question) → (pair : Pair)
      → AnswersNeed m node few pair → AnswersNeed m node many pair
  need_wider many f pair h = record {
    question = h.question;
    asked = f h.question h.asked;
    child = h.child;
    to = h.to;
    path = h.path;
    down = h.down;
    below = h.below;
  }

  pub flagged_none : (asks : List Question) (below : List Memo) → BelowAgree m node below → AreFlagged m node asks below below
  flagged_none asks below h = record { agrees = h; same = refl; grows = λ place path context k. k; asked = λ place path context k. inl k; tidy = λ x. x }

  pub flagged_both : {ones twos : List Question} {a b d : List Memo} (asks : List Question) → ((question : Question) → Contains ones question → Contains asks question)
      → ((question : Question) → Contains twos question → Contains asks question) → AreFlagged m node ones a b → AreFlagged m node twos b d → AreFlagged m node asks a d
  flagged_both asks f g h k = record {
    agrees = k.agrees;
    same = k.same ∙ h.same;
    grows = λ place path context x. k.grows place path context (h.grows place path context x);
    asked = λ place path context x. elim (k.asked place path context x) [
      | inl p ↦ elim (h.asked place path context p) [ inl q ↦ inl q | inr q ↦ inr (need_wider asks f (record { path = place ∷ path; context = context }) q) ]
      | inr p ↦ inr (need_wider asks g (record { path = place ∷ path; context = context }) p)
    ];
    tidy = λ x. k.tidy (h.tidy x);
  }

  -- what is known of the children is still known
  pub known_still : {asks : List Question} {a b : List Memo} → AreFlagged m node asks a b → map own_facts a ≡ map facts (out-Node node).children → map own_facts b ≡ map facts (out-Node node).children
  known_still {asks} {a} {b} h known = same_known b a h.same ∙ known

  -- what a question names stays kept
  pub named_still : {asks : List Question} {a b : List Memo} → AreFlagged m node asks a b → (question : Question) → NamesKept node a question → NamesKept node b question
  named_still h question k =
      let one : HoldsOne [] k.memo question.context = record { entry = k.kept.entry; held = k.kept.has; in_context = k.kept.in_context } in
      let there = h.grows k.child.place [] question.context (k.memo, k.at, one) in
      record {
        child = k.child;
        to = k.to;
        memo = there.0;
        at = there.1;
        kept = record { entry = there.2.entry; has = there.2.held; in_context = there.2.in_context };
      }

-- ---- one question's child

-- the child that was found, and read
pub child_read : (node kid : Node) (index place : ℕ) (items : List Node) → HasChild node index (λ child. child.place ≡ place) → items ≡ (out-Node node).children → kid ≡ get_or items place kid
    → slice_get (flow_children node) index ≡ Some record { place = place; node = kid }
child_read node kid index place items h e is =
    let nodes : List Node = (out-Node node).children in
    let there : slice_get nodes place ≡ Some h.child.node = ap (slice_get nodes) (sym h.holds) ∙ h.among in
    let same : h.child.node ≡ kid = sym (is ∙ ap (λ (l : List Node). get_or l place kid) e ∙ get_or_from_slice_get nodes place h.child.node kid there) in
    h.in_flow ∙ ap (λ (c : Child). Some c) (λ i. record { place = h.holds i; node = same i })

-- it is smaller
pub found_smaller : (node kid : Node) (index place : ℕ) → slice_get (flow_children node) index ≡ Some record { place = place; node = kid } → size-Node kid < size-Node node
found_smaller node kid index place to =
    let child : Child = record { place = place; node = kid } in
    let own = among node index child to in
    let seen = shown node index child to in
    smaller node kid index place
    (record { child = child; in_flow = to; among = own; shown = seen; holds = refl })
    (record { child = child; in_flow = to; among = own; shown = seen; holds = refl })

pub place_near : (node : Node) (index place : ℕ) → HasChild node index (λ child. child.place ≡ place) → place < length (out-Node node).children
place_near node index place h = slice_get_within (out-Node node).children place h.child.node (ap (slice_get (out-Node node).children) (sym h.holds) ∙ h.among)

-- what a question of a cleared memo names, in the memo as it is by now
pub named_now : (node kid : Node) (place : ℕ) (question : Question) (before below : List Memo) (old : Memo) → slice_get (flow_children node) question.kid ≡ Some record { place = place; node = kid }
    → map cleared below ≡ map cleared before → slice_get below place ≡ Some old → NamesKept node (map cleared before) question
    → (slice_get (map cleared before) place ≡ Some (cleared old)) × IsKept (out-Memo (cleared old)) question.context
named_now node kid place question before below old to e at h =
    let now : slice_get (map cleared before) place ≡ Some (cleared old) =
    ap (λ (l : List Memo). slice_get l place) (sym e) ∙ slice_get-map cleared below place ∙ ap (option_map cleared) at in
    let child : h.child ≡ record { place = place; node = kid } = same_Some h.child (record { place = place; node = kid }) (sym h.to ∙ to) in
    let memo : h.memo ≡ cleared old = same_Some h.memo (cleared old) (sym h.at ∙ ap (λ (c : Child). slice_get (map cleared before) c.place) child ∙ now) in
    (now, subst (λ (z : Memo). IsKept (out-Memo z) question.context) memo h.kept)

module _ (m : MetricsValue) (node kid : Node) (place : ℕ) (asks : List Question) (question : Question) (asked : Contains asks question)
    (to : slice_get (flow_children node) question.kid ≡ Some record { place = place; node = kid }) (below : List Memo) (old new : Memo)
    (at : slice_get below place ≡ Some old) (flagged : IsFlagged m kid question.context old new) where
  here : slice_get (out-Node node).children place ≡ Some kid
  here = among node question.kid record { place = place; node = kid } to

  abbrev later : List Memo
  later = set below place new

  pub flagged_one : BelowAgree m node below → AreFlagged m node asks below later
  flagged_one h = record {
    agrees = λ j child memo f g. elim (set_cases below place j new memo g) [
      | inl p ↦ subst (λ (n : Node). Agrees m n memo) (one_place (out-Node node).children place j kid child (sym p.0) here f) (subst (Agrees m kid) (sym p.1) flagged.agrees)
      | inr p ↦ h j child memo f p
    ];
    same = cleared_set below place old new at flagged.same;
    grows = λ j path context x. elim (still_cases below place j new x.0 x.1) [
      | inl p ↦ (new, p.1, flagged.grows path context (subst (λ (z : Memo). HoldsOne path z context) (one_place below j place x.0 old p.0 x.1 at) x.2))
      | inr e ↦ (x.0, e, x.2)
    ];
    asked = λ j path context x. elim (set_cases below place j new x.0 x.1) [
      | inl p ↦ elim (flagged.asked path context (subst (λ (z : Memo). HoldsOne path z context) p.1 x.2)) [
        | inl y ↦ inl (old, ap (slice_get below) p.0 ∙ at, y)
        | inr r ↦ inr (record {
          question = question;
          asked = asked;
          child = record { place = place; node = kid };
          to = to;
          path = path;
          down = ap (λ (n : ℕ). n ∷ path) p.0;
          below = r;
        })
      ]
      | inr e ↦ inl (x.0, e, x.2)
    ];
    tidy = λ x. tidy_set below place new x (flagged.tidy (x place old at));
  }

  pub named_one : NamesKept node later question
  named_one = record { child = record { place = place; node = kid }; to = to; memo = new; at = set_here below place new old at; kept = flagged.here }

-- ---- one entry

-- the entry when it is flagged
abbrev pub fresh : Entry → Entry
fresh entry = record {
  context = entry.context;
  run = entry.run;
  one = entry.one;
  two = entry.two;
  regular = entry.regular;
  origin = Made;
}

module _ (m : MetricsValue) (node : Node) (memo : Memo) (context : Context) where
  -- it is flagged already
  pub flagged_already : (place : ℕ) (entry : Entry) → Agrees m node memo → slice_get (out-Memo memo).entries place ≡ Some entry → entry.context ≡ context → is_fresh entry ≡ true
      → IsFlagged m node context memo memo
  flagged_already place entry h at is flag = record {
    agrees = h;
    same = refl;
    grows = λ path other x. x;
    asked = λ path other x. inl x;
    here = record { entry = entry; has = record { place = place; at = at; live = fresh_live (is_marked (out-Memo memo)) entry flag }; in_context = is };
    tidy = λ x. x;
  }

  -- that there is none can't be
  pub never_missing : IsKept (out-Memo (cleared memo)) context → IsMissing false context (out-Memo memo).entries → ⊥
  never_missing one none =
      let there = stands_cleared memo context one in
      missing_kept false context (out-Memo memo).entries there.0 there.1.entry none there.1.at refl there.1.in_context

-- the memo when an entry is flagged, after what it needs below
abbrev pub flagged_over : Memo → ℕ → Entry → List Memo → Memo-F Memo
flagged_over memo place entry below = record {
  former = (out-Memo memo).former;
  facts = (out-Memo memo).facts;
  entries = set (out-Memo memo).entries place (fresh entry);
  below = below;
}

module _ (m : MetricsValue) (node : Node) (memo : Memo) (context : Context) (place : ℕ) (entry : Entry) (below : List Memo)
    (h : Agrees m node memo) (whole : Agrees m node (cleared memo)) (at : slice_get (out-Memo memo).entries place ≡ Some entry) (is : entry.context ≡ context)
    (need : AreFlagged m node (questions_in entry.one ++ questions_in entry.two) (out-Memo memo).below below) where
  abbrev entries : List Entry
  entries = (out-Memo memo).entries

  abbrev mark : Bool
  mark = is_marked (out-Memo memo)

  abbrev layer : Memo-F Memo
  layer = flagged_over memo place entry below

  live_now : is_live mark (fresh entry) ≡ true
  live_now = fresh_live mark (fresh entry) refl

  sound_now : IsSound m node (map cleared (out-Memo memo).below) (settled entry)
  sound_now = sound_settled m node memo whole place entry at

  asks_are : questions_in entry.one ++ questions_in entry.two ≡ asks_of m node context
  unfolding questions
  asks_are =
      let seconds : Context → List Question = λ c. second m (seen_of node) c (map (answer_of m node) (first m (seen_of node) c)) in
      ap (λ (l : List Question). l ++ questions_in entry.two) sound_now.ones
      ∙ ap (λ (l : List Question). first m (seen_of node) entry.context ++ l) sound_now.twos
      ∙ ap (λ (c : Context). first m (seen_of node) c ++ seconds c) is

  need_down : (pair : Pair) → AnswersNeed m node (questions_in entry.one ++ questions_in entry.two) pair → Needs m node context pair
  need_down pair x = record {
    element = x.below.element;
    made = subst (λ (path : List ℕ). IsMade m path node context x.below.element pair.context) (sym x.down)
        (x.question, x.child, record { asked = subst (λ (l : List Question). Contains l x.question) asks_are x.asked; to = x.to }, refl, x.below.made);
  }

  same_entries : map settled (set entries place (fresh entry)) ≡ map settled entries
  same_entries = settled_set entries place entry (fresh entry) at refl

  grows_in : (path : List ℕ) (other : Context) (one : HoldsOne path memo other) → (more : Entry) × HoldsIn path layer more × (more.context ≡ other)
  grows_in [] other one = elim (still_cases entries place one.held.place (fresh entry) one.entry one.held.at) [
    | inl s ↦ (
      fresh entry,
      record { place = one.held.place; at = s.1; live = live_now },
      ap (λ (e : Entry). e.context) (one_place entries place one.held.place entry one.entry (sym s.0) at one.held.at) ∙ one.in_context,
    )
    | inr s ↦ (one.entry, record { place = one.held.place; at = s; live = one.held.live }, one.in_context)
  ]
  grows_in (j ∷ path) other one =
      let there = need.grows j path other (one.held.0, one.held.1, record { entry = one.entry; held = one.held.2; in_context = one.in_context }) in
      (there.2.entry, (there.0, there.1, there.2.held), there.2.in_context)

  asked_in : (path : List ℕ) (other : Context) (more : Entry) → HoldsIn path layer more → more.context ≡ other
      → HoldsOne path memo other ⊎ Needs m node context record { path = path; context = other }
  asked_in [] other more x in_other = elim (set_cases entries place x.place (fresh entry) more x.at) [
    | inl s ↦ inr (record { element = node; made = (refl, sym in_other ∙ ap (λ (e : Entry). e.context) s.1 ∙ is) })
    | inr s ↦ inl (record { entry = more; held = record { place = x.place; at = s; live = x.live }; in_context = in_other })
  ]
  asked_in (j ∷ path) other more x in_other =
      elim (need.asked j path other (x.0, x.1, record { entry = more; held = x.2; in_context = in_other })) [
        | inl y ↦ inl (record { entry = y.2.entry; held = (y.0, y.1, y.2.held); in_context = y.2.in_context })
        | inr y ↦ inr (need_down (record { path = j ∷ path; context = other }) y)
      ]

  pub flagged_made : AllByRecursion (NamesKept node below) (questions_in entry.one) → AllByRecursion (NamesKept node below) (questions_in entry.two)
      → IsFlagged m node context memo (roll-Memo layer)
  flagged_made ones twos =
      let own = h.at [] node memo (refl, refl) in
      let out : out-Memo (roll-Memo layer) ≡ layer = out-roll-Memo layer in
      let move = all_then (NamesKept node (out-Memo memo).below) (NamesKept node below) (named_still need) in
      let new : IsSound m node below (fresh entry) = record {
        suits = sound_now.suits;
        fits = sound_now.fits;
        ones = sound_now.ones;
        one = sound_now.one;
        twos = sound_now.twos;
        two = sound_now.two;
        styled = sound_now.styled;
        ones_kept = ones;
        twos_kept = twos;
        regular = sound_now.regular;
      } in
      let right : IsMemoOf m node layer = record {
        facts_are = own.facts_are;
        as_many = as_many_cleared below (out-Memo memo).below need.same ∙ own.as_many;
        sound = λ e has. elim (set_cases entries place has.place (fresh entry) e has.at) [
          | inl s ↦ subst (IsSound m node below) (sym s.1) new
          | inr s ↦
              let r = own.sound e record { place = has.place; at = s; live = has.live } in
              record {
                suits = r.suits;
                fits = r.fits;
                ones = r.ones;
                one = r.one;
                twos = r.twos;
                two = r.two;
                styled = r.styled;
                ones_kept = move (questions_in e.one) r.ones_kept;
                twos_kept = move (questions_in e.two) r.twos_kept;
                regular = r.regular;
              }
        ];
        apart = apart_any mark (set entries place (fresh entry)) (subst (AreApart false) (sym same_entries) (apart_settled m node memo whole));
        stays = λ child alike i e at_e older regular. elim (set_cases entries place i (fresh entry) e at_e) [
          | inl s ↦ absurd (true≢false (ap is_fresh (sym s.1) ∙ older))
          | inr s ↦
              let r = own.stays child alike i e s older regular in
              record {
                regular = r.regular;
                sized = r.sized;
                ones = r.ones;
                styled = r.styled;
                two = r.two;
                others = λ index reply x other.
                    let k = r.others index reply x other in
                    (k.0, named_still need reply.question k.1);
              }
        ];
      } in
      record {
        agrees = agrees_made m node layer right need.agrees;
        same = cleared_roll layer ∙ (λ i. roll-Memo record {
          former = None;
          facts = (out-Memo memo).facts;
          entries = same_entries i;
          below = need.same i;
        }) ∙ sym (cleared_out memo);
        grows = λ path other one.
            let r = grows_in path other one in
            record { entry = r.0; held = subst (λ (l : Memo-F Memo). HoldsIn path l r.0) (sym out) r.1; in_context = r.2 };
        asked = λ path other one. asked_in path other one.entry (subst (λ (l : Memo-F Memo). HoldsIn path l one.entry) out one.held) one.in_context;
        here = record {
          entry = fresh entry;
          has = subst (λ (l : Memo-F Memo). HasEntry l (fresh entry)) (sym out) record { place = place; at = set_here entries place (fresh entry) entry at; live = live_now };
          in_context = is;
        };
        tidy = λ x. tidy_made layer (new_calms layer place (fresh entry) (set_here entries place (fresh entry) entry at) refl) (need.tidy (tidy_below memo x));
      }

-- ---- while parts of a memo are lent

-- the same memo, made of its parts
abbrev pub whole_of : Memo → Memo
whole_of memo = roll-Memo record {
  former = (out-Memo memo).former;
  facts = (out-Memo memo).facts;
  entries = (out-Memo memo).entries;
  below = (out-Memo memo).below;
}

pub same_whole : (memo : Memo) → whole_of memo ≡ memo
same_whole memo = roll-out-Memo memo

pub whole_entries : (memo : Memo) → (out-Memo (whole_of memo)).entries ≡ (out-Memo memo).entries
whole_entries memo = ap (λ (z : Memo). (out-Memo z).entries) (same_whole memo)

-- with other memos below
abbrev pub with_below : Memo → List Memo → Memo-F Memo
with_below memo below = record {
  former = (out-Memo memo).former;
  facts = (out-Memo memo).facts;
  entries = (out-Memo memo).entries;
  below = below;
}

-- what is read at the place of an entry
pub entry_read : (memo : Memo) (context : Context) (place : ℕ) (items : List Entry) (x : Entry) → StandsAt (out-Memo memo).entries context place → items ≡ (out-Memo memo).entries
    → x ≡ get_or items place x → (slice_get (out-Memo memo).entries place ≡ Some x) × (x.context ≡ context)
entry_read memo context place items x f e is =
    let same : x ≡ f.entry = is ∙ ap (λ (l : List Entry). get_or l place x) e ∙ get_or_from_slice_get (out-Memo memo).entries place f.entry x f.at in
    (f.at ∙ ap (λ (y : Entry). Some y) (sym same), ap (λ (y : Entry). y.context) same ∙ f.in_context)

pub place_within : (memo : Memo) (below : List Memo) (place : ℕ) (x : Entry) → slice_get (out-Memo memo).entries place ≡ Some x
    → place < length (out-Memo (roll-Memo (with_below (whole_of memo) below))).entries
place_within memo below place x at =
    slice_get_within (out-Memo (roll-Memo (with_below (whole_of memo) below))).entries place x
    (ap (λ (l : Memo-F Memo). slice_get l.entries place) (out-roll-Memo (with_below (whole_of memo) below)) ∙ ap (λ (l : List Entry). slice_get l place) (whole_entries memo) ∙ at)

-- all that is asked of the parts
pub record IsReady (m : MetricsValue) (node : Node) (layer : Memo-F Memo) (entry : Entry) : Type 0 where
  pub own : layer.facts ≡ facts node
  pub known : map own_facts layer.below ≡ map facts (out-Node node).children
  pub agrees : BelowAgree m node layer.below
  pub whole : BelowAgree m node (map cleared layer.below)
  pub ones : AllByRecursion (NamesKept node (map cleared layer.below)) (questions_in entry.one)
  pub twos : AllByRecursion (NamesKept node (map cleared layer.below)) (questions_in entry.two)

module _ (m : MetricsValue) (node : Node) (memo : Memo) (place : ℕ) (entry : Entry) (h : Agrees m node memo) (whole : Agrees m node (cleared memo))
    (at : slice_get (out-Memo memo).entries place ≡ Some entry) where
  pub ready : IsReady m node (out-Memo (whole_of memo)) entry
  ready =
      let own = h.at [] node memo (refl, refl) in
      let sound = sound_settled m node memo whole place entry at in
      let r : IsReady m node (out-Memo memo) entry = record {
        own = own.facts_are;
        known = facts_known m node memo h;
        agrees = λ j child kept a b. agrees_child m node memo j child kept h a b;
        whole = λ j child kept a b. agrees_child m node (cleared memo) j child kept whole a (ap (λ (l : Memo-F Memo). slice_get l.below j) (out_cleared memo) ∙ b);
        ones = sound.ones_kept;
        twos = sound.twos_kept;
      } in
      subst (λ (z : Memo). IsReady m node (out-Memo z) entry) (sym (same_whole memo)) r

  -- when the parts are given back
  pub flagged_end : (context : Context) (read : Entry) (below : List Memo) → entry.context ≡ context
      → slice_get (out-Memo (roll-Memo (with_below (whole_of memo) below))).entries place ≡ Some read
      → AreFlagged m node (questions_in entry.one ++ questions_in entry.two) (out-Memo (whole_of memo)).below below → AllByRecursion (NamesKept node below) (questions_in entry.one) → AllByRecursion (NamesKept node below) (questions_in entry.two)
      → IsFlagged m node context memo (roll-Memo (flagged_over (roll-Memo (with_below (whole_of memo) below)) place read (out-Memo (roll-Memo (with_below (whole_of memo) below))).below))
  flagged_end context read below is there need ones twos =
      let layer : Memo-F Memo = with_below (whole_of memo) below in
      let out : out-Memo (roll-Memo layer) ≡ layer = out-roll-Memo layer in
      let same : read ≡ entry = same_Some read entry
      (sym there ∙ ap (λ (l : Memo-F Memo). slice_get l.entries place) out ∙ ap (λ (l : List Entry). slice_get l place) (whole_entries memo) ∙ at) in
      let all : roll-Memo (flagged_over (roll-Memo layer) place read (out-Memo (roll-Memo layer)).below) ≡ roll-Memo (flagged_over memo place entry below) =
      ap (λ (l : Memo-F Memo). roll-Memo record { former = l.former; facts = l.facts; entries = set l.entries place (fresh read); below = l.below }) out
      ∙ ap (λ (z : Memo). roll-Memo (flagged_over z place read below)) (same_whole memo)
      ∙ ap (λ (y : Entry). roll-Memo (flagged_over memo place y below)) same in
      subst (IsFlagged m node context memo) (sym all)
      (flagged_made m node memo context place entry below h whole at is (subst (λ (z : Memo). AreFlagged m node (questions_in entry.one ++ questions_in entry.two) (out-Memo z).below below) (same_whole memo) need) ones twos)
