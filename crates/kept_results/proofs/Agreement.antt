-- How a memo goes on to agree with its tree.
use Rattle.std.proofs.Common.{◌≡◌, ◌∙◌, inl, inr, refl, sym, ap, subst, ℕ, zero, suc, Bool, true, false, true≢false, List, [], ◌∷◌, ◌++◌, length, length-set, set, Some, slice_get}
use Rattle.std.proofs.lemmas.Option.{none-some, same_Some}
use Rattle.font_metrics.specs.Metrics.{MetricsValue}
use Rattle.math_tree.specs.declared.node.Node.{Node}
use Rattle.math_tree.specs.declared.node.Node.TheViews.{out-Node}
use Rattle.layout_model.specs.Answers.{questions_in}
use Rattle.layout_model.specs.declared.context.Context.{Context}
use Rattle.layout_model.specs.declared.context.Question.{Question}
use Rattle.kept_results.specs.Kept.{Agrees, AreApart, HasEntry, Holds, HoldsIn, HoldsOne, IsKept, IsMemoOf, IsMissing, IsSound, Keeps, NamesKept, StandAt, is_fresh, is_live, is_marked}
use Rattle.kept_results.specs.Looking.{with_entry}
use Rattle.kept_results.specs.declared.memo.Entry.{Entry}
use Rattle.kept_results.specs.declared.memo.Memo.{Memo}
use Rattle.kept_results.specs.declared.memo.Memo.TheOpen.{Memo-F}
use Rattle.kept_results.specs.declared.memo.Memo.TheViews.{out-Memo, out-roll-Memo, roll-Memo}
use Rattle.kept_results.proofs.Lists.{all_both, all_then, one_place, pushed, push_cases, set_cases, set_here, still_cases, still_first}

-- ---- layers that are changed

-- with another memo below, at a place
abbrev pub renewed : Memo → ℕ → Memo → Memo-F Memo
renewed memo place new = record {
  former = (out-Memo memo).former;
  facts = (out-Memo memo).facts;
  entries = (out-Memo memo).entries;
  below = set (out-Memo memo).below place new;
}

-- with one entry more
abbrev pub added : Memo → Entry → Memo-F Memo
added memo entry = record {
  former = (out-Memo memo).former;
  facts = (out-Memo memo).facts;
  entries = (out-Memo memo).entries ++ entry ∷ [];
  below = (out-Memo memo).below;
}

-- ---- entries that stay

pub keeps_same : (memo : Memo) → Keeps memo memo
keeps_same memo = record { at = λ path entry h. h }

pub keeps_both : {a b d : Memo} → Keeps a b → Keeps b d → Keeps a d
keeps_both h k = record { at = λ path entry x. k.at path entry (h.at path entry x) }

pub holds_one : {a b : Memo} → Keeps a b → (path : List ℕ) (context : Context) → HoldsOne path a context → HoldsOne path b context
holds_one h path context one = record { entry = one.entry; held = h.at path one.entry one.held; in_context = one.in_context }

pub still_kept : {a b : Memo} → Keeps a b → (context : Context) → IsKept (out-Memo a) context → IsKept (out-Memo b) context
still_kept h context one = record { entry = one.entry; has = h.at [] one.entry one.has; in_context = one.in_context }

module _ (memo : Memo) (place : ℕ) (old new : Memo) (at : slice_get (out-Memo memo).below place ≡ Some old) (keeps : Keeps old new) where
  abbrev below : List Memo
  below = (out-Memo memo).below

  holds_renewed : (path : List ℕ) (entry : Entry) → Holds path memo entry → HoldsIn path (renewed memo place new) entry
  holds_renewed [] entry h = record { place = h.place; at = h.at; live = h.live }
  holds_renewed (j ∷ path) entry h =
      elim (still_cases below place j new h.0 h.1) [
        | inl p ↦ (new, p.1, keeps.at path entry (subst (λ (memo : Memo). Holds path memo entry) (one_place below j place h.0 old p.0 h.1 at) h.2))
        | inr e ↦ (h.0, e, h.2)
      ]

  pub keeps_renewed : Keeps memo (roll-Memo (renewed memo place new))
  keeps_renewed = record {
    at = λ path entry h. subst (λ (l : Memo-F Memo). HoldsIn path l entry) (sym (out-roll-Memo (renewed memo place new))) (holds_renewed path entry h);
  }

  pub names_renewed : (node : Node) (question : Question) → NamesKept node below question → NamesKept node (set below place new) question
  names_renewed node question h =
      elim (still_cases below place h.child.place new h.memo h.at) [
        | inl p ↦ record {
          child = h.child;
          to = h.to;
          memo = new;
          at = p.1;
          kept = still_kept keeps question.context
              (subst (λ (memo : Memo). IsKept (out-Memo memo) question.context) (one_place below h.child.place place h.memo old p.0 h.at at) h.kept);
        }
        | inr e ↦ record { child = h.child; to = h.to; memo = h.memo; at = e; kept = h.kept }
      ]

module _ (memo : Memo) (more : Entry) where
  holds_added : (path : List ℕ) (entry : Entry) → Holds path memo entry → HoldsIn path (added memo more) entry
  holds_added [] entry h = record { place = h.place; at = still_first (out-Memo memo).entries (more ∷ []) h.place entry h.at; live = h.live }
  holds_added (j ∷ path) entry h = h

  pub keeps_added : Keeps memo (roll-Memo (added memo more))
  keeps_added = record {
    at = λ path entry h. subst (λ (l : Memo-F Memo). HoldsIn path l entry) (sym (out-roll-Memo (added memo more))) (holds_added path entry h);
  }

  pub has_added : is_live (is_marked (out-Memo memo)) more ≡ true → HasEntry (out-Memo (roll-Memo (added memo more))) more
  has_added live =
      let has : HasEntry (added memo more) more = record { place = length (out-Memo memo).entries; at = pushed (out-Memo memo).entries more; live = live } in
      subst (λ (l : Memo-F Memo). HasEntry l more) (sym (out-roll-Memo (added memo more))) has

-- an entry that is no older one is put in place of an older one
module _ (memo : Memo) (place : ℕ) (old new : Entry) (at : slice_get (out-Memo memo).entries place ≡ Some old) (older : is_live (is_marked (out-Memo memo)) old ≡ false) where
  still_there : (entry : Entry) → HasEntry (out-Memo memo) entry → HasEntry (with_entry memo place new) entry
  still_there entry h =
      elim (still_cases (out-Memo memo).entries place h.place new entry h.at) [
        | inl p ↦ absurd (true≢false (sym h.live ∙ ap (is_live (is_marked (out-Memo memo))) (one_place (out-Memo memo).entries h.place place entry old p.0 h.at at) ∙ older))
        | inr e ↦ record { place = h.place; at = e; live = h.live }
      ]

  holds_put : (path : List ℕ) (entry : Entry) → Holds path memo entry → HoldsIn path (with_entry memo place new) entry
  holds_put [] entry h = still_there entry h
  holds_put (j ∷ path) entry h = h

  pub keeps_put : Keeps memo (roll-Memo (with_entry memo place new))
  keeps_put = record {
    at = λ path entry h. subst (λ (l : Memo-F Memo). HoldsIn path l entry) (sym (out-roll-Memo (with_entry memo place new))) (holds_put path entry h);
  }

  pub has_put : is_live (is_marked (out-Memo memo)) new ≡ true → HasEntry (out-Memo (roll-Memo (with_entry memo place new))) new
  has_put live =
      let has : HasEntry (with_entry memo place new) new = record { place = place; at = set_here (out-Memo memo).entries place new old at; live = live } in
      subst (λ (l : Memo-F Memo). HasEntry l new) (sym (out-roll-Memo (with_entry memo place new))) has

-- ---- entries in a context

-- there is one, and there is none
pub missing_kept : (marked : Bool) (context : Context) (entries : List Entry) (place : ℕ) (entry : Entry) → IsMissing marked context entries
    → slice_get entries place ≡ Some entry → is_live marked entry ≡ true → entry.context ≡ context → ⊥
missing_kept marked context [] place entry h at live is = none-some entry at
missing_kept marked context (e ∷ entries) zero entry h at live is =
    let same : e ≡ entry = same_Some e entry at in
    h.0 (ap (is_live marked) same ∙ live) (ap (λ (x : Entry). x.context) same ∙ is)
missing_kept marked context (e ∷ entries) (suc place) entry h at live is = missing_kept marked context entries place entry h.1 at live is

pub apart_added : (marked : Bool) (entries : List Entry) (more : Entry) → AreApart marked entries → IsMissing marked more.context entries → AreApart marked (entries ++ more ∷ [])
apart_added marked [] more h k = (λ _. tt, tt)
apart_added marked (e ∷ entries) more h k = (
  λ live. all_both _ entries (more ∷ []) (h.0 live) (λ _ is. k.0 live (sym is), tt),
  apart_added marked entries more h.1 k.1,
)

missing_put : (marked : Bool) (context : Context) (entries : List Entry) (place : ℕ) (new : Entry) → IsMissing marked context entries
    → (is_live marked new ≡ true → new.context ≡ context → ⊥) → IsMissing marked context (set entries place new)
missing_put marked context [] place new h k = tt
missing_put marked context (e ∷ entries) zero new h k = (k, h.1)
missing_put marked context (e ∷ entries) (suc place) new h k = (h.0, missing_put marked context entries place new h.1 k)

apart_put : (marked : Bool) (entries : List Entry) (place : ℕ) (new : Entry) → AreApart marked entries → IsMissing marked new.context entries → AreApart marked (set entries place new)
apart_put marked [] place new h k = tt
apart_put marked (e ∷ entries) zero new h k = (λ _. k.1, h.1)
apart_put marked (e ∷ entries) (suc place) new h k = (
  λ live. missing_put marked e.context entries place new (h.0 live) (λ _ is. k.0 live (sym is)),
  apart_put marked entries place new h.1 k.1,
)

-- ---- the state

module _ (m : MetricsValue) where
  pub agrees_child : (node : Node) (memo : Memo) (place : ℕ) (child : Node) (kept : Memo) → Agrees m node memo
      → slice_get (out-Node node).children place ≡ Some child → slice_get (out-Memo memo).below place ≡ Some kept → Agrees m child kept
  agrees_child node memo place child kept h a b = record {
    at = λ path element other s. h.at (place ∷ path) element other (child, kept, a, b, s);
  }

  abbrev pub ChildrenAgree : Node → Memo-F Memo → Type 0
  ChildrenAgree node layer = (place : ℕ) (child : Node) (kept : Memo) → slice_get (out-Node node).children place ≡ Some child
      → slice_get layer.below place ≡ Some kept → Agrees m child kept

  agrees_at : (path : List ℕ) (node : Node) (layer : Memo-F Memo) → IsMemoOf m node layer → ChildrenAgree node layer
      → (element : Node) (kept : Memo) → StandAt path node (roll-Memo layer) element kept → IsMemoOf m element (out-Memo kept)
  agrees_at [] node layer here children element kept s =
      subst (λ (n : Node). IsMemoOf m n (out-Memo kept)) (sym s.0)
      (subst (λ (memo : Memo). IsMemoOf m node (out-Memo memo)) (sym s.1) (subst (IsMemoOf m node) (sym (out-roll-Memo layer)) here))
  agrees_at (place ∷ path) node layer here children element kept s =
      (children place s.0 s.1 s.2 (ap (λ (l : Memo-F Memo). slice_get l.below place) (sym (out-roll-Memo layer)) ∙ s.3)).at path element kept s.4

  -- where an element is right and all below it agree, it agrees
  pub agrees_made : (node : Node) (layer : Memo-F Memo) → IsMemoOf m node layer → ChildrenAgree node layer → Agrees m node (roll-Memo layer)
  agrees_made node layer here children = record { at = λ path. agrees_at path node layer here children }

  -- one memo below is renewed
  pub agrees_renewed : (node : Node) (memo : Memo) (place : ℕ) (child : Node) (old new : Memo) → Agrees m node memo
      → slice_get (out-Node node).children place ≡ Some child → slice_get (out-Memo memo).below place ≡ Some old
      → Agrees m child new → Keeps old new → Agrees m node (roll-Memo (renewed memo place new))
  agrees_renewed node memo place child old new h at_node at new_agrees keeps =
      let here = h.at [] node memo (refl, refl) in
      let below : List Memo = (out-Memo memo).below in
      let move = all_then (NamesKept node below) (NamesKept node (set below place new)) (names_renewed memo place old new at keeps node) in
      let own : IsMemoOf m node (renewed memo place new) = record {
        facts_are = here.facts_are;
        as_many = length-set below place new ∙ here.as_many;
        sound = λ entry has.
            let s = here.sound entry record { place = has.place; at = has.at; live = has.live } in
            record {
              suits = s.suits;
              fits = s.fits;
              ones = s.ones;
              one = s.one;
              twos = s.twos;
              two = s.two;
              styled = s.styled;
              ones_kept = move (questions_in entry.one) s.ones_kept;
              twos_kept = move (questions_in entry.two) s.twos_kept;
              regular = s.regular;
            };
        apart = here.apart;
        stays = λ but alike i entry entry_at older regular.
            let s = here.stays but alike i entry entry_at older regular in
            record {
              regular = s.regular;
              sized = s.sized;
              ones = s.ones;
              styled = s.styled;
              two = s.two;
              others = λ index reply x other.
                  let k = s.others index reply x other in
                  (k.0, names_renewed memo place old new at keeps node reply.question k.1);
            };
      } in
      agrees_made node (renewed memo place new) own (λ j kid kept f g.
      elim (set_cases below place j new kept g) [
        | inl p ↦ subst (λ (n : Node). Agrees m n kept) (one_place (out-Node node).children place j child kid (sym p.0) at_node f) (subst (Agrees m child) (sym p.1) new_agrees)
        | inr q ↦ agrees_child node memo j kid kept h f q
      ])

  -- one sound entry more
  pub agrees_added : (node : Node) (memo : Memo) (more : Entry) → Agrees m node memo → IsSound m node (out-Memo memo).below more
      → IsMissing (is_marked (out-Memo memo)) more.context (out-Memo memo).entries → is_fresh more ≡ true → Agrees m node (roll-Memo (added memo more))
  agrees_added node memo more h sound missing fresh =
      let here = h.at [] node memo (refl, refl) in
      let own : IsMemoOf m node (added memo more) = record {
        facts_are = here.facts_are;
        as_many = here.as_many;
        sound = λ entry has.
            elim (push_cases (out-Memo memo).entries more entry has.place has.at) [
              | inl p ↦ subst (IsSound m node (out-Memo memo).below) (sym p) sound
              | inr q ↦ here.sound entry record { place = has.place; at = q; live = has.live }
            ];
        apart = apart_added (is_marked (out-Memo memo)) (out-Memo memo).entries more here.apart missing;
        stays = λ but alike i entry at older regular.
            elim (push_cases (out-Memo memo).entries more entry i at) [
              | inl p ↦ absurd (true≢false (sym fresh ∙ ap is_fresh (sym p) ∙ older))
              | inr q ↦ here.stays but alike i entry q older regular
            ];
      } in
      agrees_made node (added memo more) own (λ j kid kept f g. agrees_child node memo j kid kept h f g)

  -- a sound entry in place of an older one
  pub agrees_put : (node : Node) (memo : Memo) (place : ℕ) (new : Entry) → Agrees m node memo → IsSound m node (out-Memo memo).below new
      → IsMissing (is_marked (out-Memo memo)) new.context (out-Memo memo).entries → is_fresh new ≡ true → Agrees m node (roll-Memo (with_entry memo place new))
  agrees_put node memo place new h sound missing fresh =
      let here = h.at [] node memo (refl, refl) in
      let own : IsMemoOf m node (with_entry memo place new) = record {
        facts_are = here.facts_are;
        as_many = here.as_many;
        sound = λ entry has.
            elim (set_cases (out-Memo memo).entries place has.place new entry has.at) [
              | inl p ↦ subst (IsSound m node (out-Memo memo).below) (sym p.1) sound
              | inr q ↦ here.sound entry record { place = has.place; at = q; live = has.live }
            ];
        apart = apart_put (is_marked (out-Memo memo)) (out-Memo memo).entries place new here.apart missing;
        stays = λ but alike i entry at older regular.
            elim (set_cases (out-Memo memo).entries place i new entry at) [
              | inl p ↦ absurd (true≢false (sym fresh ∙ ap is_fresh (sym p.1) ∙ older))
              | inr q ↦ here.stays but alike i entry q older regular
            ];
      } in
      agrees_made node (with_entry memo place new) own (λ j kid kept f g. agrees_child node memo j kid kept h f g)
