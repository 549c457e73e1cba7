-- How the runs of a store go on to have the layouts of a memo's entries.
use Rattle.std.proofs.Common.{◌≡◌, ◌∙◌, ◌⊎◌, inl, inr, refl, sym, ap, subst, ℕ, ◌+◌, arith, Bool, true, false, List, [], ◌∷◌, ◌++◌, append-nil, append_assoc, length, length-append, Some, None, slice_get, is_some}
use Rattle.std.proofs.lemmas.Option.{none-some, slice_get_within}
use Rattle.std.specs.Option.{IsSome}
use Rattle.font_metrics.specs.Metrics.{MetricsValue}
use Rattle.math_tree.specs.declared.node.Node.{Node}
use Rattle.math_tree.specs.declared.node.Node.TheViews.{out-Node}
use Rattle.layout_model.specs.Layout.{lay}
use Rattle.layout_model.specs.declared.outcome.Outcome.{Outcome}
use Rattle.box_pool.specs.Region.{cells_in}
use Rattle.box_pool.specs.declared.pool.RunId.{RunId}
use Rattle.outcome_cells.specs.Cells.{outcome_cells}
use Rattle.outcome_cells.specs.Laws.{FindsOutcomes, KeepsOutcomes}
use Rattle.outcome_cells.specs.Store.{HasOutcome, HasSomeOutcome, PutsOutcome, Runs, StoreValue}
use Rattle.outcome_cells.proofs.Found.{put_found}
use Rattle.kept_results.specs.Backed.{AreBacked, Grows, HaveOwnRuns, IsBacked, OnlyGrows}
use Rattle.kept_results.specs.Kept.{Agrees, HasEntry, Holds, HoldsIn, StandAt}
use Rattle.kept_results.specs.Looking.{with_entry}
use Rattle.kept_results.specs.declared.memo.Entry.{Entry}
use Rattle.kept_results.specs.declared.memo.Memo.{Memo}
use Rattle.kept_results.specs.declared.memo.Memo.TheOpen.{Memo-F}
use Rattle.kept_results.specs.declared.memo.Memo.TheViews.{out-Memo, out-roll-Memo, roll-Memo}
use Rattle.kept_results.proofs.Agreement.{added, agrees_child, renewed}
use Rattle.kept_results.proofs.Lists.{one_place, push_cases, set_cases}
use Rattle.kept_results.proofs.Shown.{there_is}

-- ---- runs that stay

pub only_none : (store : StoreValue) → OnlyGrows store store
only_none store = record { added = []; grown = sym (append-nil store.runs); others = λ id o has. has; checkpoint = refl }

pub only_same : (before after : StoreValue) → after ≡ before → OnlyGrows before after
only_same before after same = subst (OnlyGrows before) (sym same) (only_none before)

pub only_both : {a b d : StoreValue} → OnlyGrows a b → OnlyGrows b d → OnlyGrows a d
only_both {a} h k = record {
  added = h.added ++ k.added;
  grown = k.grown ∙ ap (λ (r : Runs). r ++ k.added) h.grown ∙ append_assoc a.runs h.added k.added;
  others = λ id o has. k.others id o (h.others id o has);
  checkpoint = k.checkpoint ∙ h.checkpoint;
}

pub still_begun : {a b : StoreValue} → OnlyGrows a b → IsSome a.checkpoint → IsSome b.checkpoint
still_begun h begun = ap is_some h.checkpoint ∙ begun

-- an outcome is put
module _ (before after : StoreValue) (id : ℕ) (o : Outcome) (h : PutsOutcome before after id o) where
  found : FindsOutcomes before.runs (before.runs ++ (id, outcome_cells o) ∷ []) id o
  found = put_found before.runs id o h.new h.held

  runs_are : after.runs ≡ before.runs ++ (id, outcome_cells o) ∷ []
  runs_are = ap (λ (s : StoreValue). s.runs) h.put

  pub only_put : OnlyGrows before after
  only_put = record {
    added = (id, outcome_cells o) ∷ [];
    grown = runs_are;
    others = λ other x has. subst (λ (r : Runs). HasOutcome r other x) (sym runs_are) (found.others other x has);
    checkpoint = ap (λ (s : StoreValue). s.checkpoint) h.put;
  }

  pub has_run : HasOutcome after.runs id o
  has_run = subst (λ (r : Runs). HasOutcome r id o) (sym runs_are) found.new

  pub one_more : length after.runs ≡ length before.runs + 1
  one_more = ap length runs_are ∙ length-append before.runs ((id, outcome_cells o) ∷ [])

none_there : (runs : Runs) (id : ℕ) → HasSomeOutcome runs id → cells_in runs id ≡ None → ⊥
none_there runs id some none = none-some (outcome_cells some.outcome) (sym none ∙ some.has.cells_are)

abbrev rest_of : List ℕ → List ℕ
rest_of [] = []
rest_of (place ∷ path) = path

tail_same : (place : ℕ) (xs ys : List ℕ) → place ∷ xs ≡ place ∷ ys → xs ≡ ys
tail_same place xs ys e = ap rest_of e

-- ---- the state

module _ (m : MetricsValue) where
  pub backed_more : (a b : Runs) (node : Node) (memo : Memo) → KeepsOutcomes a b → IsBacked m a node memo → IsBacked m b node memo
  backed_more a b node memo keeps h = record {
    at = λ path element kept entry s has. keeps entry.run.0 (lay m element entry.context) (h.at path element kept entry s has);
  }

  pub backed_child : (runs : Runs) (node : Node) (memo : Memo) (place : ℕ) (child : Node) (kept : Memo) → IsBacked m runs node memo
      → slice_get (out-Node node).children place ≡ Some child → slice_get (out-Memo memo).below place ≡ Some kept → IsBacked m runs child kept
  backed_child runs node memo place child kept h a b = record {
    at = λ path element other entry s has. h.at (place ∷ path) element other entry (child, kept, a, b, s) has;
  }

  -- the run of this entry has the layout of the element
  abbrev pub HasLayout : Runs → Node → Entry → Type 0
  HasLayout runs node entry = HasOutcome runs entry.run.0 (lay m node entry.context)

  abbrev pub OwnBacked : Runs → Node → Memo-F Memo → Type 0
  OwnBacked runs node layer = (entry : Entry) → HasEntry layer entry → HasLayout runs node entry

  abbrev pub ChildrenBacked : Runs → Node → Memo-F Memo → Type 0
  ChildrenBacked runs node layer = (place : ℕ) (child : Node) (kept : Memo) → slice_get (out-Node node).children place ≡ Some child
      → slice_get layer.below place ≡ Some kept → IsBacked m runs child kept

  backed_at : (path : List ℕ) (runs : Runs) (node : Node) (layer : Memo-F Memo) → OwnBacked runs node layer → ChildrenBacked runs node layer
      → (element : Node) (kept : Memo) (entry : Entry) → StandAt path node (roll-Memo layer) element kept → HasEntry (out-Memo kept) entry → HasLayout runs element entry
  backed_at [] runs node layer here children element kept entry s has =
      subst (λ (n : Node). HasLayout runs n entry) (sym s.0)
      (here entry (subst (λ (l : Memo-F Memo). HasEntry l entry) (ap out-Memo s.1 ∙ out-roll-Memo layer) has))
  backed_at (place ∷ path) runs node layer here children element kept entry s has =
      (children place s.0 s.1 s.2 (ap (λ (l : Memo-F Memo). slice_get l.below place) (sym (out-roll-Memo layer)) ∙ s.3)).at path element kept entry s.4 has

  -- where an element's own entries are backed and all those below it, it is
  pub backed_made : (runs : Runs) (node : Node) (layer : Memo-F Memo) → OwnBacked runs node layer → ChildrenBacked runs node layer → IsBacked m runs node (roll-Memo layer)
  backed_made runs node layer here children = record { at = λ path. backed_at path runs node layer here children }

  pub own_backed : (runs : Runs) (node : Node) (memo : Memo) → IsBacked m runs node memo → OwnBacked runs node (out-Memo memo)
  own_backed runs node memo h entry has = h.at [] node memo entry (refl, refl) has

  pub are_backed : (runs : Runs) (node : Node) (memo : Memo) → IsBacked m runs node memo → AreBacked runs (out-Memo memo)
  are_backed runs node memo h entry has = record { outcome = lay m node entry.context; has = own_backed runs node memo h entry has }

  -- one memo below is renewed
  pub backed_renewed : (a b : Runs) (node : Node) (memo : Memo) (place : ℕ) (child : Node) (old new : Memo) → IsBacked m a node memo
      → slice_get (out-Node node).children place ≡ Some child → slice_get (out-Memo memo).below place ≡ Some old
      → KeepsOutcomes a b → IsBacked m b child new → IsBacked m b node (roll-Memo (renewed memo place new))
  backed_renewed a b node memo place child old new h at_node at keeps new_backed =
      let all = backed_more a b node memo keeps h in
      backed_made b node (renewed memo place new)
      (λ entry has. own_backed b node memo all entry record { place = has.place; at = has.at; live = has.live })
      (λ j kid kept f g.
      elim (set_cases (out-Memo memo).below place j new kept g) [
        | inl p ↦ subst (λ (n : Node). IsBacked m b n kept) (one_place (out-Node node).children place j child kid (sym p.0) at_node f)
            (subst (IsBacked m b child) (sym p.1) new_backed)
        | inr q ↦ backed_child b node memo j kid kept all f q
      ])

  -- one entry more
  pub backed_added : (a b : Runs) (node : Node) (memo : Memo) (more : Entry) → IsBacked m a node memo → KeepsOutcomes a b → HasLayout b node more
      → IsBacked m b node (roll-Memo (added memo more))
  backed_added a b node memo more h keeps has_more =
      let all = backed_more a b node memo keeps h in
      backed_made b node (added memo more)
      (λ entry has.
      elim (push_cases (out-Memo memo).entries more entry has.place has.at) [
        | inl p ↦ subst (HasLayout b node) (sym p) has_more
        | inr q ↦ own_backed b node memo all entry record { place = has.place; at = q; live = has.live }
      ])
      (λ j kid kept f g. backed_child b node memo j kid kept all f g)

  -- another entry at a place
  pub backed_put : (a b : Runs) (node : Node) (memo : Memo) (place : ℕ) (new : Entry) → IsBacked m a node memo → KeepsOutcomes a b → HasLayout b node new
      → IsBacked m b node (roll-Memo (with_entry memo place new))
  backed_put a b node memo place new h keeps has_new =
      let all = backed_more a b node memo keeps h in
      backed_made b node (with_entry memo place new)
      (λ entry has.
      elim (set_cases (out-Memo memo).entries place has.place new entry has.at) [
        | inl p ↦ subst (HasLayout b node) (sym p.1) has_new
        | inr q ↦ own_backed b node memo all entry record { place = has.place; at = q; live = has.live }
      ])
      (λ j kid kept f g. backed_child b node memo j kid kept all f g)

  -- ---- runs of entries at paths

  -- each entry at a path has a run with some outcome
  held_backed : (path : List ℕ) (runs : Runs) (node : Node) (memo : Memo) (entry : Entry) → Agrees m node memo → IsBacked m runs node memo → Holds path memo entry
      → HasSomeOutcome runs entry.run.0
  held_backed [] runs node memo entry h backed held = are_backed runs node memo backed entry held
  held_backed (place ∷ path) runs node memo entry h backed held =
      let many = (h.at [] node memo (refl, refl)).as_many in
      let within = slice_get_within (out-Memo memo).below place held.0 held.1 in
      let child = there_is (out-Node node).children place (omega (arith, many, within)) in
      held_backed path runs child.0 held.0 entry (agrees_child m node memo place child.0 held.0 h child.1 held.1)
      (backed_child runs node memo place child.0 held.0 backed child.1 held.1) held.2

  -- ---- what passes do to a store

  -- where it is known of what a pass left behind what was there and what came, no two runs are one
  module _ (node : Node) (before : Memo) (runs : Runs) (h : Agrees m node before) (backed : IsBacked m runs node before) where
    abbrev Came : List ℕ → Entry → Type 0
    Came path entry = HasSomeOutcome runs entry.run.0 → ⊥

    apart_from : (path other : List ℕ) (a b : Entry) (P : Type 0) → Holds path before a → Came other b → a.run ≡ b.run → P
    apart_from path other a b P held came same =
        absurd (came (subst (λ (r : RunId). HasSomeOutcome runs r.0) same (held_backed path runs node before a h backed held)))

    own_apart : (after : Memo) (N : List ℕ → Entry → Type 0) → ((path : List ℕ) (entry : Entry) → Holds path after entry → Holds path before entry ⊎ (N path entry × Came path entry))
        → ((path other : List ℕ) (a b : Entry) → N path a → N other b → a.run ≡ b.run → (path ≡ other) × (a.context ≡ b.context))
        → HaveOwnRuns before → HaveOwnRuns after
    own_apart after N cases new own = record {
      at = λ path other a b x y same.
          elim (cases path a x) [
            | inl p ↦ elim (cases other b y) [
              | inl q ↦ own.at path other a b p q same
              | inr q ↦ apart_from path other a b ((path ≡ other) × (a.context ≡ b.context)) p q.1 same
            ]
            | inr p ↦ elim (cases other b y) [
              | inl q ↦ apart_from other path b a ((path ≡ other) × (a.context ≡ b.context)) q p.1 (sym same)
              | inr q ↦ new path other a b p.0 q.0 same
            ]
          ];
    }

  pub grows_none : (node : Node) (memo : Memo) (store : StoreValue) (from : ℕ) (done : Bool) → IsBacked m store.runs node memo → Grows m node memo memo store store from from done
  grows_none node memo store from done h = record { backed = h; only = only_none store; came = λ path entry held. inl held; own = λ own. own; counted = λ _. refl }

  pub grows_both : {node : Node} {before mid after : Memo} {a b d : StoreValue} {from between to : ℕ} {done : Bool} → Grows m node before mid a b from between true
      → Grows m node mid after b d between to done → Grows m node before after a d from to done
  grows_both h k = record {
    backed = k.backed;
    only = only_both h.only k.only;
    came = λ path entry held.
        elim (k.came path entry held) [
          | inl p ↦ h.came path entry p
          | inr q ↦ inr (λ some. q record { outcome = some.outcome; has = h.only.others entry.run.0 some.outcome some.has })
        ];
    own = λ own. k.own (h.own own);
    counted = λ e. let f = h.counted refl in let g = k.counted e in omega arith;
  }

  pub grows_partly : {node : Node} {before after : Memo} {a b : StoreValue} {from to : ℕ} → Grows m node before after a b from to true → Grows m node before after a b from to false
  grows_partly h = record { backed = h.backed; only = h.only; came = h.came; own = h.own; counted = λ _. h.counted refl }

  -- a pass over one child
  module _ (node : Node) (memo : Memo) (place : ℕ) (old new : Memo) (at : slice_get (out-Memo memo).below place ≡ Some old) where
    -- an entry that is there then was there, or came in the child's memo
    pub held_renewed : (path : List ℕ) (entry : Entry) → Holds path (roll-Memo (renewed memo place new)) entry
        → Holds path memo entry ⊎ ((p : List ℕ) × (path ≡ place ∷ p) × Holds p new entry)
    held_renewed path entry held = by path (subst (λ (l : Memo-F Memo). HoldsIn path l entry) (out-roll-Memo (renewed memo place new)) held)
      where
        by : (path : List ℕ) → HoldsIn path (renewed memo place new) entry → Holds path memo entry ⊎ ((p : List ℕ) × (path ≡ place ∷ p) × Holds p new entry)
        by [] k = inl record { place = k.place; at = k.at; live = k.live }
        by (j ∷ p) k =
            elim (set_cases (out-Memo memo).below place j new k.0 k.1) [
              | inl e ↦ inr (p, ap (λ (n : ℕ). n ∷ p) e.0, subst (λ (z : Memo). Holds p z entry) e.1 k.2)
              | inr e ↦ inl (k.0, e, k.2)
            ]

    own_below : HaveOwnRuns memo → HaveOwnRuns old
    own_below own = record {
      at = λ path other a b x y same.
          let r = own.at (place ∷ path) (place ∷ other) a b (old, at, x) (old, at, y) same in
          (tail_same place path other r.0, r.1);
    }

    module _ (runs : Runs) (came : (path : List ℕ) (entry : Entry) → Holds path new entry → Holds path old entry ⊎ (HasSomeOutcome runs entry.run.0 → ⊥)) where
      abbrev InNew : List ℕ → Entry → Type 0
      InNew path entry = (p : List ℕ) × (path ≡ place ∷ p) × Holds p new entry

      came_under : (path : List ℕ) (entry : Entry) → Holds path (roll-Memo (renewed memo place new)) entry
          → Holds path memo entry ⊎ (InNew path entry × (HasSomeOutcome runs entry.run.0 → ⊥))
      came_under path entry held =
          elim (held_renewed path entry held) [
            | inl p ↦ inl p
            | inr q ↦ elim (came q.0 entry q.2) [
              | inl k ↦ inl (subst (λ (z : List ℕ). Holds z memo entry) (sym q.1) (old, at, k))
              | inr none ↦ inr (q, none)
            ]
          ]

  pub grows_under : {child : Node} {old new : Memo} {a b : StoreValue} {from to : ℕ} {done : Bool} (node : Node) (memo : Memo) (place : ℕ) → Agrees m node memo → IsBacked m a.runs node memo
      → slice_get (out-Node node).children place ≡ Some child → slice_get (out-Memo memo).below place ≡ Some old
      → Grows m child old new a b from to done → Grows m node memo (roll-Memo (renewed memo place new)) a b from to done
  grows_under {child} {old} {new} {a} {b} node memo place agrees h at_node at k =
      let cases = came_under node memo place old new at a.runs k.came in
      record {
        backed = backed_renewed a.runs b.runs node memo place child old new h at_node at k.only.others k.backed;
        only = k.only;
        came = λ path entry held. elim (cases path entry held) [ inl p ↦ inl p | inr q ↦ inr q.1 ];
        own = λ own.
            let below = k.own (own_below node memo place old new at own) in
            own_apart node memo a.runs agrees h (roll-Memo (renewed memo place new)) (InNew node memo place old new at a.runs k.came) cases
            (λ path other x y p q same.
            let r = below.at p.0 q.0 x y p.2 q.2 same in
            (p.1 ∙ ap (λ (z : List ℕ). place ∷ z) r.0 ∙ sym q.1, r.1))
            own;
        counted = k.counted;
      }

  -- an entry at the root
  abbrev IsOwn : Entry → List ℕ → Entry → Type 0
  IsOwn new path entry = (path ≡ []) × (entry ≡ new)

  own_same : (new : Entry) (path other : List ℕ) (a b : Entry) → IsOwn new path a → IsOwn new other b → a.run ≡ b.run → (path ≡ other) × (a.context ≡ b.context)
  own_same new path other a b p q same = (p.0 ∙ sym q.0, ap (λ (e : Entry). e.context) (p.1 ∙ sym q.1))

  came_own : (runs : Runs) (new : Entry) → (HasSomeOutcome runs new.run.0 → ⊥) → (path : List ℕ) (entry : Entry) (H : Type 0) → H ⊎ IsOwn new path entry
      → H ⊎ (IsOwn new path entry × (HasSomeOutcome runs entry.run.0 → ⊥))
  came_own runs new none path entry H (inl h) = inl h
  came_own runs new none path entry H (inr q) = inr (q, λ some. none (subst (λ (e : Entry). HasSomeOutcome runs e.run.0) q.1 some))

  held_added : (memo : Memo) (more : Entry) (path : List ℕ) (entry : Entry) → Holds path (roll-Memo (added memo more)) entry → Holds path memo entry ⊎ IsOwn more path entry
  held_added memo more path entry held = by path (subst (λ (l : Memo-F Memo). HoldsIn path l entry) (out-roll-Memo (added memo more)) held)
    where
      by : (path : List ℕ) → HoldsIn path (added memo more) entry → Holds path memo entry ⊎ IsOwn more path entry
      by [] k = elim (push_cases (out-Memo memo).entries more entry k.place k.at) [ inl p ↦ inr (refl, p) | inr q ↦ inl record { place = k.place; at = q; live = k.live } ]
      by (j ∷ p) k = inl k

  held_put : (memo : Memo) (place : ℕ) (new : Entry) (path : List ℕ) (entry : Entry) → Holds path (roll-Memo (with_entry memo place new)) entry → Holds path memo entry ⊎ IsOwn new path entry
  held_put memo place new path entry held = by path (subst (λ (l : Memo-F Memo). HoldsIn path l entry) (out-roll-Memo (with_entry memo place new)) held)
    where
      by : (path : List ℕ) → HoldsIn path (with_entry memo place new) entry → Holds path memo entry ⊎ IsOwn new path entry
      by [] k = elim (set_cases (out-Memo memo).entries place k.place new entry k.at) [ inl p ↦ inr (refl, p.1) | inr q ↦ inl record { place = k.place; at = q; live = k.live } ]
      by (j ∷ p) k = inl k

  -- one step, whose outcome is kept in an entry of the element
  module _ (node : Node) (memo after : Memo) (new : Entry) (a b : StoreValue) (o : Outcome) (from to : ℕ) (agrees : Agrees m node memo) (h : IsBacked m a.runs node memo)
      (puts : PutsOutcome a b new.run.0 o) (is : o ≡ lay m node new.context) (step : to ≡ from + 1)
      (cases : (path : List ℕ) (entry : Entry) → Holds path after entry → Holds path memo entry ⊎ IsOwn new path entry) where
    none_had : HasSomeOutcome a.runs new.run.0 → ⊥
    none_had some = none_there a.runs new.run.0 some puts.new

    both_cases : (path : List ℕ) (entry : Entry) → Holds path after entry → Holds path memo entry ⊎ (IsOwn new path entry × (HasSomeOutcome a.runs entry.run.0 → ⊥))
    both_cases path entry held = came_own a.runs new none_had path entry (Holds path memo entry) (cases path entry held)

    has_layout : HasLayout b.runs node new
    has_layout = subst (HasOutcome b.runs new.run.0) is (has_run a b new.run.0 o puts)

    step_grows : IsBacked m b.runs node after → Grows m node memo after a b from to true
    step_grows backed = record {
      backed = backed;
      only = only_put a b new.run.0 o puts;
      came = λ path entry held. elim (both_cases path entry held) [ inl p ↦ inl p | inr q ↦ inr q.1 ];
      own = own_apart node memo a.runs agrees h after (IsOwn new) both_cases (own_same new);
      counted = λ _. let l = one_more a b new.run.0 o puts in omega arith;
    }

  pub grows_added : (node : Node) (memo : Memo) (more : Entry) (a b : StoreValue) (o : Outcome) (from to : ℕ) → Agrees m node memo → IsBacked m a.runs node memo
      → PutsOutcome a b more.run.0 o → o ≡ lay m node more.context → to ≡ from + 1 → Grows m node memo (roll-Memo (added memo more)) a b from to true
  grows_added node memo more a b o from to agrees h puts is step =
      let after : Memo = roll-Memo (added memo more) in
      let cases = held_added memo more in
      step_grows node memo after more a b o from to agrees h puts is step cases
      (backed_added a.runs b.runs node memo more h (only_put a b more.run.0 o puts).others (has_layout node memo after more a b o from to agrees h puts is step cases))

  -- in place of another
  pub grows_put : (node : Node) (memo : Memo) (place : ℕ) (new : Entry) (a b : StoreValue) (o : Outcome) (from to : ℕ) → Agrees m node memo → IsBacked m a.runs node memo
      → PutsOutcome a b new.run.0 o → o ≡ lay m node new.context → to ≡ from + 1 → Grows m node memo (roll-Memo (with_entry memo place new)) a b from to true
  grows_put node memo place new a b o from to agrees h puts is step =
      let after : Memo = roll-Memo (with_entry memo place new) in
      let cases = held_put memo place new in
      step_grows node memo after new a b o from to agrees h puts is step cases
      (backed_put a.runs b.runs node memo place new h (only_put a b new.run.0 o puts).others (has_layout node memo after new a b o from to agrees h puts is step cases))

  -- one step, whose outcome isn't kept
  pub grows_step : (node : Node) (memo : Memo) (a b : StoreValue) (from to : ℕ) → IsBacked m a.runs node memo → OnlyGrows a b → Grows m node memo memo a b from to false
  grows_step node memo a b from to h only = record {
    backed = backed_more a.runs b.runs node memo only.others h;
    only = only;
    came = λ path entry held. inl held;
    own = λ own. own;
    counted = λ (e : false ≡ true). cc;
  }
