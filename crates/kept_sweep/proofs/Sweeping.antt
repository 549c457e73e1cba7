-- What is left when all is marked, what is needed is flagged, and the memo is sealed.
use Rattle.std.proofs.Common.{◌≡◌, ◌∙◌, inl, inr, refl, sym, ap, subst, ℕ, suc, Bool, true, false, not, ◌&&◌, List, [], ◌∷◌, map, None, Option, Some, is_some, slice_get}
use Rattle.std.proofs.lemmas.List.{length-map}
use Rattle.std.proofs.lemmas.Option.{none-some, same_Some, slice_get-map}
use Rattle.std.specs.List.{AllByRecursion, list_all}
use Rattle.std.specs.Option.{option_map}
use Rattle.font_metrics.specs.Metrics.{MetricsValue}
use Rattle.math_tree.specs.declared.node.Node.{Node}
use Rattle.kept_results.specs.declared.memo.Former.{Former}
use Rattle.layout_model.specs.declared.context.Context.{Context}
use Rattle.kept_results.specs.Ends.{all_undone, sealed, settled, stripped}
use Rattle.kept_results.specs.Kept.{Agrees, AreApart, HasEntry, Holds, HoldsIn, HoldsOne, IsMemoOf, StandAt, is_fresh, is_live, is_marked}
use Rattle.kept_results.specs.Laws.{is_unmarked, unmarked_layer}
use Rattle.kept_results.specs.declared.memo.Entry.{Entry}
use Rattle.kept_results.specs.declared.memo.Memo.{Memo}
use Rattle.kept_results.specs.declared.memo.Memo.TheFolds.{fold_out-Memo, ind-Memo}
use Rattle.kept_results.specs.declared.memo.Memo.TheOpen.{Memo-F}
use Rattle.kept_results.specs.declared.memo.Memo.TheViews.{out-Memo, out-roll-Memo, roll-Memo, roll-out-Memo}
use Rattle.kept_results.proofs.Counts.{stripped_out}
use Rattle.kept_results.proofs.Sealing.{seal_law}
use Rattle.kept_results.proofs.Tidying.{none_made, not_fresh_at, stands}
use Rattle.kept_results.proofs.Whole.{kept_law}
use Rattle.kept_sweep.specs.Flagged.{IsFlagged, all_marked, cleared}
use Rattle.kept_sweep.specs.Swept.{IsPartOf, KeepsNeeded}
use Rattle.kept_sweep.proofs.Clearing.{cleared_out, cleared_over, cleared_roll, mapped_was, marked_out, marked_over, out_cleared, out_marked}

-- ---- induction

all_first : (P : Memo → Type 0) (ys : List ((memo : Memo) × P memo)) → AllByRecursion P (map (λ y. y.0) ys)
all_first P [] = tt
all_first P (y ∷ ys) = (y.1, all_first P ys)

-- what holds of a memo where it holds of those below it holds of every memo
pub by_below : (P : Memo → Type 0) → ((memo : Memo) → AllByRecursion P (out-Memo memo).below → P memo) → (memo : Memo) → P memo
by_below P step = ind-Memo P (λ x y is.
    let below : (out-Memo (roll-Memo x)).below ≡ map (λ e. e.0) y.below = ap (λ (l : Memo-F Memo). l.below) (out-roll-Memo x ∙ sym is) in
    step (roll-Memo x) (subst (AllByRecursion P) (sym below) (all_first P y.below)))

-- ---- memos without flags

is_none : (former : Option Former) → not (is_some former) ≡ true → former ≡ None
is_none None h = refl
is_none (Some facts) h = let g : false ≡ true = h in cc

both_true : (a b : Bool) → a && b ≡ true → (a ≡ true) × (b ≡ true)
both_true true b h = (refl, h)
both_true false b h = (h, let g : false ≡ true = h in cc)

AreOld : List Entry → Type 0
AreOld entries = (place : ℕ) (entry : Entry) → slice_get entries place ≡ Some entry → is_fresh entry ≡ false

module _ (memo : Memo) (h : stripped memo ≡ memo) where
  abbrev own : Memo-F Memo
  own = out-Memo memo

  entries_plain : all_undone own.entries ≡ own.entries
  entries_plain = ap (λ (l : Memo-F Memo). l.entries) (sym (out-roll-Memo _)) ∙ ap (λ (z : Memo). (out-Memo z).entries) (sym (stripped_out memo) ∙ h)

  below_plain : map stripped own.below ≡ own.below
  below_plain =
      ap (λ (l : Memo-F Memo). l.below)
      (sym (out-roll-Memo (record { former = own.former; facts = own.facts; entries = all_undone own.entries; below = map stripped own.below })))
      ∙ ap (λ (z : Memo). (out-Memo z).below) (sym (stripped_out memo) ∙ h)

  all_old : AreOld own.entries
  unfolding AreOld
  all_old place entry at =
      not_fresh_at own.entries place entry (none_made own.entries entries_plain) at

  each_plain : (place : ℕ) (below : Memo) → slice_get own.below place ≡ Some below → stripped below ≡ below
  each_plain place below at =
      same_Some (stripped below) below (sym (slice_get-map stripped own.below place ∙ ap (option_map stripped) at) ∙ ap (λ (l : List Memo). slice_get l place) below_plain ∙ at)

-- ---- with all marks, and no flags

none_live : (entries : List Entry) (place : ℕ) (entry : Entry) → AreOld entries → slice_get entries place ≡ Some entry → is_live true entry ≡ true → ⊥
unfolding AreOld
none_live entries place entry h at live = let g : false ≡ true = sym (h place entry at) ∙ live in cc

none_apart : (entries : List Entry) → AreOld entries → AreApart true entries
unfolding AreOld
none_apart [] h = tt
none_apart (e ∷ entries) h = (λ live. let g : false ≡ true = sym (h 0 e refl) ∙ live in cc, none_apart entries (λ place. h (suc place)))

-- nothing is kept but what is older
none_holds : (path : List ℕ) (memo : Memo) (entry : Entry) → stripped memo ≡ memo → Holds path (all_marked memo) entry → ⊥
none_holds [] memo entry h x =
    let y : HasEntry (marked_over (out-Memo memo)) entry = subst (λ (l : Memo-F Memo). HasEntry l entry) (out_marked memo) x in
    none_live (out-Memo memo).entries y.place entry (all_old memo h) y.at y.live
none_holds (place ∷ path) memo entry h x =
    let y : HoldsIn (place ∷ path) (marked_over (out-Memo memo)) entry = subst (λ (l : Memo-F Memo). HoldsIn (place ∷ path) l entry) (out_marked memo) x in
    let was = mapped_was all_marked (out-Memo memo).below place y.0 y.1 in
    none_holds path was.0 entry (each_plain memo h place was.0 was.1) (subst (λ (z : Memo). Holds path z entry) was.2 y.2)

module _ (m : MetricsValue) where
  marked_memo : (node : Node) (memo : Memo) → stripped memo ≡ memo → IsMemoOf m node (out-Memo memo) → IsMemoOf m node (marked_over (out-Memo memo))
  marked_memo node memo h k = record {
    facts_are = k.facts_are;
    as_many = length-map (out-Memo memo).below all_marked ∙ k.as_many;
    sound = λ entry has. absurd (none_live (out-Memo memo).entries has.place entry (all_old memo h) has.at has.live);
    apart = none_apart (out-Memo memo).entries (all_old memo h);
    stays = λ child alike. absurd (none-some child alike);
  }

  stood_marked : (path : List ℕ) (node : Node) (memo : Memo) (element : Node) (kept : Memo) → stripped memo ≡ memo → StandAt path node (all_marked memo) element kept
      → (former : Memo) × StandAt path node memo element former × (kept ≡ all_marked former) × (stripped former ≡ former)
  stood_marked [] node memo element kept h s = (memo, (s.0, refl), s.1, h)
  stood_marked (place ∷ path) node memo element kept h s =
      let b = mapped_was all_marked (out-Memo memo).below place s.1 (ap (λ (l : Memo-F Memo). slice_get l.below place) (sym (out_marked memo)) ∙ s.3) in
      let r = stood_marked path s.0 b.0 element kept (each_plain memo h place b.0 b.1) (subst (λ (z : Memo). StandAt path s.0 z element kept) b.2 s.4) in
      (r.0, (s.0, b.0, s.2, b.1, r.1), r.2, r.3)

  pub agrees_marked : (node : Node) (memo : Memo) → Agrees m node memo → stripped memo ≡ memo → Agrees m node (all_marked memo)
  agrees_marked node memo h k = record {
    at = λ path element kept s.
        let r = stood_marked path node memo element kept k s in
        subst (λ (z : Memo). IsMemoOf m element (out-Memo z)) (sym r.2)
        (subst (IsMemoOf m element) (sym (out_marked r.0)) (marked_memo element r.0 r.3 (h.at path element r.0 r.1)));
  }

-- ---- the cleared memo

cleared_each : (memos : List Memo) → AllByRecursion (λ memo. cleared (all_marked memo) ≡ cleared memo) memos → map cleared (map all_marked memos) ≡ map cleared memos
cleared_each [] h = refl
cleared_each (x ∷ memos) h = ap (λ z. z ∷ map cleared (map all_marked memos)) h.0 ∙ ap (λ l. cleared x ∷ l) (cleared_each memos h.1)

-- marks change nothing of it
cleared_marked : (memo : Memo) → cleared (all_marked memo) ≡ cleared memo
cleared_marked = by_below (λ memo. cleared (all_marked memo) ≡ cleared memo) (λ memo h.
    ap cleared (marked_out memo) ∙ cleared_roll (marked_over (out-Memo memo))
    ∙ (λ i. roll-Memo record {
      former = None;
      facts = (out-Memo memo).facts;
      entries = map settled (out-Memo memo).entries;
      below = cleared_each (out-Memo memo).below h i;
    }) ∙ sym (cleared_out memo))

settled_same : (entries : List Entry) → AreOld entries → map settled entries ≡ entries
unfolding AreOld
settled_same [] h = refl
settled_same (e ∷ entries) h =
    (λ i. record { context = e.context; run = e.run; one = e.one; two = e.two; regular = e.regular; origin = sym (stands e.origin (h 0 e refl)) i } ∷ settled_same entries (λ place. h (suc place)) i)

abbrev IsCleared : Memo → Type 0
IsCleared memo = stripped memo ≡ memo → is_unmarked memo ≡ true → cleared memo ≡ memo

same_each : (memos : List Memo) → AllByRecursion IsCleared memos → ((place : ℕ) (memo : Memo) → slice_get memos place ≡ Some memo → stripped memo ≡ memo)
    → list_all (λ b. b) (map is_unmarked memos) ≡ true → map cleared memos ≡ memos
same_each [] h plain unmarked = refl
same_each (x ∷ memos) h plain unmarked =
    let both = both_true (is_unmarked x) (list_all (λ b. b) (map is_unmarked memos)) unmarked in
    ap (λ z. z ∷ map cleared memos) (h.0 (plain 0 x refl) both.0) ∙ ap (λ l. x ∷ l) (same_each memos h.1 (λ place. plain (suc place)) both.1)

-- without marks and flags it is the memo itself
cleared_same : (memo : Memo) → IsCleared memo
cleared_same = by_below IsCleared (λ memo h plain unmarked.
    let layer : Memo-F Memo = out-Memo memo in
    let both = both_true (not (is_marked layer)) (list_all (λ b. b) (map is_unmarked layer.below)) (sym (fold_out-Memo Bool unmarked_layer memo) ∙ unmarked) in
    cleared_out memo
    ∙ (λ i. roll-Memo record {
      former = sym (is_none layer.former both.0) i;
      facts = layer.facts;
      entries = settled_same layer.entries (all_old memo plain) i;
      below = same_each layer.below h (each_plain memo plain) both.1 i;
    }) ∙ roll-out-Memo memo)

pub cleared_before : (memo : Memo) → stripped memo ≡ memo → is_unmarked memo ≡ true → cleared (all_marked memo) ≡ memo
cleared_before memo h k = cleared_marked memo ∙ cleared_same memo h k

-- what is held is in it, without its flag
held_cleared : (path : List ℕ) (memo : Memo) (entry : Entry) → Holds path memo entry → Holds path (cleared memo) (settled entry)
held_cleared [] memo entry h =
    let has : HasEntry (cleared_over (out-Memo memo)) (settled entry) =
    record { place = h.place; at = slice_get-map settled (out-Memo memo).entries h.place ∙ ap (option_map settled) h.at; live = refl } in
    subst (λ (l : Memo-F Memo). HasEntry l (settled entry)) (sym (out_cleared memo)) has
held_cleared (place ∷ path) memo entry h =
    subst (λ (l : Memo-F Memo). HoldsIn (place ∷ path) l (settled entry)) (sym (out_cleared memo))
    (cleared h.0, slice_get-map cleared (out-Memo memo).below place ∙ ap (option_map cleared) h.1, held_cleared path h.0 entry h.2)

-- ---- the sweep

module _ (m : MetricsValue) (node : Node) (context : Context) (memo flagged : Memo) (plain : stripped memo ≡ memo) (n : IsFlagged m node context (all_marked memo) flagged) where
  pub swept : KeepsNeeded m node context (sealed flagged)
  swept =
      let seals = seal_law m node flagged n.agrees in
      let one : HoldsOne [] flagged context = record { entry = n.here.entry; held = n.here.has; in_context = n.here.in_context } in
      record {
        agrees = seals.agrees;
        unmarked = seals.unmarked;
        plain = seals.plain;
        all = λ pair need.
            let kept = kept_law m node flagged context n.agrees one pair need in
            record { entry = settled kept.entry; held = seals.stays pair.path kept.entry kept.held; in_context = kept.in_context };
        no_other = λ pair kept.
            let was = seals.was pair.path kept.entry kept.held in
            let former : HoldsOne pair.path flagged pair.context = record { entry = was.former; held = was.held; in_context = ap (λ (e : Entry). e.context) (sym was.is) ∙ kept.in_context } in
            elim (n.asked pair.path pair.context former) [
              | inl x ↦ absurd (none_holds pair.path memo x.entry plain x.held)
              | inr need ↦ need
            ];
      }

  pub swept_part : is_unmarked memo ≡ true → IsPartOf (sealed flagged) memo
  swept_part unmarked path entry h =
      let was = (seal_law m node flagged n.agrees).was path entry h in
      subst (λ (z : Memo). Holds path z entry) (n.same ∙ cleared_before memo plain unmarked)
      (subst (Holds path (cleared flagged)) (sym was.is) (held_cleared path flagged was.former was.held))
