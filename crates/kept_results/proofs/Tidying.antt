-- Tidy memos: how they stay so, and that a calm one is sealed already.
use Rattle.std.proofs.Common.{◌≡◌, ◌∙◌, inl, inr, refl, sym, ap, subst, ℕ, zero, suc, Bool, true, false, true≢false, cond, not, ◌&&◌, ◌≤◌, arith, List, [], ◌∷◌, ◌++◌, length, map, set, Option, None, Some, slice_get, is_some}
use Rattle.std.proofs.lemmas.Option.{none-some, same_Some, slice_get-map}
use Rattle.std.specs.List.{AllByRecursion, list_all}
use Rattle.std.specs.Option.{option_and_then, option_map}
use Rattle.kept_results.specs.declared.memo.Former.{Former}
use Rattle.kept_results.specs.Ends.{all_undone, each_below, restored, sealed, settled, settled_all, stripped, undone_from}
use Rattle.kept_results.specs.Kept.{alike_but, is_fresh, is_fresh_from, is_marked}
use Rattle.kept_results.specs.Laws.{is_unmarked, unmarked_layer}
use Rattle.kept_results.specs.Tidy.{AreTidy, StaysCalm, IsTidy, IsMemoAt, has_none_fresh, has_none_new, is_calm, is_new, only_touched}
use Rattle.kept_results.specs.Looking.{with_entry}
use Rattle.kept_results.specs.declared.memo.Entry.{Entry}
use Rattle.kept_results.specs.declared.memo.Memo.{Memo}
use Rattle.kept_results.specs.declared.memo.Origin.{Origin}
use Rattle.kept_results.specs.declared.memo.Origin.TheVariants.{Made, Remade, Standing}
use Rattle.kept_results.specs.declared.memo.Memo.TheFolds.{fold_out-Memo, ind-Memo}
use Rattle.kept_results.specs.declared.memo.Memo.TheOpen.{Memo-F}
use Rattle.kept_results.specs.declared.memo.Memo.TheViews.{out-Memo, out-roll-Memo, roll-Memo, roll-out-Memo}
use Rattle.kept_results.proofs.Agreement.{added, renewed}
use Rattle.kept_results.proofs.Counts.{sealed_out, stripped_out}
use Rattle.kept_results.proofs.Lists.{pushed, set_cases, set_here, set_other}

-- ---- two tests

first_holds : (a b : Bool) → (a && b) ≡ true → a ≡ true
first_holds true b h = refl
first_holds false b h = h

second_holds : (a b : Bool) → (a && b) ≡ true → b ≡ true
second_holds true b h = h
second_holds false b h = absurd (true≢false (sym h))

both_hold : (a b : Bool) → a ≡ true → b ≡ true → (a && b) ≡ true
both_hold a b h k = ap (λ (x : Bool). x && b) h ∙ k

not_true : (b : Bool) → not b ≡ true → b ≡ false
not_true true h = sym h
not_true false h = refl

-- ---- a layer

calm_mark : (layer : Memo-F Memo) → is_calm layer ≡ true → is_marked layer ≡ false
calm_mark layer h = not_true (is_marked layer) (first_holds (not (is_marked layer)) (has_none_fresh layer.entries) h)

calm_entries : (layer : Memo-F Memo) → is_calm layer ≡ true → has_none_fresh layer.entries ≡ true
calm_entries layer h = second_holds (not (is_marked layer)) (has_none_fresh layer.entries) h

pub not_fresh_at : (entries : List Entry) (place : ℕ) (entry : Entry) → has_none_fresh entries ≡ true → slice_get entries place ≡ Some entry → is_fresh entry ≡ false
not_fresh_at [] place entry h at = absurd (none-some entry at)
not_fresh_at (x ∷ entries) zero entry h at =
    ap is_fresh (sym (same_Some x entry at)) ∙ not_true (is_fresh x) (first_holds (not (is_fresh x)) (has_none_fresh entries) h)
not_fresh_at (x ∷ entries) (suc place) entry h at = not_fresh_at entries place entry (second_holds (not (is_fresh x)) (has_none_fresh entries) h) at

not_new_at : (entries : List Entry) (place : ℕ) (entry : Entry) → has_none_new entries ≡ true → slice_get entries place ≡ Some entry → is_new entry.origin ≡ false
not_new_at [] place entry h at = absurd (none-some entry at)
not_new_at (x ∷ entries) zero entry h at =
    ap (λ (e : Entry). is_new e.origin) (sym (same_Some x entry at)) ∙ not_true (is_new x.origin) (first_holds (not (is_new x.origin)) (has_none_new entries) h)
not_new_at (x ∷ entries) (suc place) entry h at = not_new_at entries place entry (second_holds (not (is_new x.origin)) (has_none_new entries) h) at

new_made : (origin : Origin) → is_new origin ≡ true → is_fresh_from origin ≡ true
new_made Standing h = h
new_made Made h = refl
new_made (Remade was) h = refl

old_not_new : (origin : Origin) → is_fresh_from origin ≡ false → is_new origin ≡ false
old_not_new Standing h = refl
old_not_new Made h = h
old_not_new (Remade was) h = refl

only_if : Bool → Option ℕ → Option ℕ
only_if b found = option_and_then (λ child. cond b (Some child) None) found

pub only_parts : (layer : Memo-F Memo) (child : ℕ) → only_touched layer ≡ Some child → (alike_but layer ≡ Some child) × (has_none_new layer.entries ≡ true)
unfolding only_if
only_parts layer child h = by (alike_but layer) (has_none_new layer.entries) h
  where
    by : (found : Option ℕ) (b : Bool) → only_if b found ≡ Some child → (found ≡ Some child) × (b ≡ true)
    by None b h = absurd (none-some child h)
    by (Some place) true h = (h, refl)
    by (Some place) false h = absurd (none-some child h)

only_whole : (layer : Memo-F Memo) (child : ℕ) → alike_but layer ≡ Some child → has_none_new layer.entries ≡ true → only_touched layer ≡ Some child
only_whole layer child alike none =
    ap (λ (found : Option ℕ). option_and_then (λ place. cond (has_none_new layer.entries) (Some place) None) found) alike
    ∙ ap (λ (b : Bool). cond b (Some child) None) none

-- an element with an entry that is new isn't calm, and all its children may be touched
pub new_calms : (layer : Memo-F Memo) (place : ℕ) (entry : Entry) → slice_get layer.entries place ≡ Some entry → is_new entry.origin ≡ true → StaysCalm layer
new_calms layer place entry at new = record {
  all = λ calm. absurd (true≢false (sym (new_made entry.origin new) ∙ not_fresh_at layer.entries place entry (calm_entries layer calm) at));
  others = λ child only. absurd (true≢false (sym new ∙ not_new_at layer.entries place entry (only_parts layer child only).1 at));
}

-- nor is a marked one
pub mark_calms : (layer : Memo-F Memo) → is_marked layer ≡ true
    → ((child : ℕ) → alike_but layer ≡ Some child → (place : ℕ) (below : Memo) → slice_get layer.below place ≡ Some below → (place ≡ child → ⊥) → is_calm (out-Memo below) ≡ true)
    → StaysCalm layer
mark_calms layer mark others = record {
  all = λ calm. absurd (true≢false (sym mark ∙ calm_mark layer calm));
  others = λ child only. others child (only_parts layer child only).0;
}

-- ---- memos made of others

pub tidy_below : (memo : Memo) → IsTidy memo → AreTidy (out-Memo memo).below
tidy_below memo h place below at = record { at = λ path kept s. h.at (place ∷ path) kept (below, at, s) }

tidy_at : (path : List ℕ) (layer : Memo-F Memo) → StaysCalm layer → AreTidy layer.below → (kept : Memo) → IsMemoAt path (roll-Memo layer) kept → StaysCalm (out-Memo kept)
tidy_at [] layer own below kept s = subst (λ (z : Memo). StaysCalm (out-Memo z)) (sym s) (subst StaysCalm (sym (out-roll-Memo layer)) own)
tidy_at (place ∷ path) layer own below kept s =
    (below place s.0 (ap (λ (l : Memo-F Memo). slice_get l.below place) (sym (out-roll-Memo layer)) ∙ s.1)).at path kept s.2

pub tidy_made : (layer : Memo-F Memo) → StaysCalm layer → AreTidy layer.below → IsTidy (roll-Memo layer)
tidy_made layer own below = record { at = λ path. tidy_at path layer own below }

pub tidy_set : (memos : List Memo) (place : ℕ) (new : Memo) → AreTidy memos → IsTidy new → AreTidy (set memos place new)
tidy_set memos place new h k j memo at = elim (set_cases memos place j new memo at) [ inl p ↦ subst IsTidy (sym p.1) k | inr q ↦ h j memo q ]

-- one memo below is renewed
pub tidy_renewed : (memo : Memo) (place : ℕ) (old new : Memo) → slice_get (out-Memo memo).below place ≡ Some old → AreTidy (out-Memo memo).below → (IsTidy old → IsTidy new)
    → AreTidy (out-Memo (roll-Memo (renewed memo place new))).below
tidy_renewed memo place old new at h f =
    subst (λ (l : Memo-F Memo). AreTidy l.below) (sym (out-roll-Memo (renewed memo place new))) (tidy_set (out-Memo memo).below place new h (f (h place old at)))

-- one new entry more
pub tidy_added : (memo : Memo) (more : Entry) → is_new more.origin ≡ true → AreTidy (out-Memo memo).below → IsTidy (roll-Memo (added memo more))
tidy_added memo more new h =
    tidy_made (added memo more) (new_calms (added memo more) (length (out-Memo memo).entries) more (pushed (out-Memo memo).entries more) new) h

-- where one isn't new, another stands for it, and none is new then, none was
none_new_set : (entries : List Entry) (place : ℕ) (old entry : Entry) → slice_get entries place ≡ Some old → is_new old.origin ≡ false → has_none_new (set entries place entry) ≡ true
    → has_none_new entries ≡ true
none_new_set [] place old entry at was h = refl
none_new_set (x ∷ entries) zero old entry at was h =
    both_hold (not (is_new x.origin)) (has_none_new entries) (ap (λ (e : Entry). not (is_new e.origin)) (same_Some x old at) ∙ ap not was)
    (second_holds (not (is_new entry.origin)) (has_none_new entries) h)
none_new_set (x ∷ entries) (suc place) old entry at was h =
    both_hold (not (is_new x.origin)) (has_none_new entries) (first_holds (not (is_new x.origin)) (has_none_new (set entries place entry)) h)
    (none_new_set entries place old entry at was (second_holds (not (is_new x.origin)) (has_none_new (set entries place entry)) h))

-- ---- an entry is made anew

module _ (memo : Memo) (child : ℕ) (alike : alike_but (out-Memo memo) ≡ Some child) (place : ℕ) (old entry : Entry)
    (at : slice_get (out-Memo memo).entries place ≡ Some old) (stood : is_fresh old ≡ false) (fresh : is_fresh entry ≡ true) (new : Memo) where
  abbrev put_over : Memo-F Memo → Memo-F Memo
  put_over layer = record { former = layer.former; facts = layer.facts; entries = set layer.entries place entry; below = layer.below }

  put_others : StaysCalm (out-Memo memo) → (only : ℕ) → only_touched (put_over (renewed memo child new)) ≡ Some only
      → (j : ℕ) (below : Memo) → slice_get (set (out-Memo memo).below child new) j ≡ Some below → (j ≡ only → ⊥) → is_calm (out-Memo below) ≡ true
  put_others h only is j below there other =
      let parts = only_parts (put_over (renewed memo child new)) only is in
      let none = none_new_set (out-Memo memo).entries place old entry at (old_not_new old.origin stood) parts.1 in
      let same : child ≡ only = same_Some child only (sym alike ∙ parts.0) in
      elim (set_other (out-Memo memo).below child j new below there) [
        | inl p ↦ absurd (other (p.0 ∙ same))
        | inr q ↦ h.others only (only_whole (out-Memo memo) only parts.0 none) j below q.1 other
      ]

  put_calms : StaysCalm (out-Memo memo) → StaysCalm (put_over (renewed memo child new))
  put_calms h = record {
    all = λ calm. absurd (true≢false (sym fresh
        ∙ not_fresh_at (set (out-Memo memo).entries place entry) place entry (calm_entries (put_over (renewed memo child new)) calm) (set_here (out-Memo memo).entries place entry old at)));
    others = put_others h;
  }

  abbrev now : Memo
  now = roll-Memo (renewed memo child new)

  pub tidy_again : IsTidy memo → AreTidy (out-Memo now).below → IsTidy (roll-Memo (with_entry now place entry))
  tidy_again h below =
      tidy_made (with_entry now place entry)
      (subst (λ (l : Memo-F Memo). StaysCalm (put_over l)) (sym (out-roll-Memo (renewed memo child new))) (put_calms (h.at [] memo refl))) below

-- ---- a calm memo is as the end of a pass leaves it

pub stands : (origin : Origin) → is_fresh_from origin ≡ false → origin ≡ Standing
stands Standing h = refl
stands Made h = absurd (true≢false h)
stands (Remade was) h = absurd (true≢false h)

pub settled_same : (entry : Entry) → is_fresh entry ≡ false → settled entry ≡ entry
settled_same entry h = λ i. record {
  context = entry.context;
  run = entry.run;
  one = entry.one;
  two = entry.two;
  regular = entry.regular;
  origin = sym (stands entry.origin h) i;
}

settled_none : (entries : List Entry) → has_none_fresh entries ≡ true → settled_all false entries ≡ entries
settled_none [] h = refl
settled_none (x ∷ entries) h =
    ap (λ (e : Entry). e ∷ settled_all false entries) (settled_same x (not_true (is_fresh x) (first_holds (not (is_fresh x)) (has_none_fresh entries) h)))
    ∙ ap (λ (l : List Entry). x ∷ l) (settled_none entries (second_holds (not (is_fresh x)) (has_none_fresh entries) h))

pub undone_none : (entries : List Entry) → has_none_fresh entries ≡ true → all_undone entries ≡ entries
undone_none [] h = refl
undone_none (x ∷ entries) h =
    ap (λ (origin : Origin). undone_from origin x ++ all_undone entries) (stands x.origin (not_true (is_fresh x) (first_holds (not (is_fresh x)) (has_none_fresh entries) h)))
    ∙ ap (λ (l : List Entry). x ∷ l) (undone_none entries (second_holds (not (is_fresh x)) (has_none_fresh entries) h))

former_none : (former : Option Former) → is_some former ≡ false → None ≡ former
former_none None h = refl
former_none (Some was) h = absurd (true≢false h)

-- where a calm memo itself is left alone, and renewed below alone, it is left alone whole
module _ (renew : Memo → Memo) (own : (memo : Memo) → is_calm (out-Memo memo) ≡ true → renew memo ≡ each_below renew (out-Memo memo)) where
  abbrev StaysAlone : Memo → Type 0
  StaysAlone memo = IsTidy memo → is_calm (out-Memo memo) ≡ true → renew memo ≡ memo

  all_left : (ys : List ((memo : Memo) × StaysAlone memo)) → AreTidy (map (λ y. y.0) ys)
      → ((place : ℕ) (below : Memo) → slice_get (map (λ y. y.0) ys) place ≡ Some below → is_calm (out-Memo below) ≡ true)
      → map renew (map (λ y. y.0) ys) ≡ map (λ y. y.0) ys
  all_left [] h k = refl
  all_left (y ∷ ys) h k =
      ap (λ (z : Memo). z ∷ map renew (map (λ y. y.0) ys)) (y.1 (h 0 y.0 refl) (k 0 y.0 refl))
      ∙ ap (λ (l : List Memo). y.0 ∷ l) (all_left ys (λ n. h (suc n)) (λ n. k (suc n)))

  calm_left : (memo : Memo) → IsTidy memo → is_calm (out-Memo memo) ≡ true → renew memo ≡ memo
  calm_left = ind-Memo StaysAlone (λ x y is tidy calm.
      let memo = roll-Memo x in
      let layer : Memo-F Memo = out-Memo memo in
      let below : layer.below ≡ map (λ e. e.0) y.below = ap (λ (l : Memo-F Memo). l.below) (out-roll-Memo x ∙ sym is) in
      let children : AreTidy (map (λ e. e.0) y.below) = subst AreTidy below (tidy_below memo tidy) in
      let calms : (place : ℕ) (kept : Memo) → slice_get (map (λ e. e.0) y.below) place ≡ Some kept → is_calm (out-Memo kept) ≡ true =
      λ place kept at. (tidy.at [] memo refl).all calm place kept (ap (λ (l : List Memo). slice_get l place) below ∙ at) in
      let same : map renew layer.below ≡ layer.below = ap (map renew) below ∙ all_left y.below children calms ∙ sym below in
      own memo calm
      ∙ (λ i. roll-Memo record {
        former = layer.former;
        facts = layer.facts;
        entries = layer.entries;
        below = same i;
      }) ∙ roll-out-Memo memo)

pub calm_sealed : (memo : Memo) → IsTidy memo → is_calm (out-Memo memo) ≡ true → sealed memo ≡ memo
calm_sealed = calm_left sealed (λ memo calm.
    let layer : Memo-F Memo = out-Memo memo in
    let mark = calm_mark layer calm in
    let entries : settled_all (is_marked layer) layer.entries ≡ layer.entries =
    ap (λ (b : Bool). settled_all b layer.entries) mark ∙ settled_none layer.entries (calm_entries layer calm) in
    sealed_out memo
    ∙ (λ i. roll-Memo record {
      former = former_none layer.former mark i;
      facts = layer.facts;
      entries = entries i;
      below = map sealed layer.below;
    }))

pub calm_stripped : (memo : Memo) → IsTidy memo → is_calm (out-Memo memo) ≡ true → stripped memo ≡ memo
calm_stripped = calm_left stripped (λ memo calm.
    let layer : Memo-F Memo = out-Memo memo in
    stripped_out memo
    ∙ (λ i. roll-Memo record {
      former = layer.former;
      facts = layer.facts;
      entries = undone_none layer.entries (calm_entries layer calm) i;
      below = map stripped layer.below;
    }))

-- of a tidy element of which but one child may not have been left alone, the others are as undoing
-- leaves them
pub others_stripped : (memo : Memo) (child : ℕ) → IsTidy memo → only_touched (out-Memo memo) ≡ Some child
    → (place : ℕ) (below : Memo) → slice_get (out-Memo memo).below place ≡ Some below → (place ≡ child → ⊥) → stripped below ≡ below
others_stripped memo child tidy only place below at other = calm_stripped below (tidy_below memo tidy place below at) ((tidy.at [] memo refl).others child only place below at other)

-- ---- a memo without marks and flags is tidy

fewer : (entries : List Entry) → length (all_undone entries) ≤ length entries
fewer [] = omega arith
fewer (x ∷ entries) = by x.origin (fewer entries)
  where
    by : (origin : Origin) → length (all_undone entries) ≤ length entries → length (undone_from origin x ++ all_undone entries) ≤ suc (length entries)
    by Standing l = omega (arith, l)
    by Made l = omega (arith, l)
    by (Remade []) l = omega (arith, l)
    by (Remade (before ∷ was)) l = omega (arith, l)

tail_of : List Entry → List Entry
tail_of [] = []
tail_of (x ∷ entries) = entries

-- where undoing leaves entries as they are, none is fresh
pub none_made : (entries : List Entry) → all_undone entries ≡ entries → has_none_fresh entries ≡ true
unfolding tail_of
none_made [] h = refl
none_made (x ∷ entries) h = by (none_made entries) x.origin refl h
  where
    by : (all_undone entries ≡ entries → has_none_fresh entries ≡ true) → (origin : Origin) → x.origin ≡ origin → undone_from origin x ++ all_undone entries ≡ x ∷ entries → (not (is_fresh x) && has_none_fresh entries) ≡ true
    by rest Standing e k = both_hold (not (is_fresh x)) (has_none_fresh entries) (ap (λ (o : Origin). not (is_fresh_from o)) e) (rest (ap tail_of k))
    by rest Made e k = let l = fewer entries in absurd (omega (arith, l, ap length k))
    by rest (Remade []) e k = let l = fewer entries in absurd (omega (arith, l, ap length k))
    by rest (Remade (before ∷ was)) e k =
        let same : restored x before ≡ x = same_Some (restored x before) x (ap (λ (l : List Entry). slice_get l 0) k) in
        absurd (true≢false (sym (ap is_fresh same ∙ ap is_fresh_from e)))

pub none_each : (entries : List Entry) → has_none_fresh entries ≡ true → AllByRecursion (λ entry. is_fresh entry ≡ false) entries
none_each [] h = tt
none_each (x ∷ entries) h =
    (not_true (is_fresh x) (first_holds (not (is_fresh x)) (has_none_fresh entries) h), none_each entries (second_holds (not (is_fresh x)) (has_none_fresh entries) h))

-- an unmarked element without fresh entries, and so are all below it
pub record IsClean (memo : Memo) : Type 0 where
  pub unmarked : is_unmarked memo ≡ true
  pub plain : stripped memo ≡ memo

abbrev pub stripped_layers : Memo → Memo-F Memo
stripped_layers memo = record {
  former = (out-Memo memo).former;
  facts = (out-Memo memo).facts;
  entries = all_undone (out-Memo memo).entries;
  below = map stripped (out-Memo memo).below;
}

plain_parts : (memo : Memo) → stripped memo ≡ memo → stripped_layers memo ≡ out-Memo memo
plain_parts memo h = sym (out-roll-Memo (stripped_layers memo)) ∙ ap out-Memo (sym (stripped_out memo) ∙ h)

unmarked_parts : (memo : Memo) → is_unmarked memo ≡ true → (not (is_marked (out-Memo memo)) && list_all (λ b. b) (map is_unmarked (out-Memo memo).below)) ≡ true
unmarked_parts memo h = sym (fold_out-Memo Bool unmarked_layer memo) ∙ h

each_holds : (tests : List Bool) (place : ℕ) (b : Bool) → list_all (λ b. b) tests ≡ true → slice_get tests place ≡ Some b → b ≡ true
each_holds [] place b h at = absurd (none-some b at)
each_holds (x ∷ tests) zero b h at = sym (same_Some x b at) ∙ first_holds x (list_all (λ b. b) tests) h
each_holds (x ∷ tests) (suc place) b h at = each_holds tests place b (second_holds x (list_all (λ b. b) tests) h) at

pub clean_calm : (memo : Memo) → IsClean memo → is_calm (out-Memo memo) ≡ true
clean_calm memo h =
    let layer : Memo-F Memo = out-Memo memo in
    let entries : all_undone layer.entries ≡ layer.entries = ap (λ (l : Memo-F Memo). l.entries) (plain_parts memo h.plain) in
    both_hold (not (is_marked layer)) (has_none_fresh layer.entries)
    (first_holds (not (is_marked layer)) (list_all (λ b. b) (map is_unmarked layer.below)) (unmarked_parts memo h.unmarked))
    (none_made layer.entries entries)

pub clean_below : (memo : Memo) → IsClean memo → (place : ℕ) (below : Memo) → slice_get (out-Memo memo).below place ≡ Some below → IsClean below
clean_below memo h place below at =
    let memos : List Memo = (out-Memo memo).below in
    let tests = second_holds (not (is_marked (out-Memo memo))) (list_all (λ b. b) (map is_unmarked memos)) (unmarked_parts memo h.unmarked) in
    record {
      unmarked = each_holds (map is_unmarked memos) place (is_unmarked below) tests (slice_get-map is_unmarked memos place ∙ ap (option_map is_unmarked) at);
      plain = same_Some (stripped below) below
          (sym (slice_get-map stripped memos place ∙ ap (option_map stripped) at)
          ∙ ap (λ (l : Memo-F Memo). slice_get l.below place) (plain_parts memo h.plain) ∙ at);
    }

clean_at : (path : List ℕ) (memo kept : Memo) → IsClean memo → IsMemoAt path memo kept → IsClean kept
clean_at [] memo kept h s = subst IsClean (sym s) h
clean_at (place ∷ path) memo kept h s = clean_at path s.0 kept (clean_below memo h place s.0 s.1) s.2

pub clean_tidy : (memo : Memo) → is_unmarked memo ≡ true → stripped memo ≡ memo → IsTidy memo
clean_tidy memo unmarked plain = record {
  at = λ path kept s.
      let clean = clean_at path memo kept record { unmarked = unmarked; plain = plain } s in
      let calm : (place : ℕ) (below : Memo) → slice_get (out-Memo kept).below place ≡ Some below → is_calm (out-Memo below) ≡ true =
      λ place below at. clean_calm below (clean_below kept clean place below at) in
      record { all = λ _. calm; others = λ _ _ place below at _. calm place below at };
}
