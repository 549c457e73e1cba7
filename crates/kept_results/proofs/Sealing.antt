-- What the seal leaves of a memo.
use Rattle.std.proofs.Common.{◌≡◌, ◌∙◌, refl, sym, ap, subst, ℕ, zero, suc, Bool, true, false, cond, ◌&&◌, List, [], ◌∷◌, filter, map, Some, slice_get, None}
use Rattle.std.proofs.lemmas.List.{length-map}
use Rattle.std.proofs.lemmas.Option.{none-some, same_Some, slice_get-map}
use Rattle.std.specs.List.{list_all}
use Rattle.std.specs.Option.{option_map}
use Rattle.font_metrics.specs.Metrics.{MetricsValue}
use Rattle.math_tree.specs.declared.node.Node.{Node}
use Rattle.layout_model.specs.declared.context.Context.{Context}
use Rattle.layout_model.specs.declared.context.Question.{Question}
use Rattle.layout_model.specs.Answers.{questions_in}
use Rattle.kept_results.specs.Ends.{all_undone, sealed, settled, settled_all, stripped}
use Rattle.kept_results.specs.Kept.{Agrees, AreApart, HasEntry, Holds, HoldsIn, IsMemoOf, IsMissing, IsSound, NamesKept, StandAt, is_live, is_marked}
use Rattle.layout_model.specs.Layout.{lay}
use Rattle.outcome_cells.specs.Store.{HasOutcome}
use Rattle.kept_results.specs.Laws.{SealBackedLaw, SealLaw, SealOwnRunsLaw, WasHeld, is_unmarked, unmarked_layer}
use Rattle.kept_results.specs.declared.memo.Entry.{Entry}
use Rattle.kept_results.specs.declared.memo.Memo.{Memo}
use Rattle.kept_results.specs.declared.memo.Memo.TheFolds.{fold-roll-Memo, ind-Memo}
use Rattle.kept_results.specs.declared.memo.Memo.TheOpen.{Memo-F}
use Rattle.kept_results.specs.declared.memo.Memo.TheViews.{out-Memo, out-roll-Memo, roll-Memo}
use Rattle.kept_results.proofs.Counts.{sealed_out, sealed_over, stripped_roll}
use Rattle.kept_results.proofs.Lists.{all_then}

pub out_sealed : (memo : Memo) → out-Memo (sealed memo) ≡ sealed_over (out-Memo memo)
out_sealed memo = ap out-Memo (sealed_out memo) ∙ out-roll-Memo (sealed_over (out-Memo memo))

-- ---- entries

abbrev with_first : Bool → Bool → Entry → List Entry → List Entry
with_first marked b entry entries = map settled (cond b (entry ∷ filter (is_live marked) entries) (filter (is_live marked) entries))

record IsSettled (marked : Bool) (entries : List Entry) (entry : Entry) : Type 0 where
  place : ℕ
  former : Entry
  at : slice_get entries place ≡ Some former
  live : is_live marked former ≡ true
  is : entry ≡ settled former

settled_was : (marked : Bool) (entries : List Entry) (place : ℕ) (entry : Entry) → slice_get (settled_all marked entries) place ≡ Some entry → IsSettled marked entries entry
settled_was marked [] place entry h = absurd (none-some entry h)
settled_was marked (x ∷ entries) place entry h =
    by (λ n k. let r = settled_was marked entries n entry k in record { place = suc r.place; former = r.former; at = r.at; live = r.live; is = r.is }) (is_live marked x) refl place h
  where
    by : ((n : ℕ) → slice_get (settled_all marked entries) n ≡ Some entry → IsSettled marked (x ∷ entries) entry)
        → (b : Bool) → is_live marked x ≡ b → (n : ℕ) → slice_get (with_first marked b x entries) n ≡ Some entry → IsSettled marked (x ∷ entries) entry
    by later true e zero k = record { place = 0; former = x; at = refl; live = e; is = sym (same_Some (settled x) entry k) }
    by later true e (suc n) k = later n k
    by later false e n k = later n k

settled_has : (marked : Bool) (entries : List Entry) (place : ℕ) (entry : Entry) → slice_get entries place ≡ Some entry → is_live marked entry ≡ true
    → (p : ℕ) × (slice_get (settled_all marked entries) p ≡ Some (settled entry))
settled_has marked [] place entry h live = absurd (none-some entry h)
settled_has marked (x ∷ entries) zero entry h live =
    let same : x ≡ entry = same_Some x entry h in
    (0, ap (λ (b : Bool). slice_get (with_first marked b x entries) 0) (ap (is_live marked) same ∙ live) ∙ ap (λ (y : Entry). Some (settled y)) same)
settled_has marked (x ∷ entries) (suc place) entry h live = by (is_live marked x) (settled_has marked entries place entry h live)
  where
    by : (b : Bool) → (p : ℕ) × (slice_get (settled_all marked entries) p ≡ Some (settled entry)) → (p : ℕ) × (slice_get (with_first marked b x entries) p ≡ Some (settled entry))
    by true (p, at) = (suc p, at)
    by false (p, at) = (p, at)

has_sealed : (layer : Memo-F Memo) (entry : Entry) → HasEntry layer entry → HasEntry (sealed_over layer) (settled entry)
has_sealed layer entry h = let r = settled_has (is_marked layer) layer.entries h.place entry h.at h.live in record { place = r.0; at = r.1; live = refl }

-- ---- at paths

below_sealed : (layer : Memo-F Memo) (place : ℕ) (memo : Memo) → slice_get layer.below place ≡ Some memo → slice_get (sealed_over layer).below place ≡ Some (sealed memo)
below_sealed layer place memo h = slice_get-map sealed layer.below place ∙ ap (option_map sealed) h

below_was : (memos : List Memo) (place : ℕ) (memo : Memo) → slice_get (map sealed memos) place ≡ Some memo → (former : Memo) × (slice_get memos place ≡ Some former) × (memo ≡ sealed former)
below_was [] place memo h = absurd (none-some memo h)
below_was (x ∷ memos) zero memo h = (x, refl, sym (same_Some (sealed x) memo h))
below_was (x ∷ memos) (suc place) memo h = below_was memos place memo h

stays : (path : List ℕ) (memo : Memo) (entry : Entry) → Holds path memo entry → Holds path (sealed memo) (settled entry)
stays [] memo entry h = subst (λ (l : Memo-F Memo). HasEntry l (settled entry)) (sym (out_sealed memo)) (has_sealed (out-Memo memo) entry h)
stays (place ∷ path) memo entry h =
    subst (λ (l : Memo-F Memo). HoldsIn (place ∷ path) l (settled entry)) (sym (out_sealed memo))
    (sealed h.0, below_sealed (out-Memo memo) place h.0 h.1, stays path h.0 entry h.2)

was : (path : List ℕ) (memo : Memo) (entry : Entry) → Holds path (sealed memo) entry → WasHeld path memo entry
was [] memo entry h =
    let k : HasEntry (sealed_over (out-Memo memo)) entry = subst (λ (l : Memo-F Memo). HasEntry l entry) (out_sealed memo) h in
    let r = settled_was (is_marked (out-Memo memo)) (out-Memo memo).entries k.place entry k.at in
    record { former = r.former; held = record { place = r.place; at = r.at; live = r.live }; is = r.is }
was (place ∷ path) memo entry h =
    let k : HoldsIn (place ∷ path) (sealed_over (out-Memo memo)) entry = subst (λ (l : Memo-F Memo). HoldsIn (place ∷ path) l entry) (out_sealed memo) h in
    let b = below_was (out-Memo memo).below place k.0 k.1 in
    let r = was path b.0 entry (subst (λ (z : Memo). Holds path z entry) b.2 k.2) in
    record { former = r.former; held = (b.0, b.1, r.held); is = r.is }

-- ---- the state

missing_sealed : (marked : Bool) (context : Context) (entries : List Entry) → IsMissing marked context entries → IsMissing false context (settled_all marked entries)
missing_sealed marked context [] h = tt
missing_sealed marked context (x ∷ entries) h = by (missing_sealed marked context entries h.1) (is_live marked x) refl
  where
    by : IsMissing false context (settled_all marked entries) → (b : Bool) → is_live marked x ≡ b → IsMissing false context (with_first marked b x entries)
    by rest true e = (λ _ is. h.0 e is, rest)
    by rest false e = rest

apart_sealed : (marked : Bool) (entries : List Entry) → AreApart marked entries → AreApart false (settled_all marked entries)
apart_sealed marked [] h = tt
apart_sealed marked (x ∷ entries) h = by (apart_sealed marked entries h.1) (is_live marked x) refl
  where
    by : AreApart false (settled_all marked entries) → (b : Bool) → is_live marked x ≡ b → AreApart false (with_first marked b x entries)
    by rest true e = (λ _. missing_sealed marked x.context entries (h.0 e), rest)
    by rest false e = rest

names_sealed : (node : Node) (layer : Memo-F Memo) (question : Question) → NamesKept node layer.below question → NamesKept node (sealed_over layer).below question
names_sealed node layer question h = record {
  child = h.child;
  to = h.to;
  memo = sealed h.memo;
  at = below_sealed layer h.child.place h.memo h.at;
  kept = record { entry = settled h.kept.entry; has = stays [] h.memo h.kept.entry h.kept.has; in_context = h.kept.in_context };
}

module _ (m : MetricsValue) where
  memo_sealed : (node : Node) (layer : Memo-F Memo) → IsMemoOf m node layer → IsMemoOf m node (sealed_over layer)
  memo_sealed node layer h = record {
    facts_are = h.facts_are;
    as_many = length-map layer.below sealed ∙ h.as_many;
    sound = λ entry has.
        let r = settled_was (is_marked layer) layer.entries has.place entry has.at in
        let s = h.sound r.former record { place = r.place; at = r.at; live = r.live } in
        let names = all_then (NamesKept node layer.below) (NamesKept node (sealed_over layer).below) (names_sealed node layer) in
        let is : IsSound m node (sealed_over layer).below (settled r.former) = record {
          suits = s.suits;
          fits = s.fits;
          ones = s.ones;
          one = s.one;
          twos = s.twos;
          two = s.two;
          styled = s.styled;
          ones_kept = names (questions_in r.former.one) s.ones_kept;
          twos_kept = names (questions_in r.former.two) s.twos_kept;
          regular = s.regular;
        } in
        subst (IsSound m node (sealed_over layer).below) (sym r.is) is;
    apart = apart_sealed (is_marked layer) layer.entries h.apart;
    stays = λ child alike. absurd (none-some child alike);
  }

  pub stood : (path : List ℕ) (node : Node) (memo : Memo) (element : Node) (kept : Memo) → StandAt path node (sealed memo) element kept
      → (former : Memo) × StandAt path node memo element former × (kept ≡ sealed former)
  stood [] node memo element kept s = (memo, (s.0, refl), s.1)
  stood (place ∷ path) node memo element kept s =
      let b = below_was (out-Memo memo).below place s.1 (ap (λ (l : Memo-F Memo). slice_get l.below place) (sym (out_sealed memo)) ∙ s.3) in
      let r = stood path s.0 b.0 element kept (subst (λ (z : Memo). StandAt path s.0 z element kept) b.2 s.4) in
      (r.0, (s.0, b.0, s.2, b.1, r.1), r.2)

  agrees_sealed : (node : Node) (memo : Memo) → Agrees m node memo → Agrees m node (sealed memo)
  agrees_sealed node memo h = record {
    at = λ path element kept s.
        let r = stood path node memo element kept s in
        subst (λ (z : Memo). IsMemoOf m element (out-Memo z)) (sym r.2)
        (subst (IsMemoOf m element) (sym (out_sealed r.0)) (memo_sealed element (out-Memo r.0) (h.at path element r.0 r.1)));
  }

-- ---- no marks, no flags

none_fresh : (entries : List Entry) → all_undone (map settled entries) ≡ map settled entries
none_fresh [] = refl
none_fresh (x ∷ entries) = ap (λ (l : List Entry). settled x ∷ l) (none_fresh entries)

abbrev HasNoMark : Memo → Type 0
HasNoMark memo = is_unmarked (sealed memo) ≡ true

abbrev HasNoFlag : Memo → Type 0
HasNoFlag memo = stripped (sealed memo) ≡ sealed memo

all_unmarked : (ys : List ((memo : Memo) × HasNoMark memo)) → list_all (λ b. b) (map is_unmarked (map sealed (map (λ y. y.0) ys))) ≡ true
all_unmarked [] = refl
all_unmarked (y ∷ ys) = ap (λ b. b && list_all (λ b. b) (map is_unmarked (map sealed (map (λ y. y.0) ys)))) y.1 ∙ all_unmarked ys

all_plain : (ys : List ((memo : Memo) × HasNoFlag memo)) → map stripped (map sealed (map (λ y. y.0) ys)) ≡ map sealed (map (λ y. y.0) ys)
all_plain [] = refl
all_plain (y ∷ ys) = ap (λ z. z ∷ map stripped (map sealed (map (λ y. y.0) ys))) y.1 ∙ ap (λ l. sealed y.0 ∷ l) (all_plain ys)

unmarked_sealed : (memo : Memo) → HasNoMark memo
unmarked_sealed = ind-Memo HasNoMark (λ x y is.
    let memo = roll-Memo x in
    let below : (out-Memo memo).below ≡ map (λ e. e.0) y.below = ap (λ (l : Memo-F Memo). l.below) (out-roll-Memo x ∙ sym is) in
    ap is_unmarked (sealed_out memo) ∙ fold-roll-Memo Bool unmarked_layer (sealed_over (out-Memo memo))
    ∙ ap (λ (l : List Memo). list_all (λ b. b) (map is_unmarked (map sealed l))) below ∙ all_unmarked y.below)

plain_sealed : (memo : Memo) → HasNoFlag memo
plain_sealed = ind-Memo HasNoFlag (λ x y is.
    let memo = roll-Memo x in
    let layer : Memo-F Memo = out-Memo memo in
    let below : layer.below ≡ map (λ e. e.0) y.below = ap (λ (l : Memo-F Memo). l.below) (out-roll-Memo x ∙ sym is) in
    let same : map stripped (map sealed layer.below) ≡ map sealed layer.below =
    ap (λ (l : List Memo). map stripped (map sealed l)) below ∙ all_plain y.below ∙ ap (map sealed) (sym below) in
    ap stripped (sealed_out memo) ∙ stripped_roll (sealed_over layer)
    ∙ (λ i. roll-Memo record {
      former = None;
      facts = layer.facts;
      entries = none_fresh (filter (is_live (is_marked layer)) layer.entries) i;
      below = same i;
    }) ∙ sym (sealed_out memo))

-- an entry that is left has the run that it had
pub seal_backed_law : SealBackedLaw
seal_backed_law m runs node memo h = record {
  at = λ path element kept entry s has.
      let r = stood m path node memo element kept s in
      let layer : Memo-F Memo = out-Memo r.0 in
      let there : HasEntry (sealed_over layer) entry = subst (λ (l : Memo-F Memo). HasEntry l entry) (ap out-Memo r.2 ∙ out_sealed r.0) has in
      let w = settled_was (is_marked layer) layer.entries there.place entry there.at in
      let held : HasEntry layer w.former = record { place = w.place; at = w.at; live = w.live } in
      subst (λ (e : Entry). HasOutcome runs e.run.0 (lay m element e.context)) (sym w.is) (h.at path element r.0 w.former r.1 held);
}

pub seal_own_runs_law : SealOwnRunsLaw
seal_own_runs_law memo h = record {
  at = λ path other a b x y same.
      let w = was path memo a x in
      let v = was other memo b y in
      let one : w.former.run ≡ v.former.run = ap (λ (e : Entry). e.run) (sym w.is) ∙ same ∙ ap (λ (e : Entry). e.run) v.is in
      let r = h.at path other w.former v.former w.held v.held one in
      (r.0, ap (λ (e : Entry). e.context) w.is ∙ r.1 ∙ ap (λ (e : Entry). e.context) (sym v.is));
}

pub seal_law : SealLaw
seal_law m node memo h = record {
  agrees = agrees_sealed m node memo h;
  stays = λ path entry. stays path memo entry;
  was = λ path entry. was path memo entry;
  unmarked = unmarked_sealed memo;
  plain = plain_sealed memo;
}
