-- The ids of the runs of kept layouts: each is that of an entry, and no two entries have one.
use Rattle.std.proofs.Common.{◌≡◌, ◌∙◌, inl, inr, refl, sym, ap, subst, ℕ, zero, suc, ◌+◌, arith, Bool, true, false, cond, ◌||◌, List, [], ◌∷◌, ◌++◌, filter, length, length-append, map, Some, slice_get, eqb, eqb-true}
use Rattle.std.proofs.lemmas.List.{length-map, map-append}
use Rattle.std.proofs.lemmas.List.Sums.{sum_by-cons}
use Rattle.std.proofs.lemmas.Option.{none-some, same_Some, slice_get_within}
use Rattle.std.specs.Cmp.{nat_eq_equiv}
use Rattle.std.specs.List.{AllByRecursion, IsDistinct, flat_map, sum}
use Rattle.font_metrics.specs.Metrics.{MetricsValue}
use Rattle.math_tree.specs.declared.node.Node.{Node}
use Rattle.math_tree.specs.declared.node.Node.TheViews.{out-Node}
use Rattle.box_pool.specs.Runs.{is_listed}
use Rattle.box_pool.specs.declared.pool.RunId.{RunId}
use Rattle.layout_model.specs.declared.context.Context.{Context}
use Rattle.kept_results.specs.Backed.{HaveOwnRuns}
use Rattle.kept_results.specs.Ends.{kept_count}
use Rattle.kept_results.specs.Kept.{Agrees, AreApart, HasEntry, Holds, IsMissing, StandAt, is_live, is_marked}
use Rattle.kept_results.specs.declared.memo.Entry.{Entry}
use Rattle.kept_results.specs.declared.memo.Memo.{Memo}
use Rattle.kept_results.specs.declared.memo.Memo.TheFolds.{fold_out-Memo}
use Rattle.kept_results.specs.declared.memo.Memo.TheOpen.{Memo-F}
use Rattle.kept_results.specs.declared.memo.Memo.TheViews.{out-Memo}
use Rattle.kept_results.proofs.Agreement.{agrees_child}
use Rattle.kept_results.proofs.Counts.{count_out}
use Rattle.kept_results.proofs.Shown.{there_is}
use Rattle.kept_sweep.specs.Runs.{IsRunOfEntry, live_runs, runs_in, runs_of}
use Rattle.kept_sweep.proofs.AllOf.{distinct_both, distinct_more, either_true, has, has_both, no_from, nothing_twice, second_true}
use Rattle.kept_sweep.proofs.Sweeping.{by_below}

-- ---- ids

abbrev pub ids : List RunId → List ℕ
ids runs = map (λ (run : RunId). run.0) runs

abbrev pub ids_of : Memo → List ℕ
ids_of memo = ids (runs_of memo)

abbrev own_ids : Bool → List Entry → List ℕ
own_ids marked entries = ids (live_runs marked entries)

pub runs_out : (memo : Memo) → runs_of memo ≡ live_runs (is_marked (out-Memo memo)) (out-Memo memo).entries ++ flat_map (λ below. below) (map runs_of (out-Memo memo).below)
runs_out = fold_out-Memo (List RunId) runs_in

ids_joined : (memos : List Memo) → ids (flat_map (λ below. below) (map runs_of memos)) ≡ flat_map ids_of memos
ids_joined [] = refl
ids_joined (memo ∷ memos) =
    map-append (λ (run : RunId). run.0) (runs_of memo) (flat_map (λ below. below) (map runs_of memos))
    ∙ ap (λ (rest : List ℕ). ids_of memo ++ rest) (ids_joined memos)

ids_out : (memo : Memo) → ids_of memo ≡ own_ids (is_marked (out-Memo memo)) (out-Memo memo).entries ++ flat_map ids_of (out-Memo memo).below
ids_out memo =
    let own : List RunId = live_runs (is_marked (out-Memo memo)) (out-Memo memo).entries in
    ap ids (runs_out memo)
    ∙ map-append (λ (run : RunId). run.0) own (flat_map (λ below. below) (map runs_of (out-Memo memo).below))
    ∙ ap (λ (rest : List ℕ). ids own ++ rest) (ids_joined (out-Memo memo).below)

-- an id is listed where it is that of a run of the list
pub listed_in_ids : (runs : List RunId) (q : ℕ) → is_listed runs q ≡ has (ids runs) q
listed_in_ids [] q = refl
listed_in_ids (run ∷ runs) q =
    ap (λ (b : Bool). b || is_listed runs q) (nat_eq_equiv.symm run.0 q)
    ∙ ap (λ (b : Bool). eqb q run.0 || b) (listed_in_ids runs q)

-- what holds of all ids of a list holds of those of its runs
pub all_by_ids : (P : ℕ → Type 0) (runs : List RunId) → ((q : ℕ) → has (ids runs) q ≡ true → P q) → AllByRecursion (λ (run : RunId). P run.0) runs
all_by_ids P [] h = tt
all_by_ids P (run ∷ runs) h = (
  h run.0 (ap (λ (b : Bool). b || has (ids runs) run.0) (nat_eq_equiv.refl run.0)),
  all_by_ids P runs (λ q there. h q (second_true (eqb q run.0) (has (ids runs) q) there)),
)

-- ---- as many as entries

length_ids : (runs : List RunId) → length (ids runs) ≡ length runs
length_ids runs = length-map runs (λ (run : RunId). run.0)

sum_first : (n : ℕ) (rest : List ℕ) → sum (n ∷ rest) ≡ n + sum rest
sum_first n rest = sum_by-cons (λ (k : ℕ). k) n rest

count_joined : (memos : List Memo) → AllByRecursion (λ memo. length (runs_of memo) ≡ kept_count memo) memos
    → length (flat_map (λ below. below) (map runs_of memos)) ≡ sum (map kept_count memos)
count_joined [] h = refl
count_joined (memo ∷ memos) h =
    omega (
      arith,
      h.0,
      count_joined memos h.1,
      length-append (runs_of memo) (flat_map (λ below. below) (map runs_of memos)),
      sum_first (kept_count memo) (map kept_count memos),
    )

pub count_runs : (memo : Memo) → length (runs_of memo) ≡ kept_count memo
count_runs = by_below (λ memo. length (runs_of memo) ≡ kept_count memo) (λ memo h.
    let layer : Memo-F Memo = out-Memo memo in
    let own : List RunId = live_runs (is_marked layer) layer.entries in
    omega (
      arith,
      ap length (runs_out memo),
      length-append own (flat_map (λ below. below) (map runs_of layer.below)),
      length-map (filter (is_live (is_marked layer)) layer.entries) (λ (entry : Entry). entry.run),
      count_joined layer.below h,
      count_out memo,
    ))

pub count_ids : (memo : Memo) → length (ids_of memo) ≡ kept_count memo
count_ids memo = length_ids (runs_of memo) ∙ count_runs memo

-- ---- of entries

-- an entry of a list, marked or not, that is no older one has the run of an id
abbrev HasRun : Bool → List Entry → ℕ → Type 0
HasRun marked entries q = (place : ℕ) × (entry : Entry) × (slice_get entries place ≡ Some entry) × (is_live marked entry ≡ true) × (entry.run.0 ≡ q)

module _ (marked : Bool) where
  run_later : (first : Entry) (entries : List Entry) (q : ℕ) → HasRun marked entries q → HasRun marked (first ∷ entries) q
  run_later first entries q r = (suc r.0, r.1, r.2, r.3, r.4)

  own_from : (entries : List Entry) (q : ℕ) → has (own_ids marked entries) q ≡ true → HasRun marked entries q
  own_from [] q h = let g : false ≡ true = h in cc
  own_from (first ∷ entries) q h = by (own_from entries q) (is_live marked first) refl h
    where
      by : (has (own_ids marked entries) q ≡ true → HasRun marked entries q) → (b : Bool) → is_live marked first ≡ b → has (ids (map (λ (e : Entry). e.run) (cond b (first ∷ filter (is_live marked) entries) (filter (is_live marked) entries)))) q ≡ true
          → HasRun marked (first ∷ entries) q
      by later false dead k = run_later first entries q (later k)
      by later true live k =
          elim (either_true (eqb q first.run.0) (has (own_ids marked entries) q) k) [
            | inl same ↦ (0, first, refl, live, sym (eqb-true q first.run.0 same))
            | inr there ↦ run_later first entries q (later there)
          ]

  own_has : (entries : List Entry) (place : ℕ) (entry : Entry) → slice_get entries place ≡ Some entry → is_live marked entry ≡ true → has (own_ids marked entries) entry.run.0 ≡ true
  own_has [] place entry at live = absurd (none-some entry at)
  own_has (first ∷ entries) zero entry at live =
      let same : first ≡ entry = same_Some first entry at in
      let Goal : Bool → Type 0 = λ b. has (ids (map (λ (e : Entry). e.run) (cond b (first ∷ filter (is_live marked) entries) (filter (is_live marked) entries)))) entry.run.0 ≡ true in
      subst Goal (sym (ap (is_live marked) same ∙ live))
      (ap (λ (e : Entry). eqb entry.run.0 e.run.0 || has (own_ids marked entries) entry.run.0) same
      ∙ ap (λ (b : Bool). b || has (own_ids marked entries) entry.run.0) (nat_eq_equiv.refl entry.run.0))
  own_has (first ∷ entries) (suc place) entry at live = by (own_has entries place entry at live) (is_live marked first)
    where
      by : has (own_ids marked entries) entry.run.0 ≡ true → (b : Bool) → has (ids (map (λ (e : Entry). e.run) (cond b (first ∷ filter (is_live marked) entries) (filter (is_live marked) entries)))) entry.run.0 ≡ true
      by later false = later
      by later true = second_true (eqb entry.run.0 first.run.0) (has (own_ids marked entries) entry.run.0) later

joined_from : (memos : List Memo) (q : ℕ) → has (flat_map ids_of memos) q ≡ true → (place : ℕ) × (below : Memo) × (slice_get memos place ≡ Some below) × (has (ids_of below) q ≡ true)
joined_from [] q h = let g : false ≡ true = h in cc
joined_from (memo ∷ memos) q h =
    elim (either_true (has (ids_of memo) q) (has (flat_map ids_of memos) q) (sym (has_both (ids_of memo) (flat_map ids_of memos) q) ∙ h)) [
      | inl here ↦ (0, memo, refl, here)
      | inr there ↦ let r = joined_from memos q there in (suc r.0, r.1, r.2, r.3)
    ]

joined_has : (memos : List Memo) (place : ℕ) (below : Memo) (q : ℕ) → slice_get memos place ≡ Some below → has (ids_of below) q ≡ true → has (flat_map ids_of memos) q ≡ true
joined_has [] place below q at h = absurd (none-some below at)
joined_has (memo ∷ memos) zero below q at h =
    has_both (ids_of memo) (flat_map ids_of memos) q
    ∙ ap (λ (b : Bool). b || has (flat_map ids_of memos) q) (ap (λ (z : Memo). has (ids_of z) q) (same_Some memo below at) ∙ h)
joined_has (memo ∷ memos) (suc place) below q at h =
    has_both (ids_of memo) (flat_map ids_of memos) q
    ∙ second_true (has (ids_of memo) q) (has (flat_map ids_of memos) q) (joined_has memos place below q at h)

-- each id is that of an entry
pub of_entry : (memo : Memo) (q : ℕ) → has (ids_of memo) q ≡ true → IsRunOfEntry memo q
of_entry = by_below (λ memo. (q : ℕ) → has (ids_of memo) q ≡ true → IsRunOfEntry memo q) (λ memo h q there.
    let layer : Memo-F Memo = out-Memo memo in
    let own : List ℕ = own_ids (is_marked layer) layer.entries in
    elim (either_true (has own q) (has (flat_map ids_of layer.below) q) (sym (has_both own (flat_map ids_of layer.below) q) ∙ ap (λ (l : List ℕ). has l q) (sym (ids_out memo)) ∙ there)) [
      | inl here ↦ let r = own_from (is_marked layer) layer.entries q here in record { path = []; entry = r.1; held = record { place = r.0; at = r.2; live = r.3 }; is = r.4 }
      | inr below ↦
          let r = joined_from layer.below q below in
          let e = each_below layer.below h r.0 r.1 r.2 q r.3 in
          record { path = r.0 ∷ e.path; entry = e.entry; held = (r.1, r.2, e.held); is = e.is }
    ])
  where
    each_below : (memos : List Memo) → AllByRecursion (λ memo. (q : ℕ) → has (ids_of memo) q ≡ true → IsRunOfEntry memo q) memos
        → (place : ℕ) (below : Memo) → slice_get memos place ≡ Some below → (q : ℕ) → has (ids_of below) q ≡ true → IsRunOfEntry below q
    each_below [] h place below at = absurd (none-some below at)
    each_below (memo ∷ memos) h zero below at = subst (λ (z : Memo). (q : ℕ) → has (ids_of z) q ≡ true → IsRunOfEntry z q) (same_Some memo below at) h.0
    each_below (memo ∷ memos) h (suc place) below at = each_below memos h.1 place below at

-- and that of each entry is there
pub entry_has : (path : List ℕ) (memo : Memo) (entry : Entry) → Holds path memo entry → has (ids_of memo) entry.run.0 ≡ true
entry_has [] memo entry held =
    let own : List ℕ = own_ids (is_marked (out-Memo memo)) (out-Memo memo).entries in
    ap (λ (l : List ℕ). has l entry.run.0) (ids_out memo)
    ∙ has_both own (flat_map ids_of (out-Memo memo).below) entry.run.0
    ∙ ap (λ (b : Bool). b || has (flat_map ids_of (out-Memo memo).below) entry.run.0) (own_has (is_marked (out-Memo memo)) (out-Memo memo).entries held.place entry held.at held.live)
entry_has (place ∷ path) memo entry held =
    let own : List ℕ = own_ids (is_marked (out-Memo memo)) (out-Memo memo).entries in
    ap (λ (l : List ℕ). has l entry.run.0) (ids_out memo)
    ∙ has_both own (flat_map ids_of (out-Memo memo).below) entry.run.0
    ∙ second_true (has own entry.run.0) (has (flat_map ids_of (out-Memo memo).below) entry.run.0)
    (joined_has (out-Memo memo).below place held.0 entry.run.0 held.1 (entry_has path held.0 entry held.2))

-- ---- none twice

-- two entries of a list, marked or not, with runs of one id are in one context
abbrev OwnRuns : Bool → List Entry → Type 0
OwnRuns marked entries = (i j : ℕ) (a b : Entry) → slice_get entries i ≡ Some a → slice_get entries j ≡ Some b → is_live marked a ≡ true → is_live marked b ≡ true
    → a.run.0 ≡ b.run.0 → a.context ≡ b.context

missing_at : (marked : Bool) (context : Context) (entries : List Entry) → IsMissing marked context entries → (place : ℕ) (entry : Entry) → slice_get entries place ≡ Some entry
    → is_live marked entry ≡ true → entry.context ≡ context → ⊥
missing_at marked context [] h place entry at = absurd (none-some entry at)
missing_at marked context (first ∷ entries) h zero entry at = subst (λ (e : Entry). is_live marked e ≡ true → e.context ≡ context → ⊥) (same_Some first entry at) h.0
missing_at marked context (first ∷ entries) h (suc place) entry at = missing_at marked context entries h.1 place entry at

own_distinct : (marked : Bool) (entries : List Entry) → OwnRuns marked entries → AreApart marked entries → IsDistinct eqb (own_ids marked entries)
own_distinct marked [] own apart = nothing_twice
own_distinct marked (first ∷ entries) own apart = by (own_distinct marked entries (λ i j. own (suc i) (suc j)) apart.1) (is_live marked first) refl
  where
    by : IsDistinct eqb (own_ids marked entries) → (b : Bool) → is_live marked first ≡ b → IsDistinct eqb (ids (map (λ (e : Entry). e.run) (cond b (first ∷ filter (is_live marked) entries) (filter (is_live marked) entries))))
    by rest false dead = rest
    by rest true live =
        distinct_more first.run.0 (own_ids marked entries)
        (no_from (has (own_ids marked entries) first.run.0) (λ again.
        let r = own_from marked entries first.run.0 again in
        missing_at marked first.context entries (apart.0 live) r.0 r.1 r.2 r.3 (own (suc r.0) 0 r.1 first r.2 refl r.3 live r.4)))
        rest

-- an id stands in one of these memos alone
abbrev AreApartIn : List Memo → Type 0
AreApartIn memos = (i j : ℕ) (a b : Memo) (q : ℕ) → slice_get memos i ≡ Some a → slice_get memos j ≡ Some b → has (ids_of a) q ≡ true → has (ids_of b) q ≡ true → i ≡ j

joined_distinct : (memos : List Memo) → AllByRecursion (λ memo. IsDistinct eqb (ids_of memo)) memos → AreApartIn memos → IsDistinct eqb (flat_map ids_of memos)
joined_distinct [] each apart = nothing_twice
joined_distinct (memo ∷ memos) each apart =
    distinct_both (ids_of memo) (flat_map ids_of memos) each.0
    (joined_distinct memos each.1 (λ i j a b q x y h k. let e = apart (suc i) (suc j) a b q x y h k in omega (arith, e)))
    (λ q h there.
    let r = joined_from memos q there in
    let e = apart 0 (suc r.0) memo r.1 q refl r.2 h r.3 in
    absurd (omega (arith, e)))

same_run : (a b : RunId) → a.0 ≡ b.0 → a ≡ b
same_run a b e = λ i. record { 0 = e i }

abbrev rest_of : List ℕ → List ℕ
rest_of [] = []
rest_of (place ∷ path) = path

abbrev first_of : List ℕ → ℕ
first_of [] = 0
first_of (place ∷ path) = place

module _ (memo : Memo) (own : HaveOwnRuns memo) where
  abbrev layer : Memo-F Memo
  layer = out-Memo memo

  one_way : (path other : List ℕ) (a b : Entry) → Holds path memo a → Holds other memo b → a.run.0 ≡ b.run.0 → (path ≡ other) × (a.context ≡ b.context)
  one_way path other a b x y same = own.at path other a b x y (same_run a.run b.run same)

  own_below : (place : ℕ) (below : Memo) → slice_get layer.below place ≡ Some below → HaveOwnRuns below
  own_below place below at = record {
    at = λ path other a b x y same.
        let r = own.at (place ∷ path) (place ∷ other) a b (below, at, x) (below, at, y) same in
        (ap rest_of r.0, r.1);
  }

  own_here : OwnRuns (is_marked layer) layer.entries
  own_here i j a b x y live_a live_b same =
      (one_way [] [] a b record { place = i; at = x; live = live_a } record { place = j; at = y; live = live_b } same).1

  apart_below : AreApartIn layer.below
  apart_below i j a b q x y h k =
      let first = of_entry a q h in
      let second = of_entry b q k in
      ap first_of (one_way (i ∷ first.path) (j ∷ second.path) first.entry second.entry (a, x, first.held) (b, y, second.held) (first.is ∙ sym second.is)).0

  apart_from_below : (q : ℕ) → has (own_ids (is_marked layer) layer.entries) q ≡ true → has (flat_map ids_of layer.below) q ≡ true → ⊥
  apart_from_below q h k =
      let here = own_from (is_marked layer) layer.entries q h in
      let below = joined_from layer.below q k in
      let there = of_entry below.1 q below.3 in
      let r = one_way [] (below.0 ∷ there.path) here.1 there.entry record { place = here.0; at = here.2; live = here.3 } (below.1, below.2, there.held) (here.4 ∙ sym there.is) in
      let e : [] ≡ below.0 ∷ there.path = r.0 in
      cc

module _ (m : MetricsValue) where
  -- a node beside the memo of a child
  beside : (node : Node) (memo : Memo) → Agrees m node memo → (place : ℕ) (below : Memo) → slice_get (out-Memo memo).below place ≡ Some below
      → (child : Node) × (slice_get (out-Node node).children place ≡ Some child)
  beside node memo h place below at =
      let many = (h.at [] node memo (refl, refl)).as_many in
      let within = slice_get_within (out-Memo memo).below place below at in
      there_is (out-Node node).children place (omega (arith, many, within))

  -- the element of an entry, with its memo
  pub stands : (path : List ℕ) (node : Node) (memo : Memo) (entry : Entry) → Agrees m node memo → Holds path memo entry
      → (element : Node) × (kept : Memo) × StandAt path node memo element kept × HasEntry (out-Memo kept) entry
  stands [] node memo entry h held = (node, memo, (refl, refl), held)
  stands (place ∷ path) node memo entry h held =
      let child = beside node memo h place held.0 held.1 in
      let r = stands path child.0 held.0 entry (agrees_child m node memo place child.0 held.0 h child.1 held.1) held.2 in
      (r.0, r.1, (child.0, held.0, child.1, held.1, r.2), r.3)

  abbrev IsApart : Memo → Type 0
  IsApart memo = (node : Node) → Agrees m node memo → HaveOwnRuns memo → IsDistinct eqb (ids_of memo)

  each_apart : (memos : List Memo) → AllByRecursion IsApart memos
      → ((place : ℕ) (below : Memo) → slice_get memos place ≡ Some below → (child : Node) × Agrees m child below × HaveOwnRuns below)
      → AllByRecursion (λ memo. IsDistinct eqb (ids_of memo)) memos
  each_apart [] h known = tt
  each_apart (memo ∷ memos) h known =
      let k = known 0 memo refl in
      (h.0 k.0 k.1 k.2, each_apart memos h.1 (λ place. known (suc place)))

  -- no id is there twice
  pub ids_distinct : (memo : Memo) → IsApart memo
  ids_distinct = by_below IsApart (λ memo h node agrees own.
      let layer : Memo-F Memo = out-Memo memo in
      subst (IsDistinct eqb) (sym (ids_out memo))
      (distinct_both (own_ids (is_marked layer) layer.entries) (flat_map ids_of layer.below)
      (own_distinct (is_marked layer) layer.entries (own_here memo own) (agrees.at [] node memo (refl, refl)).apart)
      (joined_distinct layer.below
      (each_apart layer.below h (λ place below at.
      let child = beside node memo agrees place below at in
      (child.0, agrees_child m node memo place child.0 below agrees child.1 at, own_below memo own place below at)))
      (apart_below memo own))
      (apart_from_below memo own)))
