-- Runs that are listed in a loop, entry by entry and memo by memo.
use Rattle.std.proofs.Common.{◌≡◌, ◌∙◌, sym, ap, ℕ, ◌+◌, ◌<◌, ◌≤◌, arith, Bool, true, false, cond, List, [], ◌∷◌, ◌++◌, drop, filter, get_or, length, length-append, map, take}
use Rattle.std.proofs.lemmas.Grind.{flat_map-append}
use Rattle.std.proofs.lemmas.List.{append-nil, map-append, take-append-drop, take_more}
use Rattle.std.proofs.lemmas.List.Elements.{filter-append}
use Rattle.std.specs.List.{flat_map}
use Rattle.box_pool.specs.declared.pool.RunId.{RunId}
use Rattle.kept_results.specs.Ends.{kept_count}
use Rattle.kept_results.specs.Kept.{is_live, is_marked}
use Rattle.kept_results.specs.declared.memo.Entry.{Entry}
use Rattle.kept_results.specs.declared.memo.Memo.{Memo}
use Rattle.kept_results.specs.declared.memo.Memo.TheViews.{out-Memo}
use Rattle.kept_sweep.specs.Runs.{live_runs, runs_of}
use Rattle.kept_sweep.proofs.RunIds.{count_runs, runs_out}

-- ---- what a map to lists gives of the first items

module _ {X : Type 0} (f : List X → List RunId) (splits : (xs ys : List X) → f (xs ++ ys) ≡ f xs ++ f ys) where
  -- one item more
  first_more : (xs : List X) (i : ℕ) (x : X) → i < length xs → x ≡ get_or xs i x → f (take (i + 1) xs) ≡ f (take i xs) ++ f (x ∷ [])
  first_more xs i x within is =
      ap f (take_more xs i x within)
      ∙ ap (λ (y : X). f (take i xs ++ y ∷ [])) (sym is)
      ∙ splits (take i xs) (x ∷ [])

  -- they give no more than all
  first_within : (xs : List X) (i : ℕ) (x : X) → i < length xs → x ≡ get_or xs i x → length (f (take i xs)) + length (f (x ∷ [])) ≤ length (f xs)
  first_within xs i x within is =
      omega (
        arith,
        ap length (first_more xs i x within is),
        length-append (f (take i xs)) (f (x ∷ [])),
        ap length (ap f (sym (take-append-drop (i + 1) xs)) ∙ splits (take (i + 1) xs) (drop (i + 1) xs)),
        length-append (f (take (i + 1) xs)) (f (drop (i + 1) xs)),
      )

-- ---- an element's own

module _ (marked : Bool) where
  live_splits : (xs ys : List Entry) → live_runs marked (xs ++ ys) ≡ live_runs marked xs ++ live_runs marked ys
  live_splits xs ys =
      ap (map (λ (entry : Entry). entry.run)) (filter-append (is_live marked) xs ys)
      ∙ map-append (λ (entry : Entry). entry.run) (filter (is_live marked) xs) (filter (is_live marked) ys)

  live_one : (entry : Entry) → is_live marked entry ≡ true → live_runs marked (entry ∷ []) ≡ entry.run ∷ []
  live_one entry live = ap (λ (b : Bool). map (λ (e : Entry). e.run) (cond b (entry ∷ []) [])) live

  live_none : (entry : Entry) → is_live marked entry ≡ false → live_runs marked (entry ∷ []) ≡ []
  live_none entry dead = ap (λ (b : Bool). map (λ (e : Entry). e.run) (cond b (entry ∷ []) [])) dead

  pub run_more : (entries : List Entry) (i : ℕ) (entry : Entry) → i < length entries → entry ≡ get_or entries i entry → is_live marked entry ≡ true
      → live_runs marked (take (i + 1) entries) ≡ live_runs marked (take i entries) ++ entry.run ∷ []
  run_more entries i entry within is live =
      first_more (live_runs marked) live_splits entries i entry within is ∙ ap (λ (l : List RunId). live_runs marked (take i entries) ++ l) (live_one entry live)

  pub run_same : (entries : List Entry) (i : ℕ) (entry : Entry) → i < length entries → entry ≡ get_or entries i entry → is_live marked entry ≡ false
      → live_runs marked (take (i + 1) entries) ≡ live_runs marked (take i entries)
  run_same entries i entry within is dead =
      first_more (live_runs marked) live_splits entries i entry within is
      ∙ ap (λ (l : List RunId). live_runs marked (take i entries) ++ l) (live_none entry dead)
      ∙ append-nil (live_runs marked (take i entries))

  pub run_within : (entries : List Entry) (i : ℕ) (entry : Entry) → i < length entries → entry ≡ get_or entries i entry → is_live marked entry ≡ true
      → length (live_runs marked (take i entries)) + 1 ≤ length (live_runs marked entries)
  run_within entries i entry within is live =
      omega (arith, first_within (live_runs marked) live_splits entries i entry within is, ap length (live_one entry live))

-- ---- those below it

abbrev pub joined : List Memo → List RunId
joined memos = flat_map (λ below. below) (map runs_of memos)

joined_splits : (xs ys : List Memo) → joined (xs ++ ys) ≡ joined xs ++ joined ys
joined_splits xs ys = ap (flat_map (λ (below : List RunId). below)) (map-append runs_of xs ys) ∙ flat_map-append (λ (below : List RunId). below) (map runs_of xs) (map runs_of ys)

joined_one : (memo : Memo) → joined (memo ∷ []) ≡ runs_of memo
joined_one memo = append-nil (runs_of memo)

pub memo_more : (memos : List Memo) (i : ℕ) (memo : Memo) → i < length memos → memo ≡ get_or memos i memo → joined (take (i + 1) memos) ≡ joined (take i memos) ++ runs_of memo
memo_more memos i memo within is = first_more joined joined_splits memos i memo within is ∙ ap (λ (l : List RunId). joined (take i memos) ++ l) (joined_one memo)

-- there is room for those of one child more
pub memo_within : (whole : Memo) (memos : List Memo) (i : ℕ) (memo : Memo) → memos ≡ (out-Memo whole).below → i < length memos → memo ≡ get_or memos i memo
    → length (live_runs (is_marked (out-Memo whole)) (out-Memo whole).entries) + length (joined (take i memos)) + kept_count memo ≤ kept_count whole
memo_within whole memos i memo all within is =
    omega (
      arith,
      first_within joined joined_splits memos i memo within is,
      ap length (joined_one memo),
      ap (λ (l : List Memo). length (joined l)) all,
      ap length (runs_out whole),
      length-append (live_runs (is_marked (out-Memo whole)) (out-Memo whole).entries) (joined (out-Memo whole).below),
      count_runs whole,
      count_runs memo,
    )

-- and for an element's own
pub own_within : (whole : Memo) → length (live_runs (is_marked (out-Memo whole)) (out-Memo whole).entries) ≤ kept_count whole
own_within whole =
    omega (
      arith,
      ap length (runs_out whole),
      length-append (live_runs (is_marked (out-Memo whole)) (out-Memo whole).entries) (joined (out-Memo whole).below),
      count_runs whole,
    )
