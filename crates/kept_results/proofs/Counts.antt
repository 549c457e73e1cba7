-- What a pass adds to a memo: what was there before is as it was, and how many entries there are.
use Rattle.std.proofs.Common.{◌≡◌, ◌∙◌, sym, ap, ℕ, zero, suc, ◌+◌, arith, Bool, true, false, cond, List, [], ◌∷◌, ◌++◌, filter, get_or, length, length-append, map, set, Some, slice_get, None}
use Rattle.std.proofs.lemmas.List.{append-nil, map-set}
use Rattle.std.proofs.lemmas.List.Elements.{filter-append}
use Rattle.std.proofs.lemmas.Grind.{flat_map-append}
use Rattle.std.proofs.lemmas.List.Sums.{sum_by-set}
use Rattle.std.proofs.lemmas.Option.{get_or_from_slice_get, none-some, same_Some, slice_get-map, slice_get_within}
use Rattle.std.specs.List.{sum}
use Rattle.std.specs.Option.{option_map}
use Rattle.kept_results.specs.Ends.{all_undone, kept_count, live_in, sealed, sealed_layer, settled_all, stripped, stripped_layer, undone, undone_from}
use Rattle.kept_results.specs.Kept.{is_live, is_marked}
use Rattle.kept_results.specs.Looking.{with_entry}
use Rattle.kept_results.specs.declared.memo.Entry.{Entry}
use Rattle.kept_results.specs.declared.memo.Memo.{Memo}
use Rattle.kept_results.specs.declared.memo.Memo.TheFolds.{fold-roll-Memo, fold_out-Memo}
use Rattle.kept_results.specs.declared.memo.Memo.TheOpen.{Memo-F}
use Rattle.kept_results.specs.declared.memo.Memo.TheViews.{out-Memo, roll-Memo}
use Rattle.kept_results.specs.declared.memo.Origin.{Origin}
use Rattle.kept_results.specs.declared.memo.Origin.TheVariants.{Made}
use Rattle.kept_results.proofs.Agreement.{added, renewed}

-- ---- the folds, layer by layer

abbrev pub stripped_over : Memo-F Memo → Memo
stripped_over layer = roll-Memo record {
  former = layer.former;
  facts = layer.facts;
  entries = all_undone layer.entries;
  below = map stripped layer.below;
}

pub stripped_out : (memo : Memo) → stripped memo ≡ stripped_over (out-Memo memo)
stripped_out = fold_out-Memo Memo stripped_layer

pub stripped_roll : (layer : Memo-F Memo) → stripped (roll-Memo layer) ≡ stripped_over layer
stripped_roll = fold-roll-Memo Memo stripped_layer

abbrev pub sealed_over : Memo-F Memo → Memo-F Memo
sealed_over layer = record {
  former = None;
  facts = layer.facts;
  entries = settled_all (is_marked layer) layer.entries;
  below = map sealed layer.below;
}

pub sealed_out : (memo : Memo) → sealed memo ≡ roll-Memo (sealed_over (out-Memo memo))
sealed_out = fold_out-Memo Memo sealed_layer

abbrev count_over : Memo-F Memo → ℕ
count_over layer = length (filter (is_live (is_marked layer)) layer.entries) + sum (map kept_count layer.below)

pub count_out : (memo : Memo) → kept_count memo ≡ count_over (out-Memo memo)
count_out = fold_out-Memo ℕ live_in

count_roll : (layer : Memo-F Memo) → kept_count (roll-Memo layer) ≡ count_over layer
count_roll = fold-roll-Memo ℕ live_in

-- ---- one entry more

passed : {X : Type 0} (test : X → Bool) (x : X) → test x ≡ true → filter test (x ∷ []) ≡ x ∷ []
passed test x h = ap (λ (b : Bool). cond b (x ∷ []) []) h

module _ (memo : Memo) (more : Entry) where
  pub stripped_added : more.origin ≡ Made → stripped (roll-Memo (added memo more)) ≡ stripped memo
  stripped_added made =
      let entries : List Entry = (out-Memo memo).entries in
      let none : all_undone (more ∷ []) ≡ [] = ap (λ (origin : Origin). undone_from origin more ++ []) made in
      let same : all_undone (entries ++ more ∷ []) ≡ all_undone entries =
      flat_map-append undone entries (more ∷ []) ∙ ap (λ (l : List Entry). all_undone entries ++ l) none ∙ append-nil (all_undone entries) in
      stripped_roll (added memo more)
      ∙ ap (λ (l : List Entry). roll-Memo record {
        former = (out-Memo memo).former;
        facts = (out-Memo memo).facts;
        entries = l;
        below = map stripped (out-Memo memo).below;
      }) same ∙ sym (stripped_out memo)

  pub count_added : is_live (is_marked (out-Memo memo)) more ≡ true → kept_count (roll-Memo (added memo more)) ≡ kept_count memo + 1
  count_added live =
      let entries : List Entry = (out-Memo memo).entries in
      let test : Entry → Bool = is_live (is_marked (out-Memo memo)) in
      let one = ap length (filter-append test entries (more ∷ []) ∙ ap (λ (l : List Entry). filter test entries ++ l) (passed test more live)) in
      let long = length-append (filter test entries) (more ∷ []) in
      omega (arith, count_roll (added memo more), count_out memo, one, long)

-- ---- an entry in place of another

module _ {X : Type 0} (test : X → Bool) where
  one_more : (xs : List X) (place : ℕ) (old new : X) → slice_get xs place ≡ Some old → test old ≡ false → test new ≡ true
      → length (filter test (set xs place new)) ≡ length (filter test xs) + 1
  one_more [] place old new at f t = absurd (none-some old at)
  one_more (x ∷ xs) zero old new at f t =
      let more = ap (λ (b : Bool). length (cond b (new ∷ filter test xs) (filter test xs))) t in
      let same = ap (λ (b : Bool). length (cond b (x ∷ filter test xs) (filter test xs))) (ap test (same_Some x old at) ∙ f) in
      omega (arith, more, same)
  one_more (x ∷ xs) (suc place) old new at f t = by (test x) (one_more xs place old new at f t)
    where
      by : (b : Bool) → length (filter test (set xs place new)) ≡ length (filter test xs) + 1
          → length (cond b (x ∷ filter test (set xs place new)) (filter test (set xs place new))) ≡ length (cond b (x ∷ filter test xs) (filter test xs)) + 1
      by true h = omega (arith, h)
      by false h = h

same_undone : (entries : List Entry) (place : ℕ) (old new : Entry) → slice_get entries place ≡ Some old → undone new ≡ undone old → all_undone (set entries place new) ≡ all_undone entries
same_undone [] place old new at e = absurd (none-some old at)
same_undone (x ∷ entries) zero old new at e = ap (λ (l : List Entry). l ++ all_undone entries) (e ∙ ap undone (sym (same_Some x old at)))
same_undone (x ∷ entries) (suc place) old new at e = ap (λ (l : List Entry). undone x ++ l) (same_undone entries place old new at e)

module _ (memo : Memo) (place : ℕ) (old new : Entry) (at : slice_get (out-Memo memo).entries place ≡ Some old) where
  pub stripped_put : undone new ≡ undone old → stripped (roll-Memo (with_entry memo place new)) ≡ stripped memo
  stripped_put e =
      stripped_roll (with_entry memo place new)
      ∙ ap (λ (l : List Entry). roll-Memo record {
        former = (out-Memo memo).former;
        facts = (out-Memo memo).facts;
        entries = l;
        below = map stripped (out-Memo memo).below;
      }) (same_undone (out-Memo memo).entries place old new at e) ∙ sym (stripped_out memo)

  pub count_put : is_live (is_marked (out-Memo memo)) old ≡ false → is_live (is_marked (out-Memo memo)) new ≡ true → kept_count (roll-Memo (with_entry memo place new)) ≡ kept_count memo + 1
  count_put f t =
      let one = one_more (is_live (is_marked (out-Memo memo))) (out-Memo memo).entries place old new at f t in
      omega (arith, count_roll (with_entry memo place new), count_out memo, one)

-- ---- one memo below is renewed

module _ (memo : Memo) (place : ℕ) (old new : Memo) (at : slice_get (out-Memo memo).below place ≡ Some old) where
  abbrev below : List Memo
  below = (out-Memo memo).below

  map_same : (memos : List Memo) (i : ℕ) → slice_get memos i ≡ Some old → stripped new ≡ stripped old → map stripped (set memos i new) ≡ map stripped memos
  map_same [] i h e = absurd (none-some old h)
  map_same (k ∷ memos) zero h e = ap (λ (x : Memo). x ∷ map stripped memos) (e ∙ ap stripped (sym (same_Some k old h)))
  map_same (k ∷ memos) (suc i) h e = ap (λ (l : List Memo). stripped k ∷ l) (map_same memos i h e)

  pub stripped_renewed : stripped new ≡ stripped old → stripped (roll-Memo (renewed memo place new)) ≡ stripped memo
  stripped_renewed e =
      stripped_roll (renewed memo place new)
      ∙ ap (λ (l : List Memo). roll-Memo record {
        former = (out-Memo memo).former;
        facts = (out-Memo memo).facts;
        entries = all_undone (out-Memo memo).entries;
        below = l;
      }) (map_same below place at e) ∙ sym (stripped_out memo)

  total_renewed : (memos : List Memo) (i : ℕ) → slice_get memos i ≡ Some old → sum (map kept_count (set memos i new)) + kept_count old ≡ sum (map kept_count memos) + kept_count new
  total_renewed memos i h =
      let counts : List ℕ = map kept_count memos in
      let there : slice_get counts i ≡ Some (kept_count old) = slice_get-map kept_count memos i ∙ ap (option_map kept_count) h in
      let within = slice_get_within counts i (kept_count old) there in
      let is : get_or counts i 0 ≡ kept_count old = get_or_from_slice_get counts i (kept_count old) 0 there in
      let moved = sum_by-set (λ n. n) counts i (kept_count new) 0 within in
      omega (arith, moved, is, ap sum (map-set kept_count memos i new))

  pub count_renewed : kept_count (roll-Memo (renewed memo place new)) + kept_count old ≡ kept_count memo + kept_count new
  count_renewed = omega (arith, count_roll (renewed memo place new), count_out memo, total_renewed below place at)
