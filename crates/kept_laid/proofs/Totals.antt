-- Totals over the memos of children.
use Rattle.std.proofs.Common.{◌≡◌, ◌∙◌, sym, ap, ℕ, zero, suc, ◌+◌, ◌<◌, ◌≤◌, arith, List, [], ◌∷◌, ◌++◌, get_or, length, map, max, take}
use Rattle.std.proofs.lemmas.List.{map-append, take_more}
use Rattle.std.proofs.lemmas.List.Sums.{sum_by-append, sum_by-cons}
use Rattle.std.specs.List.{sum}
use denote.Param.Weighed.{most, at_most}
use Rattle.kept_results.specs.Ends.{kept_count}
use Rattle.kept_results.specs.declared.memo.Memo.{Memo}
use Rattle.kept_results.specs.declared.memo.Memo.TheViews.{out-Memo, size-Memo, size_is-Memo}

-- a child's memo is smaller than that of its parent
pub smaller : (memo : Memo) (memos : List Memo) (i : ℕ) (below : Memo) → memos ≡ (out-Memo memo).below → i < length memos → below ≡ get_or memos i below
    → size-Memo below < size-Memo memo
smaller memo memos i below all within is =
    let deepest : size-Memo (get_or memos i below) ≤ most size-Memo memos = at_most size-Memo memos i below within in
    let whole : size-Memo memo ≡ max 0 (max 0 (max 0 (max (most size-Memo (out-Memo memo).below) 0))) + 1 = size_is-Memo memo in
    let same : size-Memo below ≡ size-Memo (get_or memos i below) = ap size-Memo is in
    let here : most size-Memo memos ≡ most size-Memo (out-Memo memo).below = ap (most size-Memo) all in
    omega arith

abbrev pub total : List Memo → ℕ
total memos = sum (map kept_count memos)

total_first : (memo : Memo) (memos : List Memo) → total (memo ∷ memos) ≡ kept_count memo + total memos
total_first memo memos = sum_by-cons (λ (n : ℕ). n) (kept_count memo) (map kept_count memos)

-- one memo more
pub total_more : (memos : List Memo) (i : ℕ) (memo : Memo) → i < length memos → memo ≡ get_or memos i memo
    → total (take (i + 1) memos) ≡ total (take i memos) + kept_count memo
total_more memos i memo within is =
    let joined : total (take (i + 1) memos) ≡ sum (map kept_count (take i memos) ++ kept_count memo ∷ []) =
    ap total (take_more memos i memo within)
    ∙ ap (λ (x : Memo). total (take i memos ++ x ∷ [])) (sym is)
    ∙ ap sum (map-append kept_count (take i memos) (memo ∷ [])) in
    let split = sum_by-append (λ (n : ℕ). n) (map kept_count (take i memos)) (kept_count memo ∷ []) in
    let one = sum_by-cons (λ (n : ℕ). n) (kept_count memo) [] in
    omega (arith, joined, split, one)

-- those at the front and one more are no more than all
pub total_within : (memos : List Memo) (i : ℕ) (memo : Memo) → i < length memos → memo ≡ get_or memos i memo
    → total (take i memos) + kept_count memo ≤ total memos
total_within [] i memo l is = absurd (omega (arith, l))
total_within (first ∷ memos) zero memo l is = omega (arith, total_first first memos, ap kept_count is)
total_within (first ∷ memos) (suc i) memo l is =
    omega (arith, total_first first memos, total_first first (take i memos), total_within memos i memo (omega (arith, l)) is)
