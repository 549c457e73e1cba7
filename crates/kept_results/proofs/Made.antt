-- How many entries a pass made.
use Rattle.std.proofs.Common.{◌≡◌, ◌∙◌, refl, sym, ap, ℕ, zero, suc, ◌+◌, ◌<◌, ◌≤◌, arith, true, List, [], ◌∷◌, ◌++◌, filter, length, map, take, Some, slice_get}
use Rattle.std.proofs.lemmas.List.{map-append, take_more}
use Rattle.std.proofs.lemmas.List.Sums.{sum_by-append, sum_by-cons}
use Rattle.std.proofs.lemmas.Option.{get_or_from_slice_get, none-some, same_Some, slice_get_within}
use Rattle.std.specs.List.{sum}
use Rattle.kept_results.specs.Ends.{fresh_below, fresh_count, fresh_in, sealed, settled}
use Rattle.kept_results.specs.Kept.{is_fresh, is_live, is_marked}
use Rattle.kept_results.specs.Tidy.{IsTidy, is_calm, only_touched}
use Rattle.kept_results.specs.declared.memo.Entry.{Entry}
use Rattle.kept_results.specs.declared.memo.Memo.{Memo}
use Rattle.kept_results.specs.declared.memo.Memo.TheFolds.{fold-roll-Memo, fold_out-Memo, ind-Memo}
use Rattle.kept_results.specs.declared.memo.Memo.TheOpen.{Memo-F}
use Rattle.kept_results.specs.declared.memo.Memo.TheViews.{out-Memo, out-roll-Memo, roll-Memo}
use Rattle.kept_results.proofs.Counts.{sealed_out, sealed_over}
use Rattle.kept_results.proofs.Renewing.{OthersSame}
use Rattle.kept_results.proofs.Tidying.{calm_sealed, tidy_below}

abbrev fresh_over : Memo-F Memo → ℕ
fresh_over layer = length (filter is_fresh layer.entries) + fresh_below layer.below

pub fresh_out : (memo : Memo) → fresh_count memo ≡ fresh_over (out-Memo memo)
fresh_out = fold_out-Memo ℕ fresh_in

-- one memo more
pub fresh_more : (memos : List Memo) (at : ℕ) (memo : Memo) → slice_get memos at ≡ Some memo
    → fresh_below (take (at + 1) memos) ≡ fresh_below (take at memos) + fresh_count memo
fresh_more memos at memo there =
    let within : at < length memos = slice_get_within memos at memo there in
    let joined : fresh_below (take (at + 1) memos) ≡ sum (map fresh_count (take at memos) ++ fresh_count memo ∷ []) =
    ap fresh_below (take_more memos at memo within)
    ∙ ap (λ (x : Memo). fresh_below (take at memos ++ x ∷ [])) (get_or_from_slice_get memos at memo memo there)
    ∙ ap sum (map-append fresh_count (take at memos) (memo ∷ [])) in
    let split = sum_by-append (λ (n : ℕ). n) (map fresh_count (take at memos)) (fresh_count memo ∷ []) in
    let one = sum_by-cons (λ (n : ℕ). n) (fresh_count memo) [] in
    omega (arith, joined, split, one)

-- ---- a calm memo has none

abbrev HasNone : Memo → Type 0
HasNone memo = fresh_count (sealed memo) ≡ 0

none_settled : (entries : List Entry) → length (filter is_fresh (map settled entries)) ≡ 0
none_settled [] = refl
none_settled (x ∷ entries) = none_settled entries

none_below : (ys : List ((memo : Memo) × HasNone memo)) → fresh_below (map sealed (map (λ y. y.0) ys)) ≡ 0
none_below [] = refl
none_below (y ∷ ys) =
    let rest : List Memo = map sealed (map (λ y. y.0) ys) in
    let all : fresh_below (sealed y.0 ∷ rest) ≡ fresh_count (sealed y.0) + fresh_below rest = sum_by-cons (λ (n : ℕ). n) (fresh_count (sealed y.0)) (map fresh_count rest) in
    omega (arith, all, y.1, none_below ys)

none_sealed : (memo : Memo) → HasNone memo
none_sealed = ind-Memo HasNone (λ x y is.
    let memo = roll-Memo x in
    let layer : Memo-F Memo = out-Memo memo in
    let below : layer.below ≡ map (λ e. e.0) y.below = ap (λ (l : Memo-F Memo). l.below) (out-roll-Memo x ∙ sym is) in
    let own = none_settled (filter (is_live (is_marked layer)) layer.entries) in
    let others : fresh_below (map sealed layer.below) ≡ 0 = ap (λ (l : List Memo). fresh_below (map sealed l)) below ∙ none_below y.below in
    let over : fresh_count (sealed memo) ≡ fresh_over (sealed_over layer) = ap fresh_count (sealed_out memo) ∙ fold-roll-Memo ℕ fresh_in (sealed_over layer) in
    omega (arith, over, own, others))

pub none_calm : (memo : Memo) → IsTidy memo → is_calm (out-Memo memo) ≡ true → fresh_count memo ≡ 0
none_calm memo tidy calm = ap fresh_count (sym (calm_sealed memo tidy calm)) ∙ none_sealed memo

-- ---- calm memos but for one

abbrev IsSealed : Memo → Type 0
IsSealed memo = (sealed memo ≡ memo) × (fresh_count memo ≡ 0)

pub calm_is_sealed : (memo : Memo) → IsTidy memo → is_calm (out-Memo memo) ≡ true → IsSealed memo
calm_is_sealed memo tidy calm = (calm_sealed memo tidy calm, none_calm memo tidy calm)

pub none_all : (memos : List Memo) → ((place : ℕ) (below : Memo) → slice_get memos place ≡ Some below → IsSealed below) → fresh_below memos ≡ 0
none_all [] h = refl
none_all (x ∷ memos) h =
    let split : fresh_below (x ∷ memos) ≡ fresh_count x + fresh_below memos = sum_by-cons (λ (n : ℕ). n) (fresh_count x) (map fresh_count memos) in
    omega (arith, split, (h 0 x refl).1, none_all memos (λ place. h (suc place)))

-- each but that at a place is sealed
abbrev pub OthersSealed : ℕ → List Memo → Type 0
OthersSealed child memos = (place : ℕ) (below : Memo) → slice_get memos place ≡ Some below → (place ≡ child → ⊥) → IsSealed below

one_counted : (memos : List Memo) (child : ℕ) (one : Memo) → slice_get memos child ≡ Some one → OthersSealed child memos → fresh_below memos ≡ fresh_count one
one_counted [] child one at h = absurd (none-some one at)
one_counted (x ∷ memos) zero one at h =
    let split : fresh_below (x ∷ memos) ≡ fresh_count x + fresh_below memos = sum_by-cons (λ (n : ℕ). n) (fresh_count x) (map fresh_count memos) in
    let none = none_all memos (λ place below there. h (suc place) below there (λ e. omega (arith, e))) in
    let same : fresh_count x ≡ fresh_count one = ap fresh_count (same_Some x one at) in
    omega (arith, split, none, same)
one_counted (x ∷ memos) (suc child) one at h =
    let split : fresh_below (x ∷ memos) ≡ fresh_count x + fresh_below memos = sum_by-cons (λ (n : ℕ). n) (fresh_count x) (map fresh_count memos) in
    let rest = one_counted memos child one at (λ place below there other. h (suc place) below there (λ e. other (omega (arith, e)))) in
    omega (arith, split, rest, (h 0 x refl (λ e. omega (arith, e))).1)

-- the children of a tidy element of which but one may not have been left alone
pub others_sealed : (memo : Memo) (child : ℕ) → IsTidy memo → only_touched (out-Memo memo) ≡ Some child → OthersSealed child (out-Memo memo).below
others_sealed memo child tidy only place below at other = calm_is_sealed below (tidy_below memo tidy place below at) ((tidy.at [] memo refl).others child only place below at other)

-- the others are as sealing leaves them
pub others_same : (memo : Memo) (child : ℕ) → IsTidy memo → only_touched (out-Memo memo) ≡ Some child → OthersSame sealed child (out-Memo memo).below
others_same memo child tidy only place below at other = (others_sealed memo child tidy only place below at other).0

pub only_counted : (memo : Memo) (child : ℕ) (one : Memo) → IsTidy memo → only_touched (out-Memo memo) ≡ Some child → slice_get (out-Memo memo).below child ≡ Some one
    → fresh_below (out-Memo memo).below ≡ fresh_count one
only_counted memo child one tidy only at = one_counted (out-Memo memo).below child one at (others_sealed memo child tidy only)

-- where there is no such child, all are sealed
past_each : (memo : Memo) (child : ℕ) → IsTidy memo → only_touched (out-Memo memo) ≡ Some child → length (out-Memo memo).below ≤ child
    → (place : ℕ) (below : Memo) → slice_get (out-Memo memo).below place ≡ Some below → IsSealed below
past_each memo child tidy only past place below at =
    let within : place < length (out-Memo memo).below = slice_get_within (out-Memo memo).below place below at in
    others_sealed memo child tidy only place below at (λ e. omega (arith, e))

pub past_counted : (memo : Memo) (child : ℕ) → IsTidy memo → only_touched (out-Memo memo) ≡ Some child → length (out-Memo memo).below ≤ child → fresh_below (out-Memo memo).below ≡ 0
past_counted memo child tidy only past = none_all (out-Memo memo).below (past_each memo child tidy only past)
