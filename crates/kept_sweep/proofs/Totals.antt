-- How many entries there are, as the pairs that are kept.
use Rattle.std.proofs.Common.{◌≡◌, ◌∙◌, ◌⊎◌, inl, inr, refl, sym, ap, subst, ℕ, zero, suc, ◌+◌, ◌≤◌, arith, Bool, true, false, cond, List, [], ◌∷◌, ◌++◌, filter, length, length-append, map, take, Some, slice_get}
use Rattle.std.proofs.lemmas.List.{length-map}
use Rattle.std.proofs.lemmas.List.Sums.{sum_by-cons}
use Rattle.std.proofs.lemmas.Option.{none-some, same_Some, slice_get-map, slice_get_within}
use Rattle.std.specs.List.{AllByRecursion, sum}
use Rattle.std.specs.Option.{option_map}
use Rattle.layout_model.specs.declared.context.Context.{Context}
use Rattle.kept_results.specs.Ends.{kept_count, sealed, settled}
use Rattle.kept_results.specs.Kept.{Holds, is_live, is_marked}
use Rattle.kept_results.specs.Passes.{HasNoRepeat, IsPairKept, Pair}
use Rattle.kept_results.specs.declared.memo.Entry.{Entry}
use Rattle.kept_results.specs.declared.memo.Memo.{Memo}
use Rattle.kept_results.specs.declared.memo.Memo.TheFolds.{fold-Memo, fold_out-Memo}
use Rattle.kept_results.specs.declared.memo.Memo.TheOpen.{Memo-F}
use Rattle.kept_results.specs.declared.memo.Memo.TheViews.{out-Memo}
use Rattle.kept_results.proofs.Counts.{count_out}
use Rattle.kept_results.proofs.Lists.{still_first}
use Rattle.kept_results.proofs.Passing.{pair_at, under}
use Rattle.kept_results.proofs.Sealing.{out_sealed}
use Rattle.kept_sweep.specs.Flagged.{cleared}
use Rattle.kept_sweep.proofs.Clearing.{out_cleared}
use Rattle.kept_sweep.proofs.Sweeping.{by_below}
use Rattle.kept_laid.proofs.Walking.{at_count}

-- ---- a list without repeats, in another one

module _ {X : Type 0} where
  without : List X → ℕ → List X
  without [] i = []
  without (y ∷ ys) zero = ys
  without (y ∷ ys) (suc i) = y ∷ without ys i

  one_less : (ys : List X) (i : ℕ) (y : X) → slice_get ys i ≡ Some y → length ys ≡ length (without ys i) + 1
  unfolding without
  one_less [] i y h = absurd (none-some y h)
  one_less (z ∷ ys) zero y h = omega arith
  one_less (z ∷ ys) (suc i) y h = let r = one_less ys i y h in omega arith

  still_there : (ys : List X) (i j : ℕ) (y : X) → slice_get ys j ≡ Some y → (j ≡ i) ⊎ ((k : ℕ) × (slice_get (without ys i) k ≡ Some y))
  unfolding without
  still_there [] i j y h = absurd (none-some y h)
  still_there (z ∷ ys) zero zero y h = inl refl
  still_there (z ∷ ys) zero (suc j) y h = inr (j, h)
  still_there (z ∷ ys) (suc i) zero y h = inr (0, h)
  still_there (z ∷ ys) (suc i) (suc j) y h = elim (still_there ys i j y h) [ inl e ↦ inl (ap suc e) | inr k ↦ inr (suc k.0, k.1) ]

  -- an item further on
  further : (xs ys : List X) (i : ℕ) (y : X) → slice_get ys i ≡ Some y → (k : ℕ) × (slice_get (xs ++ ys) k ≡ Some y)
  further [] ys i y h = (i, h)
  further (x ∷ xs) ys i y h = let r = further xs ys i y h in (suc r.0, r.1)

abbrev IsIn : List Pair → Pair → Type 0
IsIn ys x = (i : ℕ) × (slice_get ys i ≡ Some x)

others_in : (ys : List Pair) (i : ℕ) (x : Pair) → slice_get ys i ≡ Some x → (xs : List Pair) → AllByRecursion (λ other. x ≡ other → ⊥) xs → AllByRecursion (IsIn ys) xs → AllByRecursion (IsIn (without ys i)) xs
others_in ys i x at [] h k = tt
others_in ys i x at (y ∷ xs) h k = (
  elim (still_there ys i k.0.0 y k.0.1) [
    | inl e ↦ absurd (h.0 (same_Some x y (sym at ∙ ap (slice_get ys) (sym e) ∙ k.0.1)))
    | inr there ↦ there
  ],
  others_in ys i x at xs h.1 k.1,
)

-- a list of as many holds nothing but them
none_else : (xs ys : List Pair) → HasNoRepeat xs → AllByRecursion (IsIn ys) xs → length ys ≤ length xs → (y : Pair) → IsIn ys y → IsIn xs y
none_else [] ys h k few y at = absurd (omega (arith, few, slice_get_within ys at.0 y at.1))
none_else (x ∷ xs) ys h k few y at =
    elim (still_there ys k.0.0 at.0 y at.1) [
      | inl e ↦ (0, sym k.0.1 ∙ ap (slice_get ys) (sym e) ∙ at.1)
      | inr there ↦
          let rest = without ys k.0.0 in
          let fewer : length rest ≤ length xs = omega (arith, few, one_less ys k.0.0 x k.0.1) in
          let r = none_else xs rest h.1 (others_in ys k.0.0 x k.0.1 xs h.0 k.1) fewer y there in
          (suc r.0, r.1)
    ]

-- ---- the pairs that are kept

own_pairs : Bool → List Entry → List Pair
own_pairs marked entries = map (λ entry. pair_at [] entry.context) (filter (is_live marked) entries)

pairs_below : ℕ → List (List Pair) → List Pair
pairs_below place [] = []
pairs_below place (pairs ∷ rest) = map (under place) pairs ++ pairs_below (place + 1) rest

pairs_in : Memo-F (List Pair) → List Pair
pairs_in layer = own_pairs (is_marked layer) layer.entries ++ pairs_below 0 layer.below

pairs_of : Memo → List Pair
pairs_of memo = fold-Memo (List Pair) pairs_in memo

pairs_out : (memo : Memo) → pairs_of memo ≡ own_pairs (is_marked (out-Memo memo)) (out-Memo memo).entries ++ pairs_below 0 (map pairs_of (out-Memo memo).below)
unfolding pairs_of pairs_in
pairs_out memo = fold_out-Memo (List Pair) pairs_in memo

sum_first : (n : ℕ) (rest : List ℕ) → sum (n ∷ rest) ≡ n + sum rest
sum_first n rest = sum_by-cons (λ (k : ℕ). k) n rest

count_below : (place : ℕ) (memos : List Memo) → AllByRecursion (λ memo. length (pairs_of memo) ≡ kept_count memo) memos → length (pairs_below place (map pairs_of memos)) ≡ sum (map kept_count memos)
unfolding pairs_below
count_below place [] h = refl
count_below place (x ∷ memos) h =
    omega (
      arith,
      h.0,
      count_below (place + 1) memos h.1,
      length-append (map (under place) (pairs_of x)) (pairs_below (place + 1) (map pairs_of memos)),
      length-map (pairs_of x) (under place),
      sum_first (kept_count x) (map kept_count memos),
    )

count_pairs : (memo : Memo) → length (pairs_of memo) ≡ kept_count memo
unfolding own_pairs
count_pairs = by_below (λ memo. length (pairs_of memo) ≡ kept_count memo) (λ memo h.
    let layer : Memo-F Memo = out-Memo memo in
    let own : List Pair = own_pairs (is_marked layer) layer.entries in
    omega (
      arith,
      ap length (pairs_out memo),
      length-append own (pairs_below 0 (map pairs_of layer.below)),
      length-map (filter (is_live (is_marked layer)) layer.entries) (λ entry. pair_at [] entry.context),
      count_below 0 layer.below h,
      count_out memo,
    ))

in_below : (first place : ℕ) (memos : List Memo) (memo : Memo) (pair : Pair) → slice_get memos place ≡ Some memo → IsIn (pairs_of memo) pair → IsIn (pairs_below first (map pairs_of memos)) (under (first + place) pair)
unfolding pairs_below
in_below first place [] memo pair h k = absurd (none-some memo h)
in_below first zero (x ∷ memos) memo pair h k =
    let same : x ≡ memo = same_Some x memo h in
    let n : first ≡ first + 0 = omega arith in
    let at : slice_get (map (under first) (pairs_of x)) k.0 ≡ Some (under (first + 0) pair) =
    slice_get-map (under first) (pairs_of x) k.0 ∙ ap (option_map (under first)) (ap (λ (z : Memo). slice_get (pairs_of z) k.0) same ∙ k.1) ∙ ap (λ (p : ℕ). Some (under p pair)) n in
    (k.0, still_first (map (under first) (pairs_of x)) (pairs_below (first + 1) (map pairs_of memos)) k.0 (under (first + 0) pair) at)
in_below first (suc place) (x ∷ memos) memo pair h k =
    let n : first + 1 + place ≡ first + suc place = omega arith in
    let r = in_below (first + 1) place memos memo pair h k in
    further (map (under first) (pairs_of x)) (pairs_below (first + 1) (map pairs_of memos)) r.0 (under (first + suc place) pair) (r.1 ∙ ap (λ (p : ℕ). Some (under p pair)) n)

held_in : (path : List ℕ) (memo : Memo) (context : Context) (entry : Entry) → Holds path memo entry → entry.context ≡ context → IsIn (pairs_of memo) (pair_at path context)
unfolding own_pairs
held_in [] memo context entry h is =
    let layer : Memo-F Memo = out-Memo memo in
    let live : List Entry = filter (is_live (is_marked layer)) layer.entries in
    let i : ℕ = length (filter (is_live (is_marked layer)) (take h.place layer.entries)) in
    let at : slice_get (map (λ (e : Entry). pair_at [] e.context) live) i ≡ Some (pair_at [] context) =
    slice_get-map (λ (e : Entry). pair_at [] e.context) live i
    ∙ ap (option_map (λ (e : Entry). pair_at [] e.context)) (at_count (is_live (is_marked layer)) layer.entries h.place entry h.at h.live)
    ∙ ap (λ (c : Context). Some (pair_at [] c)) is in (
      i,
      ap (λ (l : List Pair). slice_get l i) (pairs_out memo)
          ∙ still_first (own_pairs (is_marked layer) layer.entries) (pairs_below 0 (map pairs_of layer.below)) i (pair_at [] context) at,
    )
held_in (place ∷ path) memo context entry h is =
    let layer : Memo-F Memo = out-Memo memo in
    let n : 0 + place ≡ place = omega arith in
    let below = in_below 0 place layer.below h.0 (pair_at path context) h.1 (held_in path h.0 context entry h.2 is) in
    let r = further (own_pairs (is_marked layer) layer.entries) (pairs_below 0 (map pairs_of layer.below)) below.0 (pair_at (place ∷ path) context)
    (below.1 ∙ ap (λ (p : ℕ). Some (under p (pair_at path context))) n) in
    (r.0, ap (λ (l : List Pair). slice_get l r.0) (pairs_out memo) ∙ r.1)

all_in : (memo : Memo) (pairs : List Pair) → AllByRecursion (IsPairKept memo) pairs → AllByRecursion (IsIn (pairs_of memo)) pairs
all_in memo [] h = tt
all_in memo (pair ∷ pairs) h = (held_in pair.path memo pair.context h.0.entry h.0.held h.0.in_context, all_in memo pairs h.1)

-- where there are as many entries as pairs that are kept, they are those of these pairs
pub kept_among : (memo : Memo) (pairs : List Pair) → HasNoRepeat pairs → AllByRecursion (IsPairKept memo) pairs → kept_count memo ≡ length pairs
    → (pair : Pair) → IsPairKept memo pair → (i : ℕ) × (slice_get pairs i ≡ Some pair)
kept_among memo pairs h k many pair kept =
    none_else pairs (pairs_of memo) h (all_in memo pairs k) (omega (arith, many, count_pairs memo)) pair (held_in pair.path memo pair.context kept.entry kept.held kept.in_context)

-- what holds of all pairs of a list holds of each
pub each_of : (P : Pair → Type 0) (pairs : List Pair) → AllByRecursion P pairs → (i : ℕ) (pair : Pair) → slice_get pairs i ≡ Some pair → P pair
each_of P [] h i pair at = absurd (none-some pair at)
each_of P (x ∷ pairs) h zero pair at = subst P (same_Some x pair at) h.0
each_of P (x ∷ pairs) h (suc i) pair at = each_of P pairs h.1 i pair at

-- ---- memos with other marks and flags

all_live : (entries : List Entry) → filter (is_live false) entries ≡ entries
all_live [] = refl
all_live (e ∷ entries) = ap (λ (l : List Entry). e ∷ l) (all_live entries)

shorter_both : (b : Bool) (e : Entry) (few many : List Entry) → length few ≤ length many → length (cond b (e ∷ few) few) ≤ suc (length many)
shorter_both true e few many h = omega (arith, h)
shorter_both false e few many h = omega (arith, h)

shorter : (test : Entry → Bool) (entries : List Entry) → length (filter test entries) ≤ length entries
shorter test [] = omega arith
shorter test (e ∷ entries) = shorter_both (test e) e (filter test entries) entries (shorter test entries)

sum_same : (f : Memo → Memo) (memos : List Memo) → AllByRecursion (λ memo. kept_count (f memo) ≡ kept_count memo) memos → sum (map kept_count (map f memos)) ≡ sum (map kept_count memos)
sum_same f [] h = refl
sum_same f (x ∷ memos) h =
    omega (arith, h.0, sum_same f memos h.1, sum_first (kept_count x) (map kept_count memos), sum_first (kept_count (f x)) (map kept_count (map f memos)))

sum_more : (f : Memo → Memo) (memos : List Memo) → AllByRecursion (λ memo. kept_count memo ≤ kept_count (f memo)) memos → sum (map kept_count memos) ≤ sum (map kept_count (map f memos))
sum_more f [] h = omega arith
sum_more f (x ∷ memos) h =
    omega (arith, h.0, sum_more f memos h.1, sum_first (kept_count x) (map kept_count memos), sum_first (kept_count (f x)) (map kept_count (map f memos)))

abbrev count_in : Memo-F Memo → ℕ
count_in layer = length (filter (is_live (is_marked layer)) layer.entries) + sum (map kept_count layer.below)

pub count_sealed : (memo : Memo) → kept_count (sealed memo) ≡ kept_count memo
count_sealed = by_below (λ memo. kept_count (sealed memo) ≡ kept_count memo) (λ memo h.
    let layer : Memo-F Memo = out-Memo memo in
    let live : List Entry = filter (is_live (is_marked layer)) layer.entries in
    omega (arith, count_out (sealed memo) ∙ ap count_in (out_sealed memo), count_out memo, ap length (all_live (map settled live)), length-map live settled, sum_same sealed layer.below h))

pub count_cleared : (memo : Memo) → kept_count memo ≤ kept_count (cleared memo)
count_cleared = by_below (λ memo. kept_count memo ≤ kept_count (cleared memo)) (λ memo h.
    let layer : Memo-F Memo = out-Memo memo in
    omega (
      arith,
      count_out (cleared memo) ∙ ap count_in (out_cleared memo),
      count_out memo,
      ap length (all_live (map settled layer.entries)),
      length-map layer.entries settled,
      shorter (is_live (is_marked layer)) layer.entries,
      sum_more cleared layer.below h,
    ))
