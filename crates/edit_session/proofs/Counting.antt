-- How many layouts are kept after a pass, told by those before it and those that it made.
use Rattle.std.proofs.Common.{◌≡◌, ◌∙◌, refl, sym, ap, ℕ, suc, ◌+◌, ◌-◌, ◌^◌, ◌≤◌, min, arith, Bool, true, false, cond, List, [], ◌∷◌, ◌++◌, filter, length, length-append, map}
use Rattle.std.proofs.lemmas.List.Elements.{filter-append}
use Rattle.std.proofs.lemmas.List.Sums.{sum_by-cons}
use Rattle.std.specs.List.{AllByRecursion, sum}
use Rattle.kept_results.specs.Ends.{all_undone, fresh_below, fresh_count, kept_count, sealed, stripped, undone_from}
use Rattle.kept_results.specs.Kept.{is_fresh, is_fresh_from, is_live, is_marked}
use Rattle.kept_results.specs.declared.memo.Entry.{Entry}
use Rattle.kept_results.specs.declared.memo.Memo.{Memo}
use Rattle.kept_results.specs.declared.memo.Memo.TheOpen.{Memo-F}
use Rattle.kept_results.specs.declared.memo.Memo.TheViews.{out-Memo, out-roll-Memo}
use Rattle.kept_results.specs.declared.memo.Origin.{Origin}
use Rattle.kept_results.specs.declared.memo.Origin.TheVariants.{Made, Remade, Standing}
use Rattle.kept_results.proofs.Counts.{count_out, stripped_out}
use Rattle.kept_results.proofs.Made.{fresh_out}
use Rattle.memo_tree.proofs.Kept.{by_below, count_sealed}

-- ---- the entries of one element

one_at_most : (b : Bool) (x : Entry) (xs : List Entry) → length (cond b (x ∷ xs) xs) ≤ suc (length xs)
one_at_most true x xs = omega arith
one_at_most false x xs = omega arith

one_in_both : (b : Bool) (x : Entry) (xs ys : List Entry) (more : ℕ) → length xs ≤ length ys + more → length (cond b (x ∷ xs) xs) ≤ length (cond b (x ∷ ys) ys) + more
one_in_both true x xs ys more h = omega (arith, h)
one_in_both false x xs ys more h = h

more_before : (test : Entry → Bool) (xs ys : List Entry) → length (filter test ys) ≤ length (filter test (xs ++ ys))
more_before test xs ys = omega (arith, ap length (filter-append test xs ys), length-append (filter test xs) (filter test ys))

module _ (marked : Bool) where
  abbrev live : List Entry → List Entry
  live entries = filter (is_live marked) entries

  -- those that stood are among what there was; the others are fresh
  own_by_fresh : (entries : List Entry) → length (live entries) ≤ length (live (all_undone entries)) + length (filter is_fresh entries)
  own_by_fresh [] = omega arith
  own_by_fresh (x ∷ entries) = by x.origin refl (own_by_fresh entries)
    where
      by : (origin : Origin) → x.origin ≡ origin → length (live entries) ≤ length (live (all_undone entries)) + length (filter is_fresh entries)
          → length (live (x ∷ entries)) ≤ length (live (undone_from origin x ++ all_undone entries)) + length (cond (is_fresh_from origin) (x ∷ filter is_fresh entries) (filter is_fresh entries))
      by Standing e h = one_in_both (is_live marked x) x (live entries) (live (all_undone entries)) (length (filter is_fresh entries)) h
      by Made e h = let most = one_at_most (is_live marked x) x (live entries) in omega (arith, h, most)
      by (Remade was) e h =
          let most = one_at_most (is_live marked x) x (live entries) in
          omega (arith, h, most, more_before (is_live marked) (undone_from (Remade was) x) (all_undone entries))

-- ---- those of a tree

abbrev count_in : Memo-F Memo → ℕ
count_in layer = length (filter (is_live (is_marked layer)) layer.entries) + sum (map kept_count layer.below)

abbrev stripped_layers : Memo → Memo-F Memo
stripped_layers memo = record {
  former = (out-Memo memo).former;
  facts = (out-Memo memo).facts;
  entries = all_undone (out-Memo memo).entries;
  below = map stripped (out-Memo memo).below;
}

abbrev IsByFresh : Memo → Type 0
IsByFresh memo = kept_count memo ≤ kept_count (stripped memo) + fresh_count memo

first_of_sum : (n : ℕ) (rest : List ℕ) → sum (n ∷ rest) ≡ n + sum rest
first_of_sum n rest = sum_by-cons (λ (k : ℕ). k) n rest

below_by_fresh : (memos : List Memo) → AllByRecursion IsByFresh memos → sum (map kept_count memos) ≤ sum (map kept_count (map stripped memos)) + fresh_below memos
below_by_fresh [] h = omega arith
below_by_fresh (memo ∷ memos) h =
    omega (
      arith,
      h.0,
      below_by_fresh memos h.1,
      first_of_sum (kept_count memo) (map kept_count memos),
      first_of_sum (kept_count (stripped memo)) (map kept_count (map stripped memos)),
      first_of_sum (fresh_count memo) (map fresh_count memos),
    )

-- there are no more than there were before the pass, and those that it made
pub by_fresh : (memo : Memo) → IsByFresh memo
by_fresh = by_below IsByFresh (λ memo h.
    let layer : Memo-F Memo = out-Memo memo in
    let undone : kept_count (stripped memo) ≡ count_in (stripped_layers memo) =
    count_out (stripped memo) ∙ ap count_in (ap out-Memo (stripped_out memo) ∙ out-roll-Memo (stripped_layers memo)) in
    omega (arith, count_out memo, undone, fresh_out memo, own_by_fresh (is_marked layer) layer.entries, below_by_fresh layer.below h))

-- so it is after the seal
pub sealed_by_fresh : (memo : Memo) → kept_count (sealed memo) ≤ kept_count (stripped memo) + fresh_count memo
sealed_by_fresh memo = omega (arith, by_fresh memo, count_sealed memo)

-- a bound on them is noted as far as numbers go, and they don't go so far
pub at_most_noted : (kept before fresh most made : ℕ) → kept ≤ before + fresh → kept ≤ 262_144 → before ≤ most → made ≡ min fresh (2 ^ 64 - 1)
    → kept ≤ min (most + made) (2 ^ 64 - 1)
at_most_noted kept before fresh most made h few less is = omega (arith, h, few, less, is)
