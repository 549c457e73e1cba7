-- A change of a memo adds no entry to those that count.
use Rattle.std.proofs.Common.{◌≡◌, ◌∙◌, ap, ℕ, zero, suc, ◌+◌, ◌≤◌, arith, Bool, true, false, cond, List, [], ◌∷◌, filter, insert, length, map, remove, set, Some, slice_get}
use Rattle.std.proofs.lemmas.List.Sums.{sum_by-cons}
use Rattle.std.proofs.lemmas.Option.{none-some, same_Some}
use Rattle.std.specs.List.{AllByRecursion, sum}
use Rattle.splices.proofs.Alike.{alike_brought}
use Rattle.splices.proofs.Places.{some_at}
use Rattle.splices.specs.Splicing.{AllBrought, FitsIn, spliced}
use Rattle.splices.specs.declared.splice.Splice.{Splice}
use Rattle.splices.specs.declared.splice.Splice.TheVariants.{Stay, Put, Take, Swap}
use Rattle.math_tree.specs.declared.node.Node.{Node}
use Rattle.math_tree.specs.declared.node.Node.TheViews.{out-Node}
use Rattle.math_tree.proofs.Nodes.{by_children}
use Rattle.tree_edits.specs.Paths.{splice_of}
use Rattle.kept_results.specs.Ends.{kept_count}
use Rattle.kept_results.specs.Kept.{is_live, is_marked}
use Rattle.kept_results.specs.declared.memo.Entry.{Entry}
use Rattle.kept_results.specs.declared.memo.Memo.{Memo}
use Rattle.kept_results.specs.declared.memo.Memo.TheOpen.{Memo-F}
use Rattle.kept_results.specs.declared.memo.Memo.TheViews.{out-Memo, out-roll-Memo}
use Rattle.kept_results.proofs.Counts.{count_out}
use Rattle.kept_edits.specs.Blank.{blank}
use Rattle.kept_edits.specs.Changed.{FitsMemo, changed_memo}
use Rattle.kept_edits.specs.Runs.{ChangeCountLaw}
use Rattle.kept_edits.specs.declared.change.Renewal.{Renewal}
use Rattle.kept_edits.proofs.Changing.{marked}
use Rattle.kept_edits.proofs.Runs.{last_made, own_on, step_made}
use Rattle.kept_edits.proofs.Unlaid.{blank_out}

-- ---- one element

shorter_both : (b : Bool) (e : Entry) (few many : List Entry) → length few ≤ length many → length (cond b (e ∷ few) few) ≤ suc (length many)
shorter_both true e few many h = omega (arith, h)
shorter_both false e few many h = omega (arith, h)

shorter : (test : Entry → Bool) (entries : List Entry) → length (filter test entries) ≤ length (filter (is_live false) entries)
shorter test [] = omega arith
shorter test (e ∷ entries) = shorter_both (test e) e (filter test entries) (filter (is_live false) entries) (shorter test entries)

-- a mark adds none
fewer_live : (marked : Bool) (entries : List Entry) → length (filter (is_live true) entries) ≤ length (filter (is_live marked) entries)
fewer_live true entries = omega arith
fewer_live false entries = shorter (is_live true) entries

-- ---- the memos below it

abbrev total : List Memo → ℕ
total memos = sum (map kept_count memos)

first : (memo : Memo) (memos : List Memo) → total (memo ∷ memos) ≡ kept_count memo + total memos
first memo memos = sum_by-cons (λ (n : ℕ). n) (kept_count memo) (map kept_count memos)

total_put : (memos : List Memo) (i : ℕ) (new : Memo) → total (insert memos i new) ≡ kept_count new + total memos
total_put memos zero new = first new memos
total_put [] (suc i) new = first new []
total_put (x ∷ memos) (suc i) new = omega (arith, first x (insert memos i new), total_put memos i new, first x memos)

total_taken : (memos : List Memo) (i : ℕ) → total (remove memos i) ≤ total memos
total_taken [] zero = omega arith
total_taken [] (suc i) = omega arith
total_taken (x ∷ memos) zero = omega (arith, first x memos)
total_taken (x ∷ memos) (suc i) = omega (arith, first x (remove memos i), total_taken memos i, first x memos)

total_set : (memos : List Memo) (i : ℕ) (old new : Memo) → slice_get memos i ≡ Some old → kept_count new ≤ kept_count old → total (set memos i new) ≤ total memos
total_set [] i old new at h = absurd (none-some old at)
total_set (x ∷ memos) zero old new at h = omega (arith, first new memos, first x memos, ap kept_count (same_Some x old at), h)
total_set (x ∷ memos) (suc i) old new at h = omega (arith, first x (set memos i new), total_set memos i old new at h, first x memos)

-- none is kept of what is put in
abbrev AllNone : Splice Memo → Type 0
AllNone splice = AllBrought (λ new. kept_count new ≡ 0) splice

total_spliced : (splice : Splice Memo) (memos : List Memo) → FitsIn splice memos → AllNone splice → total (spliced splice memos) ≤ total memos
total_spliced Stay memos fits none = omega arith
total_spliced (Put index item room) memos fits none = omega (arith, total_put memos index item, none)
total_spliced (Take index) memos fits none = total_taken memos index
total_spliced (Swap index item) memos fits none =
    let was = some_at memos index fits in
    total_set memos index was.0 item was.1 (omega (arith, none))

-- ---- a changed memo

abbrev count_in : Memo-F Memo → ℕ
count_in layer = length (filter (is_live (is_marked layer)) layer.entries) + total layer.below

marked_count : (memo now : Memo) (own : Renewal) (below : List Memo) → out-Memo now ≡ marked memo own below → total below ≤ total (out-Memo memo).below → kept_count now ≤ kept_count memo
marked_count memo now own below made h =
    omega (arith, count_out now ∙ ap count_in made, count_out memo, fewer_live (is_marked (out-Memo memo)) (out-Memo memo).entries, h)

pub count_changed : (splice : Splice Memo) (known : List Renewal) (path : List ℕ) (memo : Memo) → FitsMemo splice path memo → AllNone splice
    → kept_count (changed_memo splice known path memo) ≤ kept_count memo
count_changed splice known [] memo fits none =
    let below : List Memo = (out-Memo memo).below in
    marked_count memo (changed_memo splice known [] memo) (own_on splice known [] memo) (spliced splice below) (last_made splice known memo)
    (total_spliced splice below fits none)
count_changed splice known (place ∷ path) memo fits none =
    let below : List Memo = (out-Memo memo).below in
    let now : Memo = changed_memo splice known path fits.0 in
    marked_count memo (changed_memo splice known (place ∷ path) memo) (own_on splice known (place ∷ path) memo) (set below place now)
    (step_made splice known place path memo fits.0 fits.1)
    (total_set below place fits.0 now fits.1 (count_changed splice known path fits.0 fits.2 none))

-- ---- nothing kept

none_below : (nodes : List Node) → AllByRecursion (λ node. kept_count (blank node) ≡ 0) nodes → total (map blank nodes) ≡ 0
none_below [] h = omega arith
none_below (node ∷ nodes) h = omega (arith, h.0, none_below nodes h.1, first (blank node) (map blank nodes))

pub count_blank : (node : Node) → kept_count (blank node) ≡ 0
count_blank = by_children (λ node. kept_count (blank node) ≡ 0) (λ node h.
    omega (arith, count_out (blank node) ∙ ap count_in (ap out-Memo (blank_out node) ∙ out-roll-Memo _), none_below (out-Node node).children h))

pub change_count_law : ChangeCountLaw
change_count_law memo change other path known fits new =
    count_changed other known path memo fits
    (alike_brought (λ child z. z ≡ blank child) (λ z. kept_count z ≡ 0) (splice_of change) other (λ child z is. ap kept_count is ∙ count_blank child) new)
