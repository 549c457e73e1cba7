-- Loops that renew each memo below, one after another.
use Rattle.std.proofs.Common.{◌≡◌, ◌∙◌, refl, sym, ap, ℕ, zero, suc, ◌+◌, ◌<◌, ◌≤◌, max, arith, List, [], ◌∷◌, ◌++◌, drop, get_or, length, map, set, take, Some, slice_get, None}
use Rattle.std.proofs.lemmas.Option.{get_or_from_slice_get, none-some, same_Some, slice_get_within}
use denote.Param.Weighed.{most, at_most}
use Rattle.kept_results.specs.Kept.{is_marked}
use Rattle.kept_results.specs.Ends.{all_undone, each_below, sealed, settled_all, stripped}
use Rattle.kept_results.specs.declared.memo.Entry.{Entry}
use Rattle.kept_results.specs.declared.memo.Memo.{Memo}
use Rattle.kept_results.specs.declared.memo.Memo.TheOpen.{Memo-F}
use Rattle.kept_results.specs.declared.memo.Memo.TheViews.{out-Memo, out-roll-Memo, roll-Memo, roll-out-Memo, size-Memo, size_is-Memo}
use Rattle.kept_results.proofs.Agreement.{renewed}
use Rattle.kept_results.proofs.Counts.{sealed_out, stripped_out}

-- a child's memo is smaller than that of its parent
pub smaller : (memo : Memo) (place : ℕ) (below : Memo) → slice_get (out-Memo memo).below place ≡ Some below → size-Memo below < size-Memo memo
smaller memo place below at =
    let memos : List Memo = (out-Memo memo).below in
    let deepest : size-Memo (get_or memos place below) ≤ most size-Memo memos = at_most size-Memo memos place below (slice_get_within memos place below at) in
    let whole : size-Memo memo ≡ max 0 (max 0 (max 0 (max (most size-Memo memos) 0))) + 1 = size_is-Memo memo in
    let same : size-Memo (get_or memos place below) ≡ size-Memo below = ap size-Memo (get_or_from_slice_get memos place below below at) in
    omega arith

-- the first memos below are renewed, and all else is as it was
pub record Renewed (renew : Memo → Memo) (before now : Memo) (at : ℕ) : Type 0 where
  pub former : (out-Memo now).former ≡ (out-Memo before).former
  pub facts : (out-Memo now).facts ≡ (out-Memo before).facts
  pub entries : (out-Memo now).entries ≡ (out-Memo before).entries
  pub below : (out-Memo now).below ≡ map renew (take at (out-Memo before).below) ++ drop at (out-Memo before).below

module _ (renew : Memo → Memo) where
  pub as_many : (memos : List Memo) (at : ℕ) → length (map renew (take at memos) ++ drop at memos) ≡ length memos
  as_many [] zero = refl
  as_many [] (suc at) = refl
  as_many (k ∷ memos) zero = refl
  as_many (k ∷ memos) (suc at) = ap suc (as_many memos at)

  next_is : (memos : List Memo) (at : ℕ) → slice_get (map renew (take at memos) ++ drop at memos) at ≡ slice_get memos at
  next_is [] zero = refl
  next_is [] (suc at) = refl
  next_is (k ∷ memos) zero = refl
  next_is (k ∷ memos) (suc at) = next_is memos at

  set_next : (memos : List Memo) (at : ℕ) (old : Memo) → slice_get memos at ≡ Some old
      → set (map renew (take at memos) ++ drop at memos) at (renew old) ≡ map renew (take (suc at) memos) ++ drop (suc at) memos
  set_next [] at old h = absurd (none-some old h)
  set_next (k ∷ memos) zero old h = ap (λ (x : Memo). renew x ∷ memos) (sym (same_Some k old h))
  set_next (k ∷ memos) (suc at) old h = ap (λ (l : List Memo). renew k ∷ l) (set_next memos at old h)

  renewed_all : (memos : List Memo) (at : ℕ) → length memos ≡ at → map renew (take at memos) ++ drop at memos ≡ map renew memos
  renewed_all [] zero h = refl
  renewed_all [] (suc at) h = refl
  renewed_all (k ∷ memos) zero h = absurd (omega arith)
  renewed_all (k ∷ memos) (suc at) h = ap (λ (l : List Memo). renew k ∷ l) (renewed_all memos at (omega arith))

  -- the next one is as it was
  pub next_was : (before now : Memo) (at : ℕ) (old : Memo) → Renewed renew before now at → slice_get (out-Memo now).below at ≡ Some old
      → slice_get (out-Memo before).below at ≡ Some old
  next_was before now at old h there = sym (next_is (out-Memo before).below at) ∙ ap (λ l. slice_get l at) (sym h.below) ∙ there

  -- one more
  pub renewed_more : (before now : Memo) (at : ℕ) (old new : Memo) → Renewed renew before now at → slice_get (out-Memo now).below at ≡ Some old → new ≡ renew old
      → Renewed renew before (roll-Memo (renewed now at new)) (at + 1)
  renewed_more before now at old new h there e =
      let memos : List Memo = (out-Memo before).below in
      let out : out-Memo (roll-Memo (renewed now at new)) ≡ renewed now at new = out-roll-Memo (renewed now at new) in
      let was : slice_get memos at ≡ Some old = next_was before now at old h there in
      let one : suc at ≡ at + 1 = omega arith in
      record {
        former = ap (λ (l : Memo-F Memo). l.former) out ∙ h.former;
        facts = ap (λ (l : Memo-F Memo). l.facts) out ∙ h.facts;
        entries = ap (λ (l : Memo-F Memo). l.entries) out ∙ h.entries;
        below = ap (λ (l : Memo-F Memo). l.below) out ∙ ap (λ l. set l at new) h.below
            ∙ ap (set (map renew (take at memos) ++ drop at memos) at) e ∙ set_next memos at old was
            ∙ ap (λ n. map renew (take n memos) ++ drop n memos) one;
      }

  -- when all are renewed
  pub below_all : (before now : Memo) (at : ℕ) → Renewed renew before now at → length (out-Memo before).below ≡ at → (out-Memo now).below ≡ map renew (out-Memo before).below
  below_all before now at h e = h.below ∙ renewed_all (out-Memo before).below at e

  pub each_end : (before now : Memo) (at : ℕ) → Renewed renew before now at → length (out-Memo before).below ≡ at → now ≡ each_below renew (out-Memo before)
  each_end before now at h l =
      sym (roll-out-Memo now)
      ∙ (λ i. roll-Memo record {
        former = h.former i;
        facts = h.facts i;
        entries = h.entries i;
        below = below_all before now at h l i;
      })

  -- ---- where renewing leaves most as it is

  all_same : (memos : List Memo) → ((place : ℕ) (below : Memo) → slice_get memos place ≡ Some below → renew below ≡ below) → memos ≡ map renew memos
  all_same [] h = refl
  all_same (x ∷ memos) h = ap (λ (z : Memo). z ∷ memos) (sym (h 0 x refl)) ∙ ap (λ (l : List Memo). renew x ∷ l) (all_same memos (λ place. h (suc place)))

  -- each but that at a place
  abbrev pub OthersSame : ℕ → List Memo → Type 0
  OthersSame child memos = (place : ℕ) (below : Memo) → slice_get memos place ≡ Some below → (place ≡ child → ⊥) → renew below ≡ below

  one_renewed : (memos : List Memo) (child : ℕ) (one : Memo) → slice_get memos child ≡ Some one → OthersSame child memos → set memos child (renew one) ≡ map renew memos
  one_renewed [] child one at h = refl
  one_renewed (x ∷ memos) zero one at h =
      ap (λ (z : Memo). renew z ∷ memos) (sym (same_Some x one at))
      ∙ ap (λ (l : List Memo). renew x ∷ l) (all_same memos (λ place below there. h (suc place) below there (λ e. omega (arith, e))))
  one_renewed (x ∷ memos) (suc child) one at h =
      ap (λ (z : Memo). z ∷ set memos child (renew one)) (sym (h 0 x refl (λ e. omega (arith, e))))
      ∙ ap (λ (l : List Memo). renew x ∷ l) (one_renewed memos child one at (λ place below there other. h (suc place) below there (λ e. other (omega (arith, e)))))

  -- where that one is renewed, all are
  pub only_renewed : (memo : Memo) (child : ℕ) (one new : Memo) → OthersSame child (out-Memo memo).below → slice_get (out-Memo memo).below child ≡ Some one → new ≡ renew one
      → roll-Memo (renewed memo child new) ≡ each_below renew (out-Memo memo)
  only_renewed memo child one new others at is =
      ap (λ (l : List Memo). roll-Memo record { former = (out-Memo memo).former; facts = (out-Memo memo).facts; entries = (out-Memo memo).entries; below = l })
      (ap (set (out-Memo memo).below child) is ∙ one_renewed (out-Memo memo).below child one at others)

  -- where there is no such child, all are already
  pub past_renewed : (memo : Memo) (child : ℕ) → OthersSame child (out-Memo memo).below → length (out-Memo memo).below ≤ child → memo ≡ each_below renew (out-Memo memo)
  past_renewed memo child others past =
      sym (roll-out-Memo memo)
      ∙ ap (λ (l : List Memo). roll-Memo record { former = (out-Memo memo).former; facts = (out-Memo memo).facts; entries = (out-Memo memo).entries; below = l })
      (all_same (out-Memo memo).below (λ place below at.
      let within : place < length (out-Memo memo).below = slice_get_within (out-Memo memo).below place below at in
      others place below at (λ e. omega (arith, e))))

-- as it stands when its own entries are dropped
abbrev pub dropped : Memo → List Entry → Memo-F Memo
dropped now entries = record { former = (out-Memo now).former; facts = (out-Memo now).facts; entries = entries; below = (out-Memo now).below }

abbrev over_below : (Memo → Memo) → Memo-F Memo → Memo-F Memo
over_below renew layer = record { former = layer.former; facts = layer.facts; entries = layer.entries; below = map renew layer.below }

abbrev unmarked : Memo-F Memo → Memo
unmarked layer = roll-Memo record { former = None; facts = layer.facts; entries = layer.entries; below = layer.below }

pub undone_end : (before now : Memo) (entries : List Entry) → now ≡ each_below stripped (out-Memo before) → entries ≡ all_undone (out-Memo now).entries
    → roll-Memo (dropped now entries) ≡ stripped before
undone_end before now entries is e =
    let o : out-Memo now ≡ over_below stripped (out-Memo before) = ap out-Memo is ∙ out-roll-Memo (over_below stripped (out-Memo before)) in
    (λ i. roll-Memo record {
      former = (o i).former;
      facts = (o i).facts;
      entries = (e ∙ (λ j. all_undone (o j).entries)) i;
      below = (o i).below;
    }) ∙ sym (stripped_out before)

pub sealed_end : (before now : Memo) (entries : List Entry) → now ≡ each_below sealed (out-Memo before)
    → entries ≡ settled_all (is_marked (out-Memo now)) (out-Memo now).entries → unmarked (out-Memo (roll-Memo (dropped now entries))) ≡ sealed before
sealed_end before now entries is e =
    let o : out-Memo now ≡ over_below sealed (out-Memo before) = ap out-Memo is ∙ out-roll-Memo (over_below sealed (out-Memo before)) in
    ap unmarked (out-roll-Memo (dropped now entries))
    ∙ (λ i. roll-Memo record {
      former = None;
      facts = (o i).facts;
      entries = (e ∙ (λ j. settled_all (is_marked (o j)) (o j).entries)) i;
      below = (o i).below;
    }) ∙ sym (sealed_out before)
