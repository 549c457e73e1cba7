-- Where the end of a pass may stop: what the edit and the pass left alone.
use Rattle.std.specs.Prelude.{◌≡◌, ℕ, Bool, true, false, cond, not, ◌&&◌, List, [], ◌∷◌, length, Option, Some, None, slice_get}
use Rattle.std.specs.List.{list_all}
use Rattle.std.specs.Option.{option_and_then}
use Rattle.kept_results.specs.Kept.{alike_but, is_fresh, is_marked}
use Rattle.kept_results.specs.declared.memo.Entry.{Entry}
use Rattle.kept_results.specs.declared.memo.Memo.{Memo}
use Rattle.kept_results.specs.declared.memo.Origin.{Origin}
use Rattle.kept_results.specs.declared.memo.Origin.TheVariants.{Made, Remade, Standing}
use Rattle.kept_results.specs.declared.memo.Memo.TheOpen.{Memo-F}
use Rattle.kept_results.specs.declared.memo.Memo.TheViews.{out-Memo}

abbrev pub has_none_fresh : List Entry → Bool
has_none_fresh entries = list_all (λ entry. not (is_fresh entry)) entries

-- the edit and the pass left an element alone: it is unmarked, and none of its own entries is fresh
abbrev pub is_calm : {X : Type 0} → Memo-F X → Bool
is_calm layer = not (is_marked layer) && has_none_fresh layer.entries

-- the pass made an entry, and not out of one that stood before it
abbrev pub is_new : Origin → Bool
is_new Standing = false
is_new Made = true
is_new (Remade was) = false

-- of these entries it made none but out of others
abbrev pub has_none_new : List Entry → Bool
has_none_new entries = list_all (λ entry. not (is_new entry.origin)) entries

-- the child that an element's mark names, where the pass made no entry of the element but out of
-- others. In a tidy memo (below) the edit and the pass left its other children alone
abbrev pub only_touched : {X : Type 0} → Memo-F X → Option ℕ
only_touched layer =
    option_and_then (λ child. cond (has_none_new layer.entries) (Some child) None) (alike_but layer)

-- the one child to which the end of a pass goes, where it passes the others by; the place behind
-- the last, where it passes all by; none, where it goes to each
abbrev pub only_entered : {X : Type 0} → Memo-F X → Option ℕ
only_entered layer = cond (is_calm layer) (Some (length layer.below)) (only_touched layer)

-- where an element is calm, so are its children; and where but one of them may be touched, so are
-- the others
pub record StaysCalm (layer : Memo-F Memo) : Type 0 where
  pub all : is_calm layer ≡ true → (place : ℕ) (below : Memo)
      → slice_get layer.below place ≡ Some below → is_calm (out-Memo below) ≡ true
  pub others : (child : ℕ) → only_touched layer ≡ Some child → (place : ℕ) (below : Memo)
      → slice_get layer.below place ≡ Some below → (place ≡ child → ⊥)
      → is_calm (out-Memo below) ≡ true

-- an element's memo, by the places of children down to it
abbrev pub IsMemoAt : List ℕ → Memo → Memo → Type 0
IsMemoAt [] memo kept = kept ≡ memo
IsMemoAt (place ∷ path) memo kept =
    (below : Memo) × (slice_get (out-Memo memo).below place ≡ Some below) × IsMemoAt path below kept

-- this holds of each element: so nothing below a calm one is marked or fresh
pub record IsTidy (memo : Memo) : Type 0 where
  pub at : (path : List ℕ) (kept : Memo) → IsMemoAt path memo kept → StaysCalm (out-Memo kept)

-- each of these memos is tidy
abbrev pub AreTidy : List Memo → Type 0
AreTidy memos = (place : ℕ) (memo : Memo) → slice_get memos place ≡ Some memo → IsTidy memo
