-- The memos beside a tree of which one element is changed.
use Rattle.std.specs.Prelude.{◌≡◌, ℕ, List, [], ◌∷◌, length, Option, Some, None, slice_get, slice_index_or, slice_set}
use Rattle.std.specs.Option.{option_and_then, option_map_or}
use Rattle.splices.specs.Splicing.{FitsIn, spliced, taken}
use Rattle.splices.specs.declared.splice.Splice.{Splice}
use Rattle.embellished.specs.declared.facts.Facts.{Facts}
use Rattle.kept_results.specs.Looking.{own_facts}
use Rattle.kept_results.specs.declared.memo.Memo.{Memo}
use Rattle.kept_results.specs.declared.memo.Memo.TheViews.{out-Memo, roll-Memo}
use Rattle.kept_edits.specs.declared.change.Renewal.{Renewal}

-- ---- one memo

-- an element that is this after a change, and of which layout may see something else than before
abbrev pub seen_anew : Facts → Renewal
seen_anew own = record { facts = own; alike_but = None }

-- marked, of an element that is this now
abbrev pub renewed : Renewal → Memo → Memo
renewed own memo = roll-Memo record {
  former = Some record { facts = own_facts memo; alike_but = own.alike_but };
  facts = own.facts;
  entries = (out-Memo memo).entries;
  below = (out-Memo memo).below;
}

-- without its mark, of an element that is what it was before
abbrev pub without_mark : Memo → Memo
without_mark memo = roll-Memo record {
  former = None;
  facts = option_map_or (λ former. former.facts) (out-Memo memo).former (own_facts memo);
  entries = (out-Memo memo).entries;
  below = (out-Memo memo).below;
}

abbrev pub with_below : Memo → List Memo → Memo
with_below memo below = roll-Memo record {
  former = (out-Memo memo).former;
  facts = own_facts memo;
  entries = (out-Memo memo).entries;
  below = below;
}

-- ---- at the end of a path

-- each memo on the way becomes another, and at the end those of the children are spliced
abbrev pub spliced_at : (List ℕ → Memo → Memo) → Splice Memo → List ℕ → Memo → Memo
spliced_at along splice [] memo = with_below (along [] memo) (spliced splice (out-Memo memo).below)
spliced_at along splice (place ∷ path) memo =
    with_below (along (place ∷ path) memo)
    (option_map_or
    (λ kept. slice_set (out-Memo memo).below place (spliced_at along splice path kept))
    (slice_get (out-Memo memo).below place) (out-Memo memo).below)

-- what the elements on the way are, that at the end first
abbrev pub renewed_on : List Renewal → List ℕ → Memo → Memo
renewed_on known path memo =
    renewed (slice_index_or known (length path) (seen_anew (own_facts memo))) memo

abbrev pub changed_memo : Splice Memo → List Renewal → List ℕ → Memo → Memo
changed_memo splice known path memo = spliced_at (renewed_on known) splice path memo

abbrev pub undone_memo : Splice Memo → List ℕ → Memo → Memo
undone_memo splice path memo = spliced_at (λ path. without_mark) splice path memo

-- there is such a way, and the splice fits at its end
abbrev pub FitsMemo : Splice Memo → List ℕ → Memo → Type 0
FitsMemo splice [] memo = FitsIn splice (out-Memo memo).below
FitsMemo splice (place ∷ path) memo =
    (kept : Memo) × (slice_get (out-Memo memo).below place ≡ Some kept) × FitsMemo splice path kept

-- what is taken out there
abbrev pub taken_from : Splice Memo → List ℕ → Memo → Option Memo
taken_from splice [] memo = taken splice (out-Memo memo).below
taken_from splice (place ∷ path) memo =
    option_and_then (taken_from splice path) (slice_get (out-Memo memo).below place)
