-- Which layouts may have to be made after an edit.
use Rattle.std.specs.Prelude.{◌≡◌, ◌≢◌, ◌⊎◌, ℕ, ◌+◌, ◌<◌, ◌≤◌, Bool, true, List, [], ◌∷◌, length}
use Rattle.std.specs.List.{AllByRecursion}
use Rattle.splices.specs.Splicing.{Moves, site_of}
use Rattle.splices.specs.declared.splice.Splice.{Splice}
use Rattle.font_metrics.specs.Metrics.{MetricsValue}
use Rattle.math_tree.specs.declared.node.Node.{Node}
use Rattle.tree_edits.specs.declared.change.Change.{Change}
use Rattle.tree_edits.specs.Paths.{splice_of}
use Rattle.layout_model.specs.declared.context.Context.{Context}
use Rattle.kept_results.specs.Kept.{Holds, HoldsOne}
use Rattle.kept_results.specs.Laws.{is_unmarked}
use Rattle.kept_results.specs.Passes.{HasNoRepeat, Needs, Pair, Passes}
use Rattle.kept_results.specs.declared.memo.Entry.{Entry}
use Rattle.kept_results.specs.declared.memo.Memo.{Memo}
use Rattle.kept_edits.specs.Changed.{FitsMemo, changed_memo}
use Rattle.kept_edits.specs.Laws.{IsReadyFor, IsSame}
use Rattle.kept_edits.specs.declared.change.Renewal.{Renewal}

-- ---- elements that an edit leaves alone

-- an element off the path to the one that is changed stood here before the change and stands there
-- after it. Of elements on that path, and of new ones, this holds nowhere
abbrev pub CameFrom : List ℕ → Change → List ℕ → List ℕ → Type 0
CameFrom [] change (before ∷ from) (after ∷ to) =
    Moves (site_of (splice_of change)) before after × (from ≡ to)
CameFrom (place ∷ path) change (before ∷ from) (after ∷ to) =
    (before ≡ after)
    × (((after ≡ place) × CameFrom path change from to) ⊎ ((after ≢ place) × (from ≡ to)))
CameFrom path change from to = ⊥

-- ---- what may have to be made

-- the element is on the path or new, or its layout in this context wasn't needed before
abbrev pub IsCounted : MetricsValue → List ℕ → Change → Node → Context → Pair → Type 0
IsCounted m path change node context pair =
    (from : List ℕ) → CameFrom path change from pair.path →
    Needs m node context record { path = from; context = pair.context } → ⊥

-- a memo agrees with an element, no pass and no edit is under way, and its layout in a context is
-- kept
pub record IsSealedFor (m : MetricsValue) (node : Node) (context : Context)
    (memo : Memo) : Type 0 where
  pub ready : IsReadyFor m node memo
  pub unmarked : is_unmarked memo ≡ true
  pub kept : HoldsOne [] memo context

-- an entry of an element that an edit leaves alone stays as it is
abbrev pub StaysLaw : Type 0
StaysLaw =
    (m : MetricsValue) (memo : Memo) (change : Change) (other : Splice Memo) (path : List ℕ)
    (known : List Renewal) (from to : List ℕ) (entry : Entry) →
    FitsMemo other path memo → IsSame m change other → CameFrom path change from to →
    Holds from memo entry → Holds to (changed_memo other known path memo) entry

-- each step of a pass after an edit is counted, none twice
pub record TakesCounted (counted : Pair → Type 0) (from to : ℕ) : Type 0 where
  pub pairs : List Pair
  pub steps : to ≡ from + length pairs
  pub counted_all : AllByRecursion counted pairs
  pub apart : HasNoRepeat pairs

abbrev pub CountedLaw : Type 0
CountedLaw =
    (m : MetricsValue) (node : Node) (context : Context) (memo : Memo) (change : Change)
    (other : Splice Memo) (path : List ℕ) (known : List Renewal) →
    IsSealedFor m node context memo → FitsMemo other path memo → IsSame m change other →
    (edited : Node) (root : Context) (after : Memo) (from to : ℕ) (done : Bool) →
    Passes m edited (Needs m edited root) (changed_memo other known path memo) after from to done →
    TakesCounted (IsCounted m path change node context) from to
