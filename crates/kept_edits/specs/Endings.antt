-- How an edit ends: its pass is sealed, or all is as it was before.
use Rattle.std.specs.Prelude.{◌≡◌, ℕ, Bool, true, List}
use Rattle.splices.specs.Splicing.{inverse, site_of}
use Rattle.splices.specs.declared.splice.Splice.{Splice}
use Rattle.font_metrics.specs.Metrics.{MetricsValue}
use Rattle.math_tree.specs.declared.node.Node.{Node}
use Rattle.tree_edits.specs.declared.change.Change.{Change}
use Rattle.layout_model.specs.declared.context.Context.{Context}
use Rattle.kept_results.specs.Ends.{sealed, settled, stripped}
use Rattle.kept_results.specs.Kept.{Holds, IsKept}
use Rattle.kept_results.specs.Laws.{AllKept, is_unmarked}
use Rattle.kept_results.specs.Passes.{Needs, Passes}
use Rattle.kept_results.specs.declared.memo.Entry.{Entry}
use Rattle.kept_results.specs.declared.memo.Memo.{Memo}
use Rattle.kept_results.specs.declared.memo.Memo.TheViews.{out-Memo}
use Rattle.kept_edits.specs.Changed.{FitsMemo, changed_memo, taken_from, undone_memo}
use Rattle.kept_edits.specs.Laws.{IsSame}
use Rattle.kept_edits.specs.Need.{CameFrom, IsSealedFor}
use Rattle.kept_edits.specs.declared.change.Renewal.{Renewal}

-- a pass that was done is sealed: no edit and no pass is under way, and all that the root needs is
-- kept
abbrev pub AcceptedLaw : Type 0
AcceptedLaw =
    (m : MetricsValue) (edited : Node) (root : Context) (before after : Memo) (from to : ℕ) →
    Passes m edited (Needs m edited root) before after from to true → IsKept (out-Memo after) root →
    IsSealedFor m edited root (sealed after) × AllKept m edited root (sealed after)

-- a pass that stopped anywhere is undone, and then the change: the memos are those that were there
-- before
abbrev pub RefusedLaw : Type 0
RefusedLaw =
    (m : MetricsValue) (edited : Node) (root : Context) (memo after : Memo) (splice : Splice Memo)
    (path : List ℕ) (known : List Renewal)
    (room from to : ℕ) (done : Bool) → is_unmarked memo ≡ true → FitsMemo splice path memo →
    stripped (changed_memo splice known path memo) ≡ changed_memo splice known path memo →
    Passes m edited (Needs m edited root) (changed_memo splice known path memo) after from to done →
    undone_memo (inverse (site_of splice) (taken_from splice path memo) room) path (stripped after)
    ≡ memo

-- an entry of an element that an edit leaves alone is the same after the edit
abbrev pub EntriesStayLaw : Type 0
EntriesStayLaw =
    (m : MetricsValue) (edited : Node) (root : Context) (memo after : Memo) (change : Change)
    (other : Splice Memo) (path : List ℕ) (known : List Renewal)
    (from to : ℕ) (done : Bool) (before behind : List ℕ) (entry : Entry) →
    FitsMemo other path memo → IsSame m change other →
    Passes m edited (Needs m edited root) (changed_memo other known path memo) after from to done →
    CameFrom path change before behind → Holds before memo entry →
    Holds behind (sealed after) (settled entry)
