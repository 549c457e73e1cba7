-- What changed memos are beside the changed tree.
use Rattle.std.specs.Prelude.{◌≡◌, ℕ, true, false, List, [], ◌∷◌, length, Option, Some, None, slice_get}
use Rattle.splices.specs.Splicing.{IsAlike, inverse, site_of}
use Rattle.splices.specs.declared.splice.Splice.{Splice}
use Rattle.font_metrics.specs.Metrics.{MetricsValue}
use Rattle.math_tree.specs.declared.node.Node.{Node}
use Rattle.math_tree.specs.declared.node.Node.TheViews.{out-Node}
use Rattle.tree_edits.specs.Paths.{FitsAt, changed, changed_at, splice_of}
use Rattle.tree_edits.specs.declared.change.Change.{Change}
use Rattle.embellished.specs.Facts.{facts}
use Rattle.outcome_cells.specs.Store.{Runs}
use Rattle.kept_results.specs.Backed.{IsBacked}
use Rattle.kept_results.specs.Ends.{stripped}
use Rattle.kept_results.specs.Kept.{Agrees, is_marked}
use Rattle.kept_results.specs.Laws.{is_unmarked}
use Rattle.kept_results.specs.Looking.{own_facts}
use Rattle.kept_results.specs.declared.memo.Memo.{Memo}
use Rattle.kept_results.specs.declared.memo.Memo.TheViews.{out-Memo}
use Rattle.kept_edits.specs.Blank.{blank}
use Rattle.kept_edits.specs.Changed.{FitsMemo, changed_memo, seen_anew, taken_from, undone_memo}
use Rattle.kept_edits.specs.declared.change.Renewal.{Renewal}

-- ---- the same change of both

-- a memo agrees with an element, and no pass is under way
pub record IsReadyFor (m : MetricsValue) (node : Node) (memo : Memo) : Type 0 where
  pub agrees : Agrees m node memo
  pub plain : stripped memo ≡ memo

-- a change of an element and a splice of the memos below its own do the same: a memo that is put in
-- is one of the child that is put in
abbrev pub IsSame : MetricsValue → Change → Splice Memo → Type 0
IsSame m change other = IsAlike (IsReadyFor m) (splice_of change) other

-- what suffices for layout to see the same of an element on a way, and of its children, as before
-- the change, but for the head of the child at a place: no other change is under way, that child is
-- the one on the way, and among operators it is what its memo knows of it from before
pub record IsSeenAsBefore (but place : ℕ) (node : Node) (memo : Memo) : Type 0 where
  pub on_the_way : but ≡ place
  pub unmarked : is_marked (out-Memo memo) ≡ false
  pub child_is : (child : Node) (kept : Memo) →
      slice_get (out-Node node).children place ≡ Some child →
      slice_get (out-Memo memo).below place ≡ Some kept → facts child ≡ own_facts kept

-- it is known what the elements on a way are after a change, that at the end first, beside memos
-- from before
abbrev pub KnownOn : List Renewal → List ℕ → Node → Memo → Type 0
KnownOn known [] node memo = slice_get known 0 ≡ Some (seen_anew (facts node))
KnownOn known (place ∷ path) node memo =
    (own : Renewal) × (slice_get known (length (place ∷ path)) ≡ Some own)
    × (own.facts ≡ facts node)
    × ((but : ℕ) → own.alike_but ≡ Some but → IsSeenAsBefore but place node memo)
    × ((child : Node) (kept : Memo) → slice_get (out-Node node).children place ≡ Some child →
    slice_get (out-Memo memo).below place ≡ Some kept → KnownOn known path child kept)

-- where the same is changed in a tree and in memos that agree with it, they agree again
abbrev pub ChangeLaw : Type 0
ChangeLaw =
    (m : MetricsValue) (node : Node) (memo : Memo) (change : Change) (other : Splice Memo)
    (path : List ℕ) (known : List Renewal) →
    IsReadyFor m node memo → FitsAt change path node → IsSame m change other →
    KnownOn known path (changed_at (changed change) path node) memo →
    IsReadyFor m (changed_at (changed change) path node) (changed_memo other known path memo)

-- where runs have the layouts of a memo, and those of a memo that is put in, they have the layouts
-- of the changed memo beside the changed tree
abbrev pub ChangeBackedLaw : Type 0
ChangeBackedLaw =
    (m : MetricsValue) (runs : Runs) (node : Node) (memo : Memo) (change : Change)
    (other : Splice Memo) (path : List ℕ) (known : List Renewal) →
    IsReadyFor m node memo → IsBacked m runs node memo → FitsAt change path node →
    IsAlike (IsBacked m runs) (splice_of change) other →
    IsBacked m runs (changed_at (changed change) path node) (changed_memo other known path memo)

-- ---- taken back

-- taking a change of unmarked memos back gives the memos that were there before
abbrev pub BackLaw : Type 0
BackLaw =
    (memo : Memo) (splice : Splice Memo) (path : List ℕ) (known : List Renewal) (room : ℕ) →
    is_unmarked memo ≡ true → FitsMemo splice path memo →
    undone_memo (inverse (site_of splice) (taken_from splice path memo) room) path
    (changed_memo splice known path memo) ≡ memo

-- ---- nothing kept

abbrev pub BlankLaw : Type 0
BlankLaw =
    (m : MetricsValue) (node : Node) →
    IsReadyFor m node (blank node) × (is_unmarked (blank node) ≡ true)

-- whatever the runs are
abbrev pub BlankBackedLaw : Type 0
BlankBackedLaw = (m : MetricsValue) (runs : Runs) (node : Node) → IsBacked m runs node (blank node)
