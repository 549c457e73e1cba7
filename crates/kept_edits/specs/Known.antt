-- What is known of the elements on the way to a changed one.
use Rattle.std.specs.Prelude.{◌≡◌, ℕ, ◌+◌, List, [], ◌∷◌, length, map, Some, slice_get, slice_set}
use Rattle.splices.specs.Splicing.{spliced}
use Rattle.splices.specs.declared.splice.Splice.{Splice}
use Rattle.font_metrics.specs.Metrics.{MetricsValue}
use Rattle.math_tree.specs.declared.node.Node.{Node}
use Rattle.math_tree.specs.declared.node.Node.TheViews.{out-Node}
use Rattle.tree_edits.specs.Paths.{FitsAt, changed, changed_at}
use Rattle.tree_edits.specs.declared.change.Change.{Change}
use Rattle.embellished.specs.Facts.{facts}
use Rattle.kept_results.specs.Looking.{own_facts}
use Rattle.kept_results.specs.declared.memo.Memo.{Memo}
use Rattle.kept_results.specs.declared.memo.Memo.TheViews.{out-Memo}
use Rattle.kept_edits.specs.Laws.{IsReadyFor, IsSame, KnownOn}
use Rattle.kept_edits.specs.declared.change.Renewal.{Renewal}

-- as many elements as there are on the way are known
pub record IsKnownOn (path : List ℕ) (node : Node) (memo : Memo)
    (known : List Renewal) : Type 0 where
  pub on : KnownOn known path node memo
  pub as_many : length known ≡ length path + 1

-- memos that aren't changed yet know what the elements of a changed tree are, but for those on the
-- way; and an element on the way is what it was where its child there is
abbrev pub IsBeside : Splice Memo → List ℕ → Node → Memo → Type 0
IsBeside splice [] node memo =
    map own_facts (spliced splice (out-Memo memo).below) ≡ map facts (out-Node node).children
IsBeside splice (place ∷ path) node memo =
    (child : Node) × (kept : Memo) × (slice_get (out-Node node).children place ≡ Some child)
    × (slice_get (out-Memo memo).below place ≡ Some kept)
    × (slice_set (map own_facts (out-Memo memo).below) place (facts child)
    ≡ map facts (out-Node node).children)
    × (facts child ≡ own_facts kept → facts node ≡ own_facts memo)
    × IsBeside splice path child kept

-- so do memos that agree with the tree before the change
abbrev pub BesideLaw : Type 0
BesideLaw =
    (m : MetricsValue) (node : Node) (memo : Memo) (change : Change) (other : Splice Memo)
    (path : List ℕ) →
    IsReadyFor m node memo → FitsAt change path node → IsSame m change other →
    IsBeside other path (changed_at (changed change) path node) memo
