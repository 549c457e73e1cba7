-- Memos that follow an edit of their tree.
use Rattle.std.specs.Prelude.{◌≡◌, ⊤, ℕ, ◌+◌, ◌<◌, List, true, length, Some, slice_get}
use Rattle.splices.specs.Splicing.{Brings, IsAlike, IsRoomy, site_of}
use Rattle.splices.specs.declared.site.Site.{Site}
use Rattle.splices.specs.declared.site.Site.TheVariants.{Stay, Put, Take, Swap}
use Rattle.splices.specs.declared.splice.Splice.{Splice}
use Rattle.font_metrics.specs.Metrics.{MetricsValue}
use Rattle.math_tree.specs.declared.node.Node.{Node}
use Rattle.tree_edits.specs.Paths.{FitsAt, changed, changed_at, children_of, node_at, splice_of}
use Rattle.tree_edits.specs.declared.change.Change.{Change}
use Rattle.kept_results.specs.Laws.{is_unmarked}
use Rattle.kept_results.specs.declared.memo.Memo.{Memo}
use Rattle.kept_edits.specs.Blank.{blank}
use Rattle.kept_edits.specs.Changed.{FitsMemo, changed_memo, undone_memo}
use Rattle.kept_edits.specs.Laws.{IsReadyFor, KnownOn}
use Rattle.kept_edits.specs.declared.change.Renewal.{Renewal}
use Rattle.kept_edits.specs.declared.way.Way.{Way}

-- ---- before

-- a memo agrees with a tree before an edit, which is a change there
pub record IsBefore (root : Node) (memo : Memo) (way : Way) : Type 0 where
  pub metrics : MetricsValue
  pub old : Node
  pub change : Change
  pub fits : FitsAt change way.path old
  pub gives : root ≡ changed_at (changed change) way.path old
  pub site_is : way.site ≡ site_of (splice_of change)
  pub ready : IsReadyFor metrics old memo
  pub unmarked : is_unmarked memo ≡ true

-- ---- the splice of the memos

-- there is a child at the place where one was put
abbrev pub HasPlace : Site → Node → Type 0
HasPlace Stay element = ⊤
HasPlace (Put index) element = index < length (children_of element)
HasPlace (Take index) element = ⊤
HasPlace (Swap index) element = index < length (children_of element)

-- the memo of the child at a place, of which nothing is kept
pub record IsBlankAt (place : ℕ) (element : Node) (memo : Memo) : Type 0 where
  pub child : Node
  pub at : slice_get (children_of element) place ≡ Some child
  pub is : memo ≡ blank child

-- a splice of memos does at a site what an edit did to the children of an element: of one that was
-- put there nothing is kept. It has room for that memo
pub record IsOfElement (site : Site) (element : Node) (splice : Splice Memo) : Type 0 where
  pub site_is : site_of splice ≡ site
  pub blank : (place : ℕ) (memo : Memo) → Brings splice place memo → IsBlankAt place element memo
  pub roomy : (count : ℕ) → count < length (children_of element) + 2 → IsRoomy count splice

-- so at the end of a way
pub record IsOfWay (root : Node) (way : Way) (splice : Splice Memo) : Type 0 where
  pub element : Node
  pub at : node_at way.path root ≡ Some element
  pub is : IsOfElement way.site element splice

-- ---- after

-- the memos below the element at the end of a path are spliced as its children were, with blank
-- memos of those that are new, and the memos on the way are marked
pub record IsSplicedAlong (change : Change) (path : List ℕ) (root : Node)
    (memo now : Memo) : Type 0 where
  pub splice : Splice Memo
  pub known : List Renewal
  pub fits : FitsMemo splice path memo
  pub alike : IsAlike (λ child new. new ≡ blank child) (splice_of change) splice
  pub knows : KnownOn known path root memo
  pub is : now ≡ changed_memo splice known path memo

-- the memo is changed so, and there is a splice that gives the memo before
pub record IsFollowed (root : Node) (memo : Memo) (way : Way) (before : IsBefore root memo way)
    (now : Memo) (back : Splice Memo) : Type 0 where
  pub spliced : IsSplicedAlong before.change way.path root memo now
  pub fits : FitsMemo back way.path now
  pub gives : undone_memo back way.path now ≡ memo
