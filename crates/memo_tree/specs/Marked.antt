-- What an edit does to each memo.
use Rattle.std.specs.Prelude.{◌≡◌, ◌↔◌, ℕ, true, List, [], ◌∷◌, ◌++◌, Option, Some, slice_get}
use Rattle.std.specs.Option.{option_and_then}
use Rattle.splices.specs.Splicing.{Brings}
use Rattle.math_tree.specs.declared.node.Node.{Node}
use Rattle.tree_edits.specs.Paths.{splice_of}
use Rattle.tree_edits.specs.declared.change.Change.{Change}
use Rattle.tree_edits.specs.declared.edit.Edit.{Edit}
use Rattle.kept_results.specs.Kept.{is_marked}
use Rattle.kept_results.specs.declared.memo.Memo.{Memo}
use Rattle.kept_results.specs.declared.memo.Memo.TheViews.{out-Memo}
use Rattle.kept_edits.specs.Blank.{blank}
use Rattle.kept_edits.specs.ByIds.{IsEditAt}
use Rattle.kept_edits.specs.EditPaths.{IsEditPath}
use Rattle.kept_edits.specs.Need.{CameFrom}
use Rattle.memo_tree.specs.Trees.{MemoTreeValue}

-- the memo of the element at the end of a path
abbrev pub memo_at : List ℕ → Memo → Option Memo
memo_at [] memo = Some memo
memo_at (place ∷ path) memo = option_and_then (memo_at path) (slice_get (out-Memo memo).below place)

-- of an element that the edit puts in nothing is kept
pub record NewIsBlank (old : MemoTreeValue) (edit : Edit) (new : MemoTreeValue) : Type 0 where
  pub path : List ℕ
  pub change : Change
  pub is : IsEditAt old.tree edit change path
  pub is_blank : (place : ℕ) (child : Node) → Brings (splice_of change) place child →
      memo_at (path ++ place ∷ []) new.memo ≡ Some (blank child)

-- the elements on the path of the edit are marked, and no others
pub record MarksPath (old : MemoTreeValue) (edit : Edit) (new : MemoTreeValue) : Type 0 where
  pub path : List ℕ
  pub to_end : IsEditPath old.tree edit path
  pub marked : (at : List ℕ) (memo : Memo) → memo_at at new.memo ≡ Some memo →
      (is_marked (out-Memo memo) ≡ true) ↔ ((rest : List ℕ) × (path ≡ at ++ rest))

-- it is there, with the entries of that memo
pub record HasEntriesOf (kept : Memo) (found : Option Memo) : Type 0 where
  pub memo : Memo
  pub there : found ≡ Some memo
  pub entries : (out-Memo memo).entries ≡ (out-Memo kept).entries

-- each element that stays has the entries that it had: those on the path, and the others, whose
-- memos stay whole
pub record EachStays (old : MemoTreeValue) (edit : Edit) (new : MemoTreeValue) : Type 0 where
  pub path : List ℕ
  pub change : Change
  pub is : IsEditAt old.tree edit change path
  pub on_path : (at rest : List ℕ) (kept : Memo) → path ≡ at ++ rest →
      memo_at at old.memo ≡ Some kept → HasEntriesOf kept (memo_at at new.memo)
  pub elsewhere : (before behind : List ℕ) (kept : Memo) → CameFrom path change before behind →
      memo_at before old.memo ≡ Some kept → memo_at behind new.memo ≡ Some kept
