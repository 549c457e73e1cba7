-- Where an edit changes a tree, and how.
use Rattle.std.specs.Prelude.{◌≡◌, Option, Some, None}
use Rattle.splices.specs.Splicing.{site_of}
use Rattle.math_tree.specs.Trees.{TreeValue}
use Rattle.tree_edits.specs.declared.change.Change.{Change}
use Rattle.tree_edits.specs.Paths.{splice_of}
use Rattle.tree_edits.specs.declared.edit.Edit.{Edit}
use Rattle.kept_edits.specs.ByIds.{BringsFree}
use Rattle.kept_edits.specs.EditPaths.{IsEditPath}
use Rattle.kept_edits.specs.Edited.{IsChangeOf}
use Rattle.kept_edits.specs.declared.way.Way.{Way}

-- an edit of a tree is a change there, of the element that it names or of the one over that; what
-- it puts in has free ids
pub record IsWay (tree : TreeValue) (edit : Edit) (way : Way) : Type 0 where
  pub change : Change
  pub is : IsChangeOf tree edit change way.path
  pub leads : IsEditPath tree edit way.path
  pub free : BringsFree tree change
  pub site_is : way.site ≡ site_of (splice_of change)

abbrev pub HasWay : TreeValue → Edit → Option Way → Type 0
HasWay tree edit None = ⊥
HasWay tree edit (Some way) = IsWay tree edit way
