-- The change that takes another change back, and the record of it that is made before that one.
use Rattle.std.specs.Prelude.{ℕ, ◌+◌, length, Option, Some, None}
use Rattle.splices.specs.Splicing.{inverse, room_back, site_of, taken}
use Rattle.math_tree.specs.Attributes.{IsInOrder, value_of}
use Rattle.math_tree.specs.declared.node.Node.{Node}
use Rattle.tree_edits.specs.Edits.{head_of}
use Rattle.tree_edits.specs.Paths.{children_of}
use Rattle.tree_edits.specs.declared.change.Change.{Change}
use Rattle.tree_edits.specs.declared.change.Change.TheVariants.{SetText, SetValue, Children}
use Rattle.tree_edits.specs.declared.change.Replaced.{Replaced}
use Rattle.tree_edits.specs.declared.change.Replaced.TheVariants.{Text, Value, Child}
use Rattle.tree_edits.specs.declared.undo.Undo.{Undo}
use Rattle.tree_edits.specs.declared.undo.Undo.TheVariants.{Text as UndoText, Value as UndoValue, Children as UndoChildren}

-- the change that undoes one of an element, with that much room
abbrev pub inverse_of : Change → ℕ → Node → Change
inverse_of (SetText text) room element = SetText (head_of element).text
inverse_of (SetValue name value own) room element =
    SetValue name (value_of name (head_of element).attributes) room
inverse_of (Children splice) room element =
    Children (inverse (site_of splice) (taken splice (children_of element)) room)

-- enough room for it: an attribute more than there may be after the change, and a child for one
-- that is taken out
abbrev pub room_for : Change → Node → ℕ
room_for (SetText text) element = 0
room_for (SetValue name value own) element = length (head_of element).attributes + 2
room_for (Children splice) element = room_back splice (children_of element)

-- where a change sets an attribute, those of the element stand in order
abbrev pub IsOrdered : Change → Node → Type 0
IsOrdered (SetText text) element = Unit {0}
IsOrdered (SetValue name value own) element = IsInOrder (head_of element).attributes
IsOrdered (Children splice) element = Unit {0}

-- ---- the record

-- the undo record of a change, with that much room for what is put back
abbrev pub undo_of : Change → ℕ → Undo
undo_of (SetText text) room = UndoText
undo_of (SetValue name value own) room = UndoValue name room
undo_of (Children splice) room = UndoChildren (site_of splice) room

-- the change that it is with what was replaced, where that is of the same kind
abbrev pub completed : Undo → Replaced → Option Change
completed UndoText (Text former) = Some (SetText former)
completed (UndoValue name room) (Value former) = Some (SetValue name former room)
completed (UndoChildren site room) (Child former) = Some (Children (inverse site former room))
completed undo replaced = None
