-- How many steps an edit of a session takes, and a line of a script.
use Rattle.std.specs.Prelude.{◌≡◌, ℕ, List, if◌then◌else◌, Option, Some, None}
use Rattle.math_tree.specs.Forms.{is_white_space}
use Rattle.tree_edits.specs.Commands.{command_in}
use Rattle.tree_edits.specs.Edits.{refusal_of}
use Rattle.tree_edits.specs.declared.command.Command.{Command}
use Rattle.tree_edits.specs.declared.command.Command.TheVariants.{Show, Change}
use Rattle.tree_edits.specs.declared.edit.Edit.{Edit}
use Rattle.tree_edits.specs.declared.edit.EditRefusal.{EditRefusal}
use Rattle.edit_session.specs.Counts.{TakesNeeded}
use Rattle.edit_session.specs.Session.{SessionValue}

-- an edit, where the tree has no reason to refuse it
abbrev pub unless_refused : Option EditRefusal → Edit → Option Edit
unless_refused None edit = Some edit
unless_refused (Some reason) edit = None

-- the edit that a command asks for, where the tree has no reason to refuse it
abbrev pub accepted_by : SessionValue → Option Command → Option Edit
accepted_by session None = None
accepted_by session (Some Show) = None
accepted_by session (Some (Change edit)) = unless_refused (refusal_of session.tree edit) edit

-- the steps of an accepted edit: layouts that it needs, none twice, be it then done, out of range
-- or cut short; where there is none, no step
abbrev pub TakesForEdit : SessionValue → Option Edit → ℕ → ℕ → Type 0
TakesForEdit session None from to = to ≡ from
TakesForEdit session (Some edit) from to =
    TakesNeeded session.metrics session.tree edit from to

-- the edit that a line asks for, where the tree has no reason to refuse it
unfoldable pub accepted_in : SessionValue → List ℕ → Option Edit
accepted_in session line =
    if is_white_space line then None else accepted_by session (command_in line)

-- the steps of a line
abbrev pub TakesForLine : SessionValue → List ℕ → ℕ → ℕ → Type 0
TakesForLine session line from to = TakesForEdit session (accepted_in session line) from to
