-- What is answered to the lines of a script whose edits can be undone.
use Rattle.std.specs.Prelude.{ℕ, List, [], if◌then◌else◌, Option, Some, None}
use Rattle.font_metrics.specs.Metrics.{MetricsValue}
use Rattle.math_tree.specs.Forms.{is_white_space}
use Rattle.math_tree.specs.Trees.{TreeValue}
use Rattle.tree_edits.specs.Commands.{command_in}
use Rattle.tree_edits.specs.Edits.{edited}
use Rattle.tree_edits.specs.declared.command.Command.{Command}
use Rattle.tree_edits.specs.declared.command.Command.TheVariants.{Show, Change}
use Rattle.tree_edits.specs.declared.edit.Edit.{Edit}
use Rattle.edit_session.specs.Session.{SessionValue}
use Rattle.edit_ring.specs.Rings.{History, after_edit, after_redo, after_undo}
use Rattle.command_reader.specs.Moves.{move_in}
use Rattle.command_reader.specs.declared.moves.Move.{Move}
use Rattle.command_reader.specs.declared.moves.Move.TheVariants.{Undo, Redo, Other}
use Rattle.line_replies.specs.Replies.{reply_to_command, reply_to_edit, text_of_reply}
use Rattle.line_replies.specs.declared.reply.Cause.TheVariants.{NoneHeld}
use Rattle.line_replies.specs.declared.reply.Reply.{Reply}
use Rattle.line_replies.specs.declared.reply.Reply.TheVariants.{Nothing, Accepted, Refused}

-- ---- the history of a session

-- the trees that stood, the present one and those that were undone; the id that the next new
-- element gets, which no undo gives back; how many past trees are kept
pub record Remembered : Type 0 where
  pub history : History
  pub next_id : ℕ
  pub metrics : MetricsValue
  pub depth : ℕ

abbrev pub session_in : Remembered → SessionValue
session_in kept = record {
  tree = record { root = kept.history.present; next_id = kept.next_id };
  metrics = kept.metrics;
}

-- a session of which nothing can be undone yet
abbrev pub remembered : ℕ → SessionValue → Remembered
remembered depth session = record {
  history = record { past = []; present = session.tree.root; future = [] };
  next_id = session.tree.next_id;
  metrics = session.metrics;
  depth = depth;
}

abbrev pub with_tree : TreeValue → Remembered → Remembered
with_tree tree kept = record kept {
  history = after_edit kept.depth tree.root kept.history;
  next_id = tree.next_id;
}

-- ---- one line

abbrev pub reply_to_move : Option History → Reply
reply_to_move (Some history) = Accepted
reply_to_move None = Refused NoneHeld

abbrev pub reply_by_move : Move → Remembered → Option Command → Reply
reply_by_move Undo kept asked = reply_to_move (after_undo kept.history)
reply_by_move Redo kept asked = reply_to_move (after_redo kept.history)
reply_by_move Other kept asked = reply_to_command (session_in kept) asked

-- the reply to a line: white space alone gets none
unfoldable pub reply_to : Remembered → List ℕ → Reply
reply_to kept line =
    if is_white_space line then Nothing
    else reply_by_move (move_in line) kept (command_in line)

abbrev pub moved_to : Option History → Remembered → Remembered
moved_to (Some history) kept = record kept { history = history }
moved_to None kept = kept

abbrev pub after_reply : Reply → Remembered → Edit → Remembered
after_reply Accepted kept edit = with_tree (edited (session_in kept).tree edit) kept
after_reply other kept edit = kept

abbrev pub after_command : Remembered → Option Command → Remembered
after_command kept None = kept
after_command kept (Some Show) = kept
after_command kept (Some (Change edit)) =
    after_reply (reply_to_edit (session_in kept) edit) kept edit

abbrev pub after_move : Move → Remembered → Option Command → Remembered
after_move Undo kept asked = moved_to (after_undo kept.history) kept
after_move Redo kept asked = moved_to (after_redo kept.history) kept
after_move Other kept asked = after_command kept asked

-- the history after a line
unfoldable pub after_line : Remembered → List ℕ → Remembered
after_line kept line =
    if is_white_space line then kept
    else after_move (move_in line) kept (command_in line)

-- what is written for a line
abbrev pub told_of : Remembered → List ℕ → List ℕ
told_of kept line = text_of_reply kept.metrics (reply_to kept line)
