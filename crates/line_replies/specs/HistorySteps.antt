-- What a ring keeps from line to line, and the steps that its lines take.
use Rattle.std.specs.Prelude.{◌≡◌, ℕ, Bool, true, false, List, [], ◌∷◌, take, Option, Some, None, if◌then◌else◌, unwrap_or}
use Rattle.math_tree.specs.Forms.{is_white_space}
use Rattle.tree_edits.specs.Commands.{command_in}
use Rattle.tree_edits.specs.Edits.{edited}
use Rattle.tree_edits.specs.Inverses.{inverse}
use Rattle.tree_edits.specs.declared.command.Command.{Command}
use Rattle.tree_edits.specs.declared.command.Command.TheVariants.{Show, Change}
use Rattle.tree_edits.specs.declared.edit.Edit.{Edit}
use Rattle.edit_session.specs.Counts.{TakesNeeded}
use Rattle.edit_session.specs.Session.{SessionValue}
use Rattle.edit_ring.specs.Grounds.{with_tree}
use Rattle.edit_ring.specs.Rings.{RingState, RingValue, TakesMove, history_of, redone, state_of, undone}
use Rattle.command_reader.specs.Moves.{move_in}
use Rattle.edit_session.specs.Undoable.{told}
use Rattle.command_reader.specs.declared.moves.Move.{Move}
use Rattle.command_reader.specs.declared.moves.Move.TheVariants.{Undo, Redo, Other}
use Rattle.edit_session.specs.declared.undoable.Undoable.{Undoable}
use Rattle.line_replies.specs.EditSteps.{TakesForEdit, accepted_by}
use Rattle.line_replies.specs.History.{Remembered, after_line, remembered, told_of}
use Rattle.line_replies.specs.Replies.{reply_to_edit}
use Rattle.script_answers.specs.Responders.{LineSteps, Responder}
use Rattle.line_replies.specs.declared.reply.Reply.{Reply}
use Rattle.line_replies.specs.declared.reply.Reply.TheVariants.{Accepted}

-- ---- a ring from line to line

-- the session that a ring is over
abbrev pub session_under : RingState → SessionValue
session_under ring = record { tree = ring.told.tree; metrics = ring.told.metrics }

-- a ring without edits
abbrev pub new_ring : ℕ → SessionValue → RingState
new_ring depth session = record { told = told session; past = []; future = []; depth = depth }

-- an accepted edit: its inverse is kept, and what was undone is forgotten
abbrev pub with_edit : Edit → RingState → RingState
with_edit edit ring = record ring {
  told = with_tree (edited ring.told.tree edit) ring.told;
  past = take ring.depth (inverse ring.told.tree edit ∷ ring.past);
  future = [];
}

abbrev pub ring_after_reply : Reply → RingState → Edit → RingState
ring_after_reply Accepted ring edit = with_edit edit ring
ring_after_reply other ring edit = ring

abbrev pub ring_after_command : RingState → Option Command → RingState
ring_after_command ring None = ring
ring_after_command ring (Some Show) = ring
ring_after_command ring (Some (Change edit)) =
    ring_after_reply (reply_to_edit (session_under ring) edit) ring edit

abbrev pub ring_after_move : Move → RingState → Option Command → RingState
ring_after_move Undo ring asked = unwrap_or (undone ring) ring
ring_after_move Redo ring asked = unwrap_or (redone ring) ring
ring_after_move Other ring asked = ring_after_command ring asked

-- the ring after a line
unfoldable pub ring_after : RingState → List ℕ → RingState
ring_after ring line =
    if is_white_space line then ring
    else ring_after_move (move_in line) ring (command_in line)

-- ---- one line

-- the steps of an edit that is made, undone or made again: layouts that it needs, none twice
abbrev pub TakesForMove : Move → RingState → Option Command → ℕ → ℕ → Type 0
TakesForMove Undo ring asked from to = TakesMove TakesNeeded ring.told ring.past from to
TakesForMove Redo ring asked from to = TakesMove TakesNeeded ring.told ring.future from to
TakesForMove Other ring asked from to =
    TakesForEdit (session_under ring) (accepted_by (session_under ring) asked) from to

abbrev pub TakesUnlessWhite : Bool → RingState → List ℕ → ℕ → ℕ → Type 0
TakesUnlessWhite true ring line from to = to ≡ from
TakesUnlessWhite false ring line from to =
    TakesForMove (move_in line) ring (command_in line) from to

-- the steps of a line
abbrev pub TakesForLine : RingState → List ℕ → ℕ → ℕ → Type 0
TakesForLine ring line from to = TakesUnlessWhite (is_white_space line) ring line from to

-- ---- what answers a script whose edits can be undone

-- the history, by which each line is answered, and the ring of inverse edits, by which the steps
-- are counted
pub record Kept : Type 0 where
  pub history : Remembered
  pub ring : RingState

abbrev pub told_by : Kept → List ℕ → List ℕ
told_by kept line = told_of kept.history line

abbrev pub kept_after : Kept → List ℕ → Kept
kept_after kept line = record {
  history = after_line kept.history line;
  ring = ring_after kept.ring line;
}

abbrev pub by_history : Responder
by_history = record { Known = Kept; told_of = told_by; after_line = kept_after }

abbrev pub TakesForKept : LineSteps by_history
TakesForKept kept line from to = TakesForLine kept.ring line from to

-- nothing can be undone yet
abbrev pub kept_at_first : ℕ → SessionValue → Kept
kept_at_first depth session =
    record { history = remembered depth session; ring = new_ring depth session }

-- what a ring keeps
abbrev pub kept_by : RingState → Kept
kept_by ring = record {
  history = record {
    history = history_of ring;
    next_id = ring.told.tree.next_id;
    metrics = ring.told.metrics;
    depth = ring.depth;
  };
  ring = ring;
}

-- what a ring over a session tells
abbrev pub ring_of : RingValue Undoable → RingState
ring_of ring = state_of (λ undoable. told undoable.session.held) ring
