-- What becomes of a ring where a line of a script is answered, and what is answered.
use Rattle.std.specs.Prelude.{◌≡◌, Option, Result, Ok, Err, IfOk, OnOk, OnErr, IsErr}
use Rattle.tree_edits.specs.declared.command.Command.{Command}
use Rattle.edit_ring.specs.Rings.{RingState}
use Rattle.edit_ring.specs.declared.ground.GroundRefusal.{GroundRefusal}
use Rattle.edit_ring.specs.declared.ground.GroundRefusal.TheVariants.{Edit as Refuses, Range as PassesRange, Memory as LacksMemory}
use Rattle.edit_ring.specs.declared.ring.RingRefusal.{RingRefusal}
use Rattle.edit_ring.specs.declared.ring.RingRefusal.TheVariants.{Nothing as HoldsNone, Memory as HasNoMemory}
use Rattle.command_reader.specs.declared.moves.Move.{Move}
use Rattle.line_replies.specs.History.{after_move}
use Rattle.line_replies.specs.HistorySteps.{Kept, kept_by, ring_after_move}
use Rattle.line_replies.specs.Replies.{IsReplyOfFont}
use Rattle.line_replies.specs.declared.reply.Cause.TheVariants.{Unmade, OutOfRange, NoneHeld}
use Rattle.line_replies.specs.declared.reply.Reply.{Reply}
use Rattle.line_replies.specs.declared.reply.Reply.TheVariants.{Accepted, Refused}

-- what is kept behind a move, or behind what else is asked for
abbrev pub kept_after_move : Move → Kept → Option Command → Kept
kept_after_move move kept asked = record {
  history = after_move move kept.history asked;
  ring = ring_after_move move kept.ring asked;
}

-- the reply was made, and that is kept then; or memory was refused, and nothing changed
pub record Makes {E : Type 0} (wanted : Reply) (kept : Kept) (old new : RingState)
    (result : Result Reply E) : Type 0 where
  pub reply : IfOk result (λ reply. reply ≡ wanted)
  pub glyphs : IfOk result (IsReplyOfFont old.told.metrics)
  pub after : OnOk result (kept_by new ≡ kept)
  pub unchanged : OnErr result (new ≡ old)

-- how a move is told; want of memory ends the script
abbrev pub TellsMove : {E : Type 0} → Result (Unit {0}) RingRefusal → Result Reply E → Type 0
TellsMove (Ok done) result = result ≡ Ok Accepted
TellsMove (Err HoldsNone) result = result ≡ Ok (Refused NoneHeld)
TellsMove (Err HasNoMemory) result = IsErr result

-- the same of an edit
abbrev pub TellsEdit : {E : Type 0} → Result (Unit {0}) GroundRefusal → Result Reply E → Type 0
TellsEdit (Ok done) result = result ≡ Ok Accepted
TellsEdit (Err (Refuses reason)) result = result ≡ Ok (Refused (Unmade reason))
TellsEdit (Err PassesRange) result = result ≡ Ok (Refused OutOfRange)
TellsEdit (Err LacksMemory) result = IsErr result
