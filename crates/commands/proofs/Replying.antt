-- How a reply is made and written.
use Rattle.std.proofs.Common.{◌≡◌, inl, sym, refl, ℕ, Bool, true, false, List, [], append-nil, Option, Some, None}
use Rattle.std.specs.Prelude.{Ok, Err, if◌then◌else◌}
use Rattle.std.specs.Io.KnownBytes.{Appends}
use Rattle.doc_io.specs.Causes.{SinkTold}
use Rattle.doc_io.specs.Whole.{WritesAll}
use Rattle.tree_edits.specs.declared.edit.Edit.{Edit}
use Rattle.tree_edits.specs.Commands.{command_in}
use Rattle.tree_edits.specs.declared.command.Command.{Command}
use Rattle.tree_edits.specs.declared.command.Command.TheVariants.{Show, Change}
use Rattle.math_tree.specs.Forms.{is_white_space}
use Rattle.line_replies.specs.Sessions.{SessionValue}
use Rattle.line_replies.specs.Replies.{after_command, after_line, after_reply, reply_to_edit}
use Rattle.script_answers.specs.Lines.{Tells}
use Rattle.line_replies.specs.declared.reply.Reply.{Reply}
use Rattle.line_replies.specs.declared.reply.Reply.TheVariants.{Nothing, Accepted, Refused, Shown}
use Rattle.script_answers.specs.declared.stop.Stop.TheVariants as stop

-- ---- a reply

appends_nothing : (a : Option (List ℕ)) → Appends a a []
appends_nothing None = tt
appends_nothing (Some a) = sym (append-nil a)

pub told : {E : Type 0} (a b : SinkTold) (text : List ℕ) (u : Unit {0}) → WritesAll {E = E} a b text (Ok u) → Tells text a b (Ok tt)
told {E} a b text u w = record {
  whole = w.whole;
  front = w.part;
  fault = λ e. absurd cc;
  later = w.faults;
  unmade = λ e. absurd cc;
  silent = λ none e. absurd cc;
  causes = tt;
}

pub not_told : {E : Type 0} (a b : SinkTold) (text : List ℕ) (e : E) → WritesAll a b text (Err e) → Tells text a b (Err stop.WriteFault)
not_told {E} a b text e w = record {
  whole = tt;
  front = w.part;
  fault = λ is. w.failed;
  later = w.faults;
  unmade = λ is. absurd cc;
  silent = λ none is. absurd (let ok = (w.empty none).0 in cc);
  causes = inl refl;
}

-- ---- the session after a line

reply_keeps : (reply : Reply) (session : SessionValue) (edit : Edit) → (after_reply reply session edit).metrics ≡ session.metrics
reply_keeps Nothing session edit = refl
reply_keeps Accepted session edit = refl
reply_keeps (Refused cause) session edit = refl
reply_keeps (Shown items) session edit = refl

command_keeps : (session : SessionValue) (command : Option Command) → (after_command session command).metrics ≡ session.metrics
command_keeps session None = refl
command_keeps session (Some Show) = refl
command_keeps session (Some (Change edit)) = reply_keeps (reply_to_edit session edit) session edit

-- no line changes the metrics
pub line_keeps : (session : SessionValue) (line : List ℕ) → (after_line session line).metrics ≡ session.metrics
unfolding after_line
line_keeps session line = by (is_white_space line)
  where
    by : (white : Bool) → (if white then session else after_command session (command_in line)).metrics ≡ session.metrics
    by true = refl
    by false = command_keeps session (command_in line)
