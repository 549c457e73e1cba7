-- What a session answers to the lines of a script, one after another.
use Rattle.std.specs.Prelude.{ℕ, All, List, [], ◌∷◌, ◌++◌, codes, Bool, true, false, if◌then◌else◌, Option, Some, None}
use Rattle.doc_io.specs.Lines.{line}
use Rattle.font_metrics.specs.Metrics.{MetricsValue}
use Rattle.math_tree.specs.Forms.{is_white_space}
use Rattle.tree_edits.specs.Commands.{command_in}
use Rattle.tree_edits.specs.Edits.{edited, refusal_of}
use Rattle.tree_edits.specs.declared.command.Command.{Command}
use Rattle.tree_edits.specs.declared.command.Command.TheVariants.{Show, Change}
use Rattle.tree_edits.specs.declared.edit.Edit.{Edit}
use Rattle.tree_edits.specs.declared.edit.EditRefusal.{EditRefusal}
use Rattle.tree_edits.specs.declared.edit.EditRefusal.TheVariants.{UnknownNode, NotText, IsText, IndexPast, RootFixed, BadName, TextLong, TooDeep, TooMany, IdsSpent, IdTaken, Memory}
use Rattle.layout_model.specs.Layout.{is_tree_in_range}
use Rattle.box_writer.specs.Items.{IsOfFont}
use Rattle.box_writer.specs.Lines.{text_of}
use Rattle.box_writer.specs.declared.placed.PlacedItem.{PlacedItem}
use Rattle.edit_session.specs.Session.{SessionValue, edited_session, page}
use Rattle.script_answers.specs.Responders.{Responder, all_replies}
use Rattle.line_replies.specs.declared.reply.Cause.{Cause}
use Rattle.line_replies.specs.declared.reply.Cause.TheVariants.{NoCommand, Unmade, OutOfRange, NoneHeld}
use Rattle.line_replies.specs.declared.reply.Reply.{Reply}
use Rattle.line_replies.specs.declared.reply.Reply.TheVariants.{Nothing, Accepted, Refused, Shown}

-- ---- one line

-- the reply to an edit, by its first refusal in the tree and by whether the edited tree is in range
abbrev pub reply_by : Option EditRefusal → Bool → Reply
reply_by (Some reason) in_range = Refused (Unmade reason)
reply_by None false = Refused OutOfRange
reply_by None true = Accepted

abbrev pub is_edited_in_range : SessionValue → Edit → Bool
is_edited_in_range session edit = is_tree_in_range session.metrics (edited session.tree edit)

abbrev pub reply_to_edit : SessionValue → Edit → Reply
reply_to_edit session edit =
    reply_by (refusal_of session.tree edit) (is_edited_in_range session edit)

abbrev pub reply_to_command : SessionValue → Option Command → Reply
reply_to_command session None = Refused NoCommand
reply_to_command session (Some Show) = Shown (page session)
reply_to_command session (Some (Change edit)) = reply_to_edit session edit

-- the reply to a line: white space alone gets none
unfoldable pub reply_to : SessionValue → List ℕ → Reply
reply_to session line =
    if is_white_space line then Nothing else reply_to_command session (command_in line)

-- the session after a reply to an edit: only an edit that is accepted changes it
abbrev pub after_reply : Reply → SessionValue → Edit → SessionValue
after_reply Accepted session edit = edited_session session edit
after_reply other session edit = session

abbrev pub after_command : SessionValue → Option Command → SessionValue
after_command session None = session
after_command session (Some Show) = session
after_command session (Some (Change edit)) =
    after_reply (reply_to_edit session edit) session edit

-- the session after a line
unfoldable pub after_line : SessionValue → List ℕ → SessionValue
after_line session line =
    if is_white_space line then session else after_command session (command_in line)

-- ---- how a reply is told

-- the word of each reason; want of memory is none of an edit itself
abbrev pub word_of_edit : EditRefusal → List ℕ
word_of_edit UnknownNode = codes "node"
word_of_edit NotText = codes "not-text"
word_of_edit IsText = codes "text"
word_of_edit IndexPast = codes "index"
word_of_edit RootFixed = codes "root"
word_of_edit BadName = codes "name"
word_of_edit TextLong = codes "long"
word_of_edit TooDeep = codes "depth"
word_of_edit TooMany = codes "many"
word_of_edit IdsSpent = codes "ids"
word_of_edit IdTaken = codes "taken"
word_of_edit Memory = codes "memory"

abbrev pub word_of : Cause → List ℕ
word_of NoCommand = codes "line"
word_of (Unmade reason) = word_of_edit reason
word_of OutOfRange = codes "range"
word_of NoneHeld = codes "nothing"

abbrev pub shown_text : MetricsValue → List PlacedItem → List ℕ
shown_text metrics items = codes "shown\n" ++ text_of metrics items

-- what is written: nothing, or a line, and behind `shown` the lines of the boxes
unfoldable pub text_of_reply : MetricsValue → Reply → List ℕ
text_of_reply metrics Nothing = []
text_of_reply metrics Accepted = codes "ok\n"
text_of_reply metrics (Refused cause) = line (codes "refused") (word_of cause ∷ [])
text_of_reply metrics (Shown items) = shown_text metrics items

-- the marks that are shown name glyphs of the font
abbrev pub IsReplyOfFont : MetricsValue → Reply → Type 0
IsReplyOfFont metrics Nothing = Unit {0}
IsReplyOfFont metrics Accepted = Unit {0}
IsReplyOfFont metrics (Refused cause) = Unit {0}
IsReplyOfFont metrics (Shown items) = All (IsOfFont metrics) items

-- ---- all lines

-- what is written for one line
abbrev pub told_of : SessionValue → List ℕ → List ℕ
told_of session line = text_of_reply session.metrics (reply_to session line)

-- a session answers lines, each over the tree as edited so far
abbrev pub by_session : Responder
by_session = record { Known = SessionValue; told_of = told_of; after_line = after_line }

abbrev pub replies : SessionValue → List (List ℕ) → List ℕ
replies session lines = all_replies by_session session lines
