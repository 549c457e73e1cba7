-- What holds of the replies to all scripts.
use Rattle.std.specs.Prelude.{◌≡◌, ◌↔◌, ℕ, true, List, ◌∷◌, ◌++◌, Some, None}
use Rattle.tree_edits.specs.Commands.{command_in}
use Rattle.tree_edits.specs.Edits.{refusal_of}
use Rattle.tree_edits.specs.declared.command.Command.TheVariants.{Change}
use Rattle.tree_edits.specs.declared.edit.Edit.{Edit}
use Rattle.line_replies.specs.Sessions.{SessionValue, edited_session}
use Rattle.generator.specs.Folded.{after_edit, is_accepted}
use Rattle.script_answers.specs.Responders.{after_all}
use Rattle.line_replies.specs.Replies.{after_line, after_reply, by_session, is_edited_in_range, replies, reply_to, reply_to_edit, told_of}
use Rattle.line_replies.specs.declared.reply.Reply.TheVariants.{Accepted}

-- a line that isn't answered by `ok` leaves the session as it was
abbrev pub UnchangedLaw : Type 0
UnchangedLaw = (session : SessionValue) (line : List ℕ) → ¬ (reply_to session line ≡ Accepted)
    → after_line session line ≡ session

-- what an accepted line stands for
pub record Accepts (session : SessionValue) (line : List ℕ) : Type 0 where
  pub edit : Edit
  pub asked : command_in line ≡ Some (Change edit)
  pub unrefused : refusal_of session.tree edit ≡ None
  pub fit : is_edited_in_range session edit ≡ true
  pub edited : after_line session line ≡ edited_session session edit

-- `ok` answers an edit that the tree has no reason to refuse and that leaves it in range, and then
-- the session has the edited tree
abbrev pub AcceptedLaw : Type 0
AcceptedLaw = (session : SessionValue) (line : List ℕ) → reply_to session line ≡ Accepted
    → Accepts session line

-- the session after all lines
abbrev pub after_lines : SessionValue → List (List ℕ) → SessionValue
after_lines session lines = after_all by_session session lines

-- the reply to each line is the one over the tree as edited by all lines before it
abbrev pub RepliesLaw : Type 0
RepliesLaw = (session : SessionValue) (before : List (List ℕ)) (line : List ℕ)
    (behind : List (List ℕ))
    → replies session (before ++ line ∷ behind)
    ≡ replies session before ++ told_of (after_lines session before) line
    ++ replies (after_line (after_lines session before) line) behind

-- an edit that is drawn from a seed is counted where `ok` would answer it, and changes the session
-- as that would
pub record CountsAsReplied (session : SessionValue) (edit : Edit) : Type 0 where
  pub counted : (is_accepted session edit ≡ true) ↔ (reply_to_edit session edit ≡ Accepted)
  pub after : after_edit session edit ≡ after_reply (reply_to_edit session edit) session edit

abbrev pub CountedLaw : Type 0
CountedLaw = (session : SessionValue) (edit : Edit) → CountsAsReplied session edit
