-- What is answered to an edit, and to a line, by what is known of it.
use Rattle.std.proofs.Common.{◌≡◌, ◌∙◌, ap, sym, ℕ, Bool, true, false, if◌then◌else◌, List, Option, Some, None}
use Rattle.math_tree.specs.Forms.{is_white_space}
use Rattle.tree_edits.specs.Commands.{command_in}
use Rattle.tree_edits.specs.Edits.{refusal_of}
use Rattle.tree_edits.specs.declared.command.Command.{Command}
use Rattle.tree_edits.specs.declared.edit.Edit.{Edit}
use Rattle.tree_edits.specs.declared.edit.EditRefusal.{EditRefusal}
use Rattle.layout_model.specs.Layout.{is_tree_in_range}
use Rattle.edit_session.specs.Session.{IsInRange, SessionValue, edited_session}
use Rattle.line_replies.specs.EditSteps.{accepted_by, accepted_in}
use Rattle.line_replies.specs.Replies.{after_command, after_line, is_edited_in_range, reply_by, reply_to, reply_to_command, reply_to_edit}
use Rattle.line_replies.specs.declared.reply.Cause.TheVariants.{OutOfRange, Unmade}
use Rattle.line_replies.specs.declared.reply.Reply.TheVariants.{Accepted, Nothing, Refused}

-- ---- an edit

module _ (session : SessionValue) (edit : Edit) where
  pub accepted_reply : (new : SessionValue) → refusal_of session.tree edit ≡ None → new ≡ edited_session session edit → IsInRange new → reply_to_edit session edit ≡ Accepted
  accepted_reply new accepted is fit =
      let in_range : is_edited_in_range session edit ≡ true = ap (λ (s : SessionValue). is_tree_in_range s.metrics s.tree) (sym is) ∙ fit in
      λ i. reply_by (accepted i) (in_range i)

  pub reason_reply : (reason : EditRefusal) → refusal_of session.tree edit ≡ Some reason → reply_to_edit session edit ≡ Refused (Unmade reason)
  reason_reply reason is = ap (λ (o : Option EditRefusal). reply_by o (is_edited_in_range session edit)) is

  pub range_reply : refusal_of session.tree edit ≡ None → is_edited_in_range session edit ≡ false → reply_to_edit session edit ≡ Refused OutOfRange
  range_reply accepted unfit = λ i. reply_by (accepted i) (unfit i)

-- ---- a line

module _ (session : SessionValue) (line : List ℕ) where
  pub reply_to_white : is_white_space line ≡ true → reply_to session line ≡ Nothing
  unfolding reply_to
  reply_to_white white = ap (λ (b : Bool). if b then Nothing else reply_to_command session (command_in line)) white

  pub after_white : is_white_space line ≡ true → after_line session line ≡ session
  unfolding after_line
  after_white white = ap (λ (b : Bool). if b then session else after_command session (command_in line)) white

  pub reply_to_black : (command : Option Command) → is_white_space line ≡ false → command_in line ≡ command → reply_to session line ≡ reply_to_command session command
  unfolding reply_to
  reply_to_black command black reads = λ i. if black i then Nothing else reply_to_command session (reads i)

  pub after_black : (command : Option Command) → is_white_space line ≡ false → command_in line ≡ command → after_line session line ≡ after_command session command
  unfolding after_line
  after_black command black reads = λ i. if black i then session else after_command session (reads i)

  pub accepted_in_black : (command : Option Command) → is_white_space line ≡ false → command_in line ≡ command → accepted_in session line ≡ accepted_by session command
  unfolding accepted_in
  accepted_in_black command black reads = λ i. if black i then None else accepted_by session (reads i)
