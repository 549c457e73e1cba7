-- What holds of the replies to all scripts.
use Rattle.std.proofs.Common.{◌≡◌, ◌∙◌, ap, sym, refl, ℕ, Bool, true, false, List, [], ◌∷◌, ◌++◌, append_assoc, Option, Some, None}
use Rattle.std.specs.Prelude.{◌↔◌, ◌&&◌, if◌then◌else◌}
use Rattle.std.specs.Option.{is_none}
use Rattle.math_tree.specs.Forms.{is_white_space}
use Rattle.tree_edits.specs.Commands.{command_in}
use Rattle.tree_edits.specs.Edits.{refusal_of}
use Rattle.tree_edits.specs.declared.command.Command.{Command}
use Rattle.tree_edits.specs.declared.command.Command.TheVariants.{Show, Change}
use Rattle.tree_edits.specs.declared.edit.Edit.{Edit}
use Rattle.tree_edits.specs.declared.edit.EditRefusal.{EditRefusal}
use Rattle.line_replies.specs.Sessions.{SessionValue, edited_session}
use Rattle.generator.specs.Folded.{is_accepted}
use Rattle.commands.specs.Laws.{Accepts, AcceptedLaw, CountedLaw, RepliesLaw, UnchangedLaw, after_lines}
use Rattle.line_replies.specs.Replies.{after_command, after_line, after_reply, is_edited_in_range, replies, reply_by, reply_to, reply_to_command, reply_to_edit, told_of}
use Rattle.line_replies.specs.declared.reply.Reply.{Reply}
use Rattle.line_replies.specs.declared.reply.Reply.TheVariants.{Nothing, Accepted, Refused, Shown}

-- ---- only `ok` changes the session

kept_by_reply : (reply : Reply) (session : SessionValue) (edit : Edit) → ¬ (reply ≡ Accepted) → after_reply reply session edit ≡ session
kept_by_reply Nothing session edit other = refl
kept_by_reply Accepted session edit other = absurd (other refl)
kept_by_reply (Refused cause) session edit other = refl
kept_by_reply (Shown items) session edit other = refl

kept_by_command : (session : SessionValue) (command : Option Command) → ¬ (reply_to_command session command ≡ Accepted)
    → after_command session command ≡ session
kept_by_command session None other = refl
kept_by_command session (Some Show) other = refl
kept_by_command session (Some (Change edit)) other = kept_by_reply (reply_to_edit session edit) session edit other

pub unchanged : UnchangedLaw
unfolding reply_to after_line
unchanged session line other = by (is_white_space line) other
  where
    by : (white : Bool) → ¬ ((if white then Nothing else reply_to_command session (command_in line)) ≡ Accepted)
        → (if white then session else after_command session (command_in line)) ≡ session
    by true other = refl
    by false other = kept_by_command session (command_in line) other

-- ---- what `ok` answers

-- no reason and in range
pub record IsFree (refused : Option EditRefusal) (fits : Bool) : Type 0 where
  pub unrefused : refused ≡ None
  pub fit : fits ≡ true

free : (refused : Option EditRefusal) (fits : Bool) → reply_by refused fits ≡ Accepted → IsFree refused fits
free (Some reason) fits e = absurd cc
free None false e = absurd cc
free None true e = record { unrefused = refl; fit = refl }

accepted_command : (session : SessionValue) (line : List ℕ) (command : Option Command) → command_in line ≡ command
    → after_line session line ≡ after_command session command → reply_to_command session command ≡ Accepted → Accepts session line
accepted_command session line None is after e = absurd cc
accepted_command session line (Some Show) is after e = absurd cc
accepted_command session line (Some (Change edit)) is after e =
    let open_ : IsFree (refusal_of session.tree edit) (is_edited_in_range session edit) = free _ _ e in
    record {
      edit = edit;
      asked = is;
      unrefused = open_.unrefused;
      fit = open_.fit;
      edited = after ∙ ap (λ reply. after_reply reply session edit) e;
    }

pub accepted : AcceptedLaw
unfolding reply_to after_line
accepted session line e = by (is_white_space line) refl e
  where
    by : (white : Bool) → is_white_space line ≡ white → (if white then Nothing else reply_to_command session (command_in line)) ≡ Accepted
        → Accepts session line
    by true is e = absurd cc
    by false is e =
        accepted_command session line (command_in line) refl
        (ap (λ (white : Bool). if white then session else after_command session (command_in line)) is) e

-- ---- one line after another

pub one_by_one : RepliesLaw
one_by_one session [] line behind = refl
one_by_one session (first ∷ before) line behind =
    ap (λ text. told_of session first ++ text) (one_by_one (after_line session first) before line behind)
    ∙ sym (append_assoc (told_of session first) (replies (after_line session first) before ++ told_of (after_lines (after_line session first) before) line) _)
    ∙ ap (λ text. text ++ replies (after_line (after_lines (after_line session first) before) line) behind)
    (sym (append_assoc (told_of session first) (replies (after_line session first) before) (told_of (after_lines (after_line session first) before) line)))

-- ---- edits that are drawn from a seed

counted_by : (refused : Option EditRefusal) (fits : Bool) → ((is_none refused && fits) ≡ true) ↔ (reply_by refused fits ≡ Accepted)
counted_by (Some reason) fits = (λ e. absurd cc, λ e. absurd cc)
counted_by None false = (λ e. absurd cc, λ e. absurd cc)
counted_by None true = (λ e. refl, λ e. refl)

after_by : (refused : Option EditRefusal) (fits : Bool) (session : SessionValue) (edit : Edit)
    → (if is_none refused && fits then edited_session session edit else session) ≡ after_reply (reply_by refused fits) session edit
after_by (Some reason) fits session edit = refl
after_by None false session edit = refl
after_by None true session edit = refl

pub counts_as_replied : CountedLaw
unfolding is_accepted
counts_as_replied session edit = record {
  counted = counted_by (refusal_of session.tree edit) (is_edited_in_range session edit);
  after = after_by (refusal_of session.tree edit) (is_edited_in_range session edit) session edit;
}
