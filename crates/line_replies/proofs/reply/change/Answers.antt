use Rattle.std.proofs.Common.{◌≡◌, subst, sym}
use Rattle.tree_edits.specs.Edits.{refusal_of}
use Rattle.edit_session.specs.Session.{IsCause}
use Rattle.line_replies.specs.Replies.{after_reply}
use Rattle.line_replies.specs.declared.reply.Reply.{Reply}
use Rattle.line_replies.proofs.EditSteps.{for_edit}
use Rattle.line_replies.proofs.Lines.{accepted_reply, reason_reply, range_reply}
use Rattle.line_replies.proofs.reply.change.Goals as goal

pub returns-in-Ok-clause-reply : goal.returns-in-Ok-clause-reply
returns-in-Ok-clause-reply g c = sym (accepted_reply c.args.session.now.held c.args.edit c.edit.new.self.held c.in-Ok.ensures.accepted c.in-Ok.ensures.edited c.in-Ok.ensures.fit)

pub returns-in-Ok-clause-session : goal.returns-in-Ok-clause-session
returns-in-Ok-clause-session g c =
    subst (λ (reply : Reply). c.edit.new.self.held ≡ after_reply reply c.args.session.now.held c.args.edit) (returns-in-Ok-clause-reply g c) c.in-Ok.ensures.edited

pub returns-in-Err-Edit-clause-reply : goal.returns-in-Err-Edit-clause-reply
returns-in-Err-Edit-clause-reply g c =
    let cause = subst (IsCause c.args.session.now.held c.args.edit) c.in-Err-Edit.field-0-is c.in-Err-Edit.ensures.refused in
    sym (reason_reply c.args.session.now.held c.args.edit c.in-Err-Edit.reason cause.0)

pub returns-in-Err-Edit-clause-session : goal.returns-in-Err-Edit-clause-session
returns-in-Err-Edit-clause-session g c =
    subst (λ (reply : Reply). c.edit.new.self.held ≡ after_reply reply c.args.session.now.held c.args.edit) (returns-in-Err-Edit-clause-reply g c) c.in-Err-Edit.ensures.held

pub returns-in-Err-Range-clause-reply : goal.returns-in-Err-Range-clause-reply
returns-in-Err-Range-clause-reply g c =
    let cause = subst (IsCause c.args.session.now.held c.args.edit) c.in-Err-Range.field-0-is c.in-Err-Range.ensures.refused in
    sym (range_reply c.args.session.now.held c.args.edit cause.0 cause.1)

pub returns-in-Err-Range-clause-session : goal.returns-in-Err-Range-clause-session
returns-in-Err-Range-clause-session g c =
    subst (λ (reply : Reply). c.edit.new.self.held ≡ after_reply reply c.args.session.now.held c.args.edit) (returns-in-Err-Range-clause-reply g c) c.in-Err-Range.ensures.held

pub returns-in-Err-Memory-clause-unchanged : goal.returns-in-Err-Memory-clause-unchanged
returns-in-Err-Memory-clause-unchanged g c = c.in-Err-Memory.ensures.held

pub returns-in-Ok-clause-taken : goal.returns-in-Ok-clause-taken
returns-in-Ok-clause-taken g c = for_edit c.args.session.now.held c.args.edit (refusal_of c.args.session.now.held.tree c.args.edit) c.args.steps.now c.edit.new.steps c.edit.ensures.unlaid c.edit.ensures.steps

pub returns-in-Err-Edit-clause-taken : goal.returns-in-Err-Edit-clause-taken
returns-in-Err-Edit-clause-taken g c = for_edit c.args.session.now.held c.args.edit (refusal_of c.args.session.now.held.tree c.args.edit) c.args.steps.now c.edit.new.steps c.edit.ensures.unlaid c.edit.ensures.steps

pub returns-in-Err-Range-clause-taken : goal.returns-in-Err-Range-clause-taken
returns-in-Err-Range-clause-taken g c = for_edit c.args.session.now.held c.args.edit (refusal_of c.args.session.now.held.tree c.args.edit) c.args.steps.now c.edit.new.steps c.edit.ensures.unlaid c.edit.ensures.steps

pub returns-in-Err-Memory-clause-taken : goal.returns-in-Err-Memory-clause-taken
returns-in-Err-Memory-clause-taken g c = for_edit c.args.session.now.held c.args.edit (refusal_of c.args.session.now.held.tree c.args.edit) c.args.steps.now c.edit.new.steps c.edit.ensures.unlaid c.edit.ensures.steps
