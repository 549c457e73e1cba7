use Rattle.std.proofs.Common.{◌≡◌, ◌∙◌, ap, refl, subst, sym, IfOk, OnOk, Some}
use Rattle.tree_edits.specs.Commands.{IsProperCommand}
use Rattle.tree_edits.specs.declared.command.Command.{Command}
use Rattle.tree_edits.specs.declared.command.Command.TheVariants.{Show, Change}
use Rattle.line_replies.specs.EditSteps.{TakesForEdit, accepted_by}
use Rattle.line_replies.specs.Replies.{after_command, reply_to_command}
use Rattle.line_replies.specs.declared.reply.Reply.TheVariants.{Shown}
use Rattle.line_replies.proofs.EditSteps.{none_for_edit}
use Rattle.line_replies.proofs.reply.carry_out.Goals as goal

pub returns-in_err-show-in-Show-clause-taken : goal.returns-in_err-show-in-Show-clause-taken
returns-in_err-show-in-Show-clause-taken g c = none_for_edit c.args.session.now.held (accepted_by c.args.session.now.held (Some c.args.command)) _ _ refl

pub change-requires : goal.change-requires
change-requires g c =
    let is : c.args.command ≡ Change c.in-Change.edit = c.in-Change.is in
    subst IsProperCommand is c.requires

pub returns-in_ok-show-in-Show-clause-reply : goal.returns-in_ok-show-in-Show-clause-reply
returns-in_ok-show-in-Show-clause-reply g c =
    let is : c.args.command ≡ Show = c.in-Show.is in
    ap Shown c.in_ok-show-in-Show.ensures.page ∙ ap (λ (command : Command). reply_to_command c.args.session.now.held (Some command)) (sym is)

pub returns-in_ok-show-in-Show-clause-glyphs : goal.returns-in_ok-show-in-Show-clause-glyphs
returns-in_ok-show-in-Show-clause-glyphs g c = c.in_ok-show-in-Show.ensures.glyphs

pub returns-in_ok-show-in-Show-clause-session : goal.returns-in_ok-show-in-Show-clause-session
returns-in_ok-show-in-Show-clause-session g c =
    let is : c.args.command ≡ Show = c.in-Show.is in
    c.show.ensures.held ∙ ap (λ (command : Command). after_command c.args.session.now.held (Some command)) (sym is)

pub returns-in_ok-show-in-Show-clause-taken : goal.returns-in_ok-show-in-Show-clause-taken
returns-in_ok-show-in-Show-clause-taken g c = none_for_edit c.args.session.now.held (accepted_by c.args.session.now.held (Some c.args.command)) _ _ refl

pub returns-in-Change-clause-reply : goal.returns-in-Change-clause-reply
returns-in-Change-clause-reply g c =
    let is : c.args.command ≡ Change c.in-Change.edit = c.in-Change.is in
    subst (λ (command : Command). IfOk c.change.result (λ reply. reply ≡ reply_to_command c.args.session.now.held (Some command))) (sym is) c.change.ensures.reply

pub returns-in-Change-clause-session : goal.returns-in-Change-clause-session
returns-in-Change-clause-session g c =
    let is : c.args.command ≡ Change c.in-Change.edit = c.in-Change.is in
    subst (λ (command : Command). OnOk c.change.result (c.change.new.session.held ≡ after_command c.args.session.now.held (Some command))) (sym is) c.change.ensures.session

pub returns-in-Change-clause-taken : goal.returns-in-Change-clause-taken
returns-in-Change-clause-taken g c =
    let is : c.args.command ≡ Change c.in-Change.edit = c.in-Change.is in
    subst (λ (command : Command). TakesForEdit c.args.session.now.held (accepted_by c.args.session.now.held (Some command)) c.args.steps.now c.change.new.steps) (sym is) c.change.ensures.taken
