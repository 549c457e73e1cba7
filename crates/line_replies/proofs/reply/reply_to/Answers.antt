use Rattle.std.proofs.Common.{◌≡◌, ◌∙◌, refl, subst, sym, true, false, Err, IfOk, None, OnOk, Option, Some}
use Rattle.math_tree.specs.Forms.{is_white_space}
use Rattle.tree_edits.specs.Commands.{Gives, command_in}
use Rattle.tree_edits.specs.declared.command.CommandRefusal.{CommandRefusal}
use Rattle.tree_edits.specs.declared.edit.Edit.{Edit}
use Rattle.edit_session.specs.Session.{SessionValue}
use Rattle.line_replies.specs.EditSteps.{TakesForEdit}
use Rattle.line_replies.specs.declared.reply.Reply.{Reply}
use Rattle.line_replies.proofs.EditSteps.{none_for_line}
use Rattle.line_replies.proofs.Lines.{accepted_in_black, after_black, after_white, reply_to_black, reply_to_white}
use Rattle.line_replies.proofs.reply.reply_to.Goals as goal

pub returns-then-is_white_space-clause-reply : goal.returns-then-is_white_space-clause-reply
returns-then-is_white_space-clause-reply g c =
    let white : is_white_space c.args.line.now ≡ true = sym c.is_white_space.ensures ∙ c.if-is_white_space.true in
    sym (reply_to_white c.args.session.now.held c.args.line.now white)

pub returns-then-is_white_space-clause-session : goal.returns-then-is_white_space-clause-session
returns-then-is_white_space-clause-session g c =
    let white : is_white_space c.args.line.now ≡ true = sym c.is_white_space.ensures ∙ c.if-is_white_space.true in
    sym (after_white c.args.session.now.held c.args.line.now white)

pub returns-then-is_white_space-clause-taken : goal.returns-then-is_white_space-clause-taken
returns-then-is_white_space-clause-taken g c = none_for_line c.args.session.now.held c.args.line.now _ _ refl

pub carry_out-requires : goal.carry_out-requires
carry_out-requires g c = c.in-Ok.ensures.proper

pub returns-in-Ok-clause-reply : goal.returns-in-Ok-clause-reply
returns-in-Ok-clause-reply g c =
    let black : is_white_space c.args.line.now ≡ false = sym c.is_white_space.ensures ∙ c.if-is_white_space.false in
    subst (λ (told : Reply). IfOk c.carry_out.result (λ reply. reply ≡ told)) (sym (reply_to_black c.args.session.now.held c.args.line.now (Some c.in-Ok.command) black c.in-Ok.ensures.reads)) c.carry_out.ensures.reply

pub returns-in-Ok-clause-glyphs : goal.returns-in-Ok-clause-glyphs
returns-in-Ok-clause-glyphs g c = c.carry_out.ensures.glyphs

pub returns-in-Ok-clause-session : goal.returns-in-Ok-clause-session
returns-in-Ok-clause-session g c =
    let black : is_white_space c.args.line.now ≡ false = sym c.is_white_space.ensures ∙ c.if-is_white_space.false in
    subst (λ (after : SessionValue). OnOk c.carry_out.result (c.carry_out.new.session.held ≡ after)) (sym (after_black c.args.session.now.held c.args.line.now (Some c.in-Ok.command) black c.in-Ok.ensures.reads)) c.carry_out.ensures.session

pub returns-in-Ok-clause-unchanged : goal.returns-in-Ok-clause-unchanged
returns-in-Ok-clause-unchanged g c = c.carry_out.ensures.unchanged

pub returns-in-Ok-clause-taken : goal.returns-in-Ok-clause-taken
returns-in-Ok-clause-taken g c =
    let black : is_white_space c.args.line.now ≡ false = sym c.is_white_space.ensures ∙ c.if-is_white_space.false in
    subst (λ (edit : Option Edit). TakesForEdit c.args.session.now.held edit c.args.steps.now c.carry_out.new.steps) (sym (accepted_in_black c.args.session.now.held c.args.line.now (Some c.in-Ok.command) black c.in-Ok.ensures.reads)) c.carry_out.ensures.taken

pub returns-in-Err-BadLine-clause-reply : goal.returns-in-Err-BadLine-clause-reply
returns-in-Err-BadLine-clause-reply g c =
    let black : is_white_space c.args.line.now ≡ false = sym c.is_white_space.ensures ∙ c.if-is_white_space.false in
    let reads : command_in c.args.line.now ≡ None =
    subst (λ (r : CommandRefusal). Gives (command_in c.args.line.now) (Err r)) c.in-Err-BadLine.field-0-is c.in-Err-BadLine.ensures.reads in
    sym (reply_to_black c.args.session.now.held c.args.line.now None black reads)

pub returns-in-Err-BadLine-clause-session : goal.returns-in-Err-BadLine-clause-session
returns-in-Err-BadLine-clause-session g c =
    let black : is_white_space c.args.line.now ≡ false = sym c.is_white_space.ensures ∙ c.if-is_white_space.false in
    let reads : command_in c.args.line.now ≡ None =
    subst (λ (r : CommandRefusal). Gives (command_in c.args.line.now) (Err r)) c.in-Err-BadLine.field-0-is c.in-Err-BadLine.ensures.reads in
    sym (after_black c.args.session.now.held c.args.line.now None black reads)

pub returns-in-Err-BadLine-clause-taken : goal.returns-in-Err-BadLine-clause-taken
returns-in-Err-BadLine-clause-taken g c = none_for_line c.args.session.now.held c.args.line.now _ _ refl

pub returns-in-Err-Memory-clause-unchanged : goal.returns-in-Err-Memory-clause-unchanged
returns-in-Err-Memory-clause-unchanged g c = refl

pub returns-in-Err-Memory-clause-taken : goal.returns-in-Err-Memory-clause-taken
returns-in-Err-Memory-clause-taken g c = none_for_line c.args.session.now.held c.args.line.now _ _ refl
