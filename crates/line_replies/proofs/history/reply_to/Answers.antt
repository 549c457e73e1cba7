use Rattle.std.proofs.Common.{◌≡◌, ◌∙◌, refl, subst, sym, true, false, None, Err}
use Rattle.math_tree.specs.Forms.{is_white_space}
use Rattle.tree_edits.specs.Commands.{Gives, command_in}
use Rattle.tree_edits.specs.declared.command.CommandRefusal.{CommandRefusal}
use Rattle.line_replies.specs.HistorySteps.{ring_of}
use Rattle.line_replies.proofs.Histories.{command_makes, command_takes, no_steps, nothing_made, step_makes, step_takes}
use Rattle.line_replies.proofs.history.reply_to.Goals as goal

pub returns-then-is_white_space-clause-made : goal.returns-then-is_white_space-clause-made
returns-then-is_white_space-clause-made g c =
    let white : is_white_space c.args.line.now ≡ true = sym c.is_white_space.ensures ∙ c.if-is_white_space.true in
    nothing_made (ring_of c.args.ring.now) c.args.line.now white

pub returns-then-is_white_space-clause-taken : goal.returns-then-is_white_space-clause-taken
returns-then-is_white_space-clause-taken g c = no_steps (ring_of c.args.ring.now) c.args.line.now _ _ refl

pub returns-in-Ok-clause-made : goal.returns-in-Ok-clause-made
returns-in-Ok-clause-made g c =
    let black : is_white_space c.args.line.now ≡ false = sym c.is_white_space.ensures ∙ c.if-is_white_space.false in
    command_makes (ring_of c.args.ring.now) (ring_of c.carry_out.new.ring) c.args.line.now _ black c.in-Ok.command c.in-Ok.ensures.reads c.carry_out.ensures.made

pub returns-in-Ok-clause-taken : goal.returns-in-Ok-clause-taken
returns-in-Ok-clause-taken g c =
    let black : is_white_space c.args.line.now ≡ false = sym c.is_white_space.ensures ∙ c.if-is_white_space.false in
    command_takes (ring_of c.args.ring.now) c.args.line.now c.in-Ok.command _ _ black c.in-Ok.ensures.reads c.carry_out.ensures.taken

pub returns-in-Err-BadLine-clause-made : goal.returns-in-Err-BadLine-clause-made
returns-in-Err-BadLine-clause-made g c =
    let black : is_white_space c.args.line.now ≡ false = sym c.is_white_space.ensures ∙ c.if-is_white_space.false in
    let reads : command_in c.args.line.now ≡ None =
    subst (λ (r : CommandRefusal). Gives (command_in c.args.line.now) (Err r)) c.in-Err-BadLine.field-0-is c.in-Err-BadLine.ensures.reads in
    step_makes (ring_of c.args.ring.now) (ring_of c.go.new.ring) c.args.line.now _ black reads c.go.ensures.made

pub returns-in-Err-BadLine-clause-taken : goal.returns-in-Err-BadLine-clause-taken
returns-in-Err-BadLine-clause-taken g c =
    let black : is_white_space c.args.line.now ≡ false = sym c.is_white_space.ensures ∙ c.if-is_white_space.false in
    let reads : command_in c.args.line.now ≡ None =
    subst (λ (r : CommandRefusal). Gives (command_in c.args.line.now) (Err r)) c.in-Err-BadLine.field-0-is c.in-Err-BadLine.ensures.reads in
    step_takes (ring_of c.args.ring.now) c.args.line.now _ _ black reads c.go.ensures.taken

pub returns-in-Err-Memory-clause-taken : goal.returns-in-Err-Memory-clause-taken
returns-in-Err-Memory-clause-taken g c = no_steps (ring_of c.args.ring.now) c.args.line.now _ _ refl
