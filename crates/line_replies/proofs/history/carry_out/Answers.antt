use Rattle.std.proofs.Common.{◌≡◌, refl, subst, sym, Some}
use Rattle.tree_edits.specs.Commands.{IsProperCommand}
use Rattle.tree_edits.specs.declared.command.Command.{Command}
use Rattle.tree_edits.specs.declared.command.Command.TheVariants.{Show, Change}
use Rattle.command_reader.specs.declared.moves.Move.TheVariants.{Other}
use Rattle.line_replies.specs.EditSteps.{accepted_by}
use Rattle.line_replies.specs.History.{reply_by_move}
use Rattle.line_replies.specs.HistoryParts.{Makes, kept_after_move}
use Rattle.line_replies.specs.HistorySteps.{TakesForMove, kept_by, ring_of, session_under}
use Rattle.line_replies.proofs.EditSteps.{none_for_edit}
use Rattle.line_replies.proofs.history.carry_out.Goals as goal

pub change-requires : goal.change-requires
change-requires g c =
    let is : c.args.command ≡ Change c.in-Change.edit = c.in-Change.is in
    subst IsProperCommand is c.requires

pub returns-in-Show-clause-made : goal.returns-in-Show-clause-made
returns-in-Show-clause-made g c =
    let is : c.args.command ≡ Show = c.in-Show.is in
    let kept = kept_by (ring_of c.args.ring.now) in
    subst (λ (command : Command). Makes (reply_by_move Other kept.history (Some command)) (kept_after_move Other kept (Some command)) (ring_of c.args.ring.now) (ring_of c.show.new.ring) c.show.result)
    (sym is) c.show.ensures

pub returns-in-Show-clause-taken : goal.returns-in-Show-clause-taken
returns-in-Show-clause-taken g c =
    let session = session_under (ring_of c.args.ring.now) in
    none_for_edit session (accepted_by session (Some c.args.command)) _ _ refl

pub returns-in-Change-clause-made : goal.returns-in-Change-clause-made
returns-in-Change-clause-made g c =
    let is : c.args.command ≡ Change c.in-Change.edit = c.in-Change.is in
    let kept = kept_by (ring_of c.args.ring.now) in
    subst (λ (command : Command). Makes (reply_by_move Other kept.history (Some command)) (kept_after_move Other kept (Some command)) (ring_of c.args.ring.now) (ring_of c.change.new.ring) c.change.result)
    (sym is) c.change.ensures.made

pub returns-in-Change-clause-taken : goal.returns-in-Change-clause-taken
returns-in-Change-clause-taken g c =
    let is : c.args.command ≡ Change c.in-Change.edit = c.in-Change.is in
    subst (λ (command : Command). TakesForMove Other (ring_of c.args.ring.now) (Some command) c.args.steps.now c.change.new.steps) (sym is) c.change.ensures.taken
