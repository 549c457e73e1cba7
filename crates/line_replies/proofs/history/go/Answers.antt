use Rattle.std.proofs.Common.{◌≡◌, ◌∙◌, refl, sym, None}
use Rattle.command_reader.specs.Moves.{move_in}
use Rattle.command_reader.specs.declared.moves.Move.TheVariants.{Undo, Redo, Other}
use Rattle.line_replies.specs.HistorySteps.{ring_of}
use Rattle.line_replies.proofs.Histories.{none_for_move, nothing_asked, way_makes, way_takes}
use Rattle.line_replies.proofs.history.go.Goals as goal

pub returns-in-Ok-Undo-clause-made : goal.returns-in-Ok-Undo-clause-made
returns-in-Ok-Undo-clause-made g c =
    let way : Undo ≡ move_in c.args.line.now = sym c.in-Ok-Undo.field-0-is ∙ c.in-Ok-Undo.ensures in
    way_makes (ring_of c.args.ring.now) (ring_of c.undo.new.ring) c.undo.result Undo _ way c.undo.ensures.made

pub returns-in-Ok-Undo-clause-taken : goal.returns-in-Ok-Undo-clause-taken
returns-in-Ok-Undo-clause-taken g c =
    let way : Undo ≡ move_in c.args.line.now = sym c.in-Ok-Undo.field-0-is ∙ c.in-Ok-Undo.ensures in
    way_takes (ring_of c.args.ring.now) Undo _ c.args.steps.now c.undo.new.steps way c.undo.ensures.taken

pub returns-in-Ok-Redo-clause-made : goal.returns-in-Ok-Redo-clause-made
returns-in-Ok-Redo-clause-made g c =
    let way : Redo ≡ move_in c.args.line.now = sym c.in-Ok-Redo.field-0-is ∙ c.in-Ok-Redo.ensures in
    way_makes (ring_of c.args.ring.now) (ring_of c.redo.new.ring) c.redo.result Redo _ way c.redo.ensures.made

pub returns-in-Ok-Redo-clause-taken : goal.returns-in-Ok-Redo-clause-taken
returns-in-Ok-Redo-clause-taken g c =
    let way : Redo ≡ move_in c.args.line.now = sym c.in-Ok-Redo.field-0-is ∙ c.in-Ok-Redo.ensures in
    way_takes (ring_of c.args.ring.now) Redo _ c.args.steps.now c.redo.new.steps way c.redo.ensures.taken

pub returns-in-Ok-Other-clause-made : goal.returns-in-Ok-Other-clause-made
returns-in-Ok-Other-clause-made g c =
    let way : Other ≡ move_in c.args.line.now = sym c.in-Ok-Other.field-0-is ∙ c.in-Ok-Other.ensures in
    way_makes (ring_of c.args.ring.now) (ring_of c.args.ring.now) _ Other _ way (nothing_asked (ring_of c.args.ring.now))

pub returns-in-Ok-Other-clause-taken : goal.returns-in-Ok-Other-clause-taken
returns-in-Ok-Other-clause-taken g c = none_for_move _ (ring_of c.args.ring.now) None _ _ refl

pub returns-in-Err-clause-taken : goal.returns-in-Err-clause-taken
returns-in-Err-clause-taken g c = none_for_move _ (ring_of c.args.ring.now) None _ _ refl
