use Rattle.line_replies.specs.HistorySteps.{ring_of}
use Rattle.embed.proofs.Stepping.{still_kept, undo_done, undo_kept, undo_metrics, undo_none, undo_some}
use Rattle.embed.proofs.desk.Desk.undo_counted.Goals as goal

pub invariant_of-self : goal.invariant_of-self
invariant_of-self g c =
    let before = ring_of c.self.inside.ring in let after = ring_of c.undo.new.self in let reply = c.self.inside.reply in
    still_kept before after reply c.self.inside.text (undo_metrics before after _ _ reply c.undo.result c.undo.ensures) c.self.invariant

pub returns-clause-undone : goal.returns-clause-undone
returns-clause-undone g c =
    rw (← c.self.view_is) (undo_done (ring_of c.self.inside.ring) (ring_of c.undo.new.self) _ _ c.self.inside.reply c.undo.result c.undo.ensures)

pub returns-clause-nothing : goal.returns-clause-nothing
returns-clause-nothing g c =
    rw (← c.self.view_is) (undo_none (ring_of c.self.inside.ring) (ring_of c.undo.new.self) _ _ c.self.inside.reply c.undo.result c.undo.ensures)

pub returns-clause-memory : goal.returns-clause-memory
returns-clause-memory g c =
    rw (← c.self.view_is) (undo_some (ring_of c.self.inside.ring) (ring_of c.undo.new.self) _ _ c.self.inside.reply c.undo.result c.undo.ensures)

pub returns-clause-unchanged : goal.returns-clause-unchanged
returns-clause-unchanged g c =
    rw (← c.self.view_is) (undo_kept (ring_of c.self.inside.ring) (ring_of c.undo.new.self) _ _ c.self.inside.reply c.undo.result c.undo.ensures)
