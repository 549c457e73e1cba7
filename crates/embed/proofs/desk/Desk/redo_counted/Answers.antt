use Rattle.line_replies.specs.HistorySteps.{ring_of}
use Rattle.embed.proofs.Stepping.{still_kept, redo_done, redo_kept, redo_metrics, redo_none, redo_some}
use Rattle.embed.proofs.desk.Desk.redo_counted.Goals as goal

pub invariant_of-self : goal.invariant_of-self
invariant_of-self g c =
    let before = ring_of c.self.inside.ring in let after = ring_of c.redo.new.self in let reply = c.self.inside.reply in
    still_kept before after reply c.self.inside.text (redo_metrics before after _ _ reply c.redo.result c.redo.ensures) c.self.invariant

pub returns-clause-redone : goal.returns-clause-redone
returns-clause-redone g c =
    rw (← c.self.view_is) (redo_done (ring_of c.self.inside.ring) (ring_of c.redo.new.self) _ _ c.self.inside.reply c.redo.result c.redo.ensures)

pub returns-clause-nothing : goal.returns-clause-nothing
returns-clause-nothing g c =
    rw (← c.self.view_is) (redo_none (ring_of c.self.inside.ring) (ring_of c.redo.new.self) _ _ c.self.inside.reply c.redo.result c.redo.ensures)

pub returns-clause-memory : goal.returns-clause-memory
returns-clause-memory g c =
    rw (← c.self.view_is) (redo_some (ring_of c.self.inside.ring) (ring_of c.redo.new.self) _ _ c.self.inside.reply c.redo.result c.redo.ensures)

pub returns-clause-unchanged : goal.returns-clause-unchanged
returns-clause-unchanged g c =
    rw (← c.self.view_is) (redo_kept (ring_of c.self.inside.ring) (ring_of c.redo.new.self) _ _ c.self.inside.reply c.redo.result c.redo.ensures)
