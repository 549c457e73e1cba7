use Rattle.line_replies.specs.HistorySteps.{ring_of}
use Rattle.embed.proofs.Stepping.{show_done, show_fits}
use Rattle.embed.proofs.desk.Desk.show.Goals as goal

pub invariant_of-self-2 : goal.invariant_of-self-2
invariant_of-self-2 c =
    (show_fits (ring_of c.self.inside.ring) (ring_of c.show.new.ring) c.in_ok-reply.reply c.self.inside.reply c.in_ok-reply.ensures, tt)

pub returns-clause-shown : goal.returns-clause-shown
returns-clause-shown c =
    rw (← c.self.view_is) (show_done (ring_of c.self.inside.ring) (ring_of c.show.new.ring) c.in_ok-reply.reply c.self.inside.reply c.in_ok-reply.ensures)
