use Rattle.line_replies.specs.HistorySteps.{ring_of}
use Rattle.embed.proofs.Stepping.{line_done, line_fits}
use Rattle.embed.proofs.desk.Desk.line_counted.Goals as goal

pub invariant_of-self-2 : goal.invariant_of-self-2
invariant_of-self-2 g c =
    rw (c.replace.ensures.after, c.take.ensures.after)
    (line_fits (ring_of c.self.inside.ring) (ring_of c.reply_to.new.ring) c.args.line.now c.in_ok-reply.reply c.self.inside.reply c.in_ok-reply.ensures.made, tt)

pub returns-clause-taken : goal.returns-clause-taken
returns-clause-taken g c =
    rw (c.replace.ensures.after, ← c.self.view_is) (line_done (ring_of c.self.inside.ring) (ring_of c.reply_to.new.ring) c.args.line.now c.in_ok-reply.reply c.self.inside.reply c.in_ok-reply.ensures.made)
