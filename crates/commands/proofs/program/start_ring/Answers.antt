use Rattle.std.proofs.Common.{ap, inl, refl}
use Rattle.line_replies.specs.HistorySteps.{ring_of}
use Rattle.commands.proofs.program.start_ring.Goals as goal

pub returns-in-Ok-clause-ring : goal.returns-in-Ok-clause-ring
returns-in-Ok-clause-ring g c = (c.in_ok-session.session.held, c.in_ok-session.ensures.session, ap ring_of c.in-Ok.ensures)

pub returns-in-Err-clause-refused : goal.returns-in-Err-clause-refused
returns-in-Err-clause-refused g c = inl refl
