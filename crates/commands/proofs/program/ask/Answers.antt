use Rattle.std.proofs.Common.{sym, Err}
use Rattle.commands.proofs.Answering.{asked_over, not_asked}
use Rattle.commands.proofs.program.ask.Goals as goal

pub returns-in-Ok-clause-written : goal.returns-in-Ok-clause-written
returns-in-Ok-clause-written g c = record {
  result = c.ask_session-status.ensures.written.result;
  gives = asked_over _ _ _ _ _ c.in-Ok.ensures.session c.ask_session-status.ensures.written.gives;
  delivers = c.ask_session-status.ensures.written.delivers;
}

pub returns-in-Err-clause-written : goal.returns-in-Err-clause-written
returns-in-Err-clause-written g c = record {
  result = Err c.in-Err.refusal;
  gives = not_asked _ _ _ _ c.in-Err.ensures.refused;
  delivers = c.tell.ensures;
}
