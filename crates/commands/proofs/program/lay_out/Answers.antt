use Rattle.std.proofs.Common.{inr, sym, Err}
use Rattle.commands.proofs.Answering.{laid_out_of, not_laid_out}
use Rattle.commands.proofs.program.lay_out.Goals as goal

pub returns-in-Ok-clause-written : goal.returns-in-Ok-clause-written
returns-in-Ok-clause-written g c = record {
  result = c.show-status.ensures.written.result;
  gives = laid_out_of _ _ _ _ (inr (sym c.in-Ok.ensures.session)) c.show-status.ensures.written.gives;
  delivers = c.show-status.ensures.written.delivers;
}

pub returns-in-Err-clause-written : goal.returns-in-Err-clause-written
returns-in-Err-clause-written g c = record {
  result = Err c.in-Err.refusal;
  gives = not_laid_out _ _ _ c.in-Err.ensures.refused;
  delivers = c.tell.ensures;
}
