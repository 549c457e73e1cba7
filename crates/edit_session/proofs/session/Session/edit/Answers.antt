use Rattle.edit_session.specs.Session.{IsCause}
use Rattle.edit_session.specs.Sweeping.{IsLeft}
use Rattle.edit_session.proofs.Refused.{on_err, refused_so}
use Rattle.edit_session.proofs.session.Session.edit.Goals as goal

pub returns-in_err-edit_back-clause-refused : goal.returns-in_err-edit_back-clause-refused
returns-in_err-edit_back-clause-refused g c = refused_so c.from_residual.result (IsCause c.args.self.now.held c.args.edit) c.in_err-edit_back.field-0.0 c.from_residual.ensures.1 c.in_err-edit_back.ensures.refused

pub returns-in_err-edit_back-clause-held : goal.returns-in_err-edit_back-clause-held
returns-in_err-edit_back-clause-held g c = on_err c.from_residual.result c.in_err-edit_back.ensures.held

pub returns-in_err-edit_back-clause-left : goal.returns-in_err-edit_back-clause-left
returns-in_err-edit_back-clause-left g c = refused_so c.from_residual.result (λ refusal. IsLeft c.args.self.now refusal c.edit_back.new.self) c.in_err-edit_back.field-0.0 c.from_residual.ensures.1 c.in_err-edit_back.ensures.left

pub returns-in_err-edit_back-clause-few : goal.returns-in_err-edit_back-clause-few
returns-in_err-edit_back-clause-few g c = c.edit_back.ensures.few

pub returns-in_err-edit_back-clause-unlaid : goal.returns-in_err-edit_back-clause-unlaid
returns-in_err-edit_back-clause-unlaid g c = c.edit_back.ensures.unlaid

pub returns-in_err-edit_back-clause-steps : goal.returns-in_err-edit_back-clause-steps
returns-in_err-edit_back-clause-steps g c = c.edit_back.ensures.steps

pub returns-clause-accepted : goal.returns-clause-accepted
returns-clause-accepted g c = c.in_ok-edit_back.ensures.accepted

pub returns-clause-edited : goal.returns-clause-edited
returns-clause-edited g c = c.in_ok-edit_back.ensures.edited

pub returns-clause-fit : goal.returns-clause-fit
returns-clause-fit g c = c.in_ok-edit_back.ensures.fit

pub returns-clause-done : goal.returns-clause-done
returns-clause-done g c = c.in_ok-edit_back.ensures.done

pub returns-clause-runs : goal.returns-clause-runs
returns-clause-runs g c = c.in_ok-edit_back.ensures.runs

pub returns-clause-few : goal.returns-clause-few
returns-clause-few g c = c.in_ok-edit_back.ensures.few

pub returns-clause-cells : goal.returns-clause-cells
returns-clause-cells g c = c.in_ok-edit_back.ensures.cells

pub returns-clause-unlaid : goal.returns-clause-unlaid
returns-clause-unlaid g c = c.in_ok-edit_back.ensures.unlaid

pub returns-clause-steps : goal.returns-clause-steps
returns-clause-steps g c = c.in_ok-edit_back.ensures.steps
