use Rattle.std.proofs.Common.{◌≡◌, ◌≢◌, inr, refl, ap, arith, [], None, IfErr, IfOk, OnErr, OnOk, subst}
use Rattle.std.proofs.lemmas.Result.{on_err_weaker, on_ok_weaker}
use Rattle.tree_edits.specs.Edits.{refusal_of}
use Rattle.tree_edits.specs.Inverses.{edit_of, inverse}
use Rattle.memo_tree.specs.Kept.{TakesNeeded}
use Rattle.edit_session.specs.Session.{IsCause, KeptSession, SessionValue, edited_session}
use Rattle.edit_session.proofs.Finding.{done_from, runs_stay}
use Rattle.edit_session.proofs.Refused.{left_as_found}
use Rattle.edit_session.proofs.session.Session.carry_out.Goals as goal

pub returns-in-Ok-clause-done : goal.returns-in-Ok-clause-done
returns-in-Ok-clause-done g c =
    let done = c.edit_found.ensures in
    done_from c.edit_found.result c.args.self.now c.sweep_if_due.new.self c.edit_found.new.self c.args.edit c.args.steps.now c.edit_found.new.steps
    c.in-Ok.ensures.found done.stays done.grown done.runs done.noted

pub returns-in-Ok-clause-runs : goal.returns-in-Ok-clause-runs
returns-in-Ok-clause-runs g c =
    on_ok_weaker c.edit_found.result (runs_stay c.args.self.now c.sweep_if_due.new.self c.edit_found.new.self c.args.edit c.in-Ok.ensures.found) c.edit_found.ensures.stays

pub edit_found-requires-clause-few : goal.edit_found-requires-clause-few
edit_found-requires-clause-few g c = c.in-Ok.ensures.few

pub edit_found-requires-clause-cells : goal.edit_found-requires-clause-cells
edit_found-requires-clause-cells g c = c.in-Ok.ensures.cells

pub returns-in-Ok-clause-accepted : goal.returns-in-Ok-clause-accepted
returns-in-Ok-clause-accepted g c =
    subst (λ (h : SessionValue). OnOk c.edit_found.result (refusal_of h.tree c.args.edit ≡ None)) c.in-Ok.ensures.held c.edit_found.ensures.accepted

pub returns-in-Ok-clause-edited : goal.returns-in-Ok-clause-edited
returns-in-Ok-clause-edited g c =
    subst (λ (h : SessionValue). OnOk c.edit_found.result (c.edit_found.new.self.held ≡ edited_session h c.args.edit)) c.in-Ok.ensures.held c.edit_found.ensures.edited

pub returns-in-Ok-clause-fit : goal.returns-in-Ok-clause-fit
returns-in-Ok-clause-fit g c = c.edit_found.ensures.fit

pub returns-in-Ok-clause-back : goal.returns-in-Ok-clause-back
returns-in-Ok-clause-back g c =
    subst (λ (h : SessionValue). IfOk c.edit_found.result (λ reversal. edit_of reversal.taken ≡ inverse h.tree c.args.edit)) c.in-Ok.ensures.held c.edit_found.ensures.back

pub returns-in-Ok-clause-refused : goal.returns-in-Ok-clause-refused
returns-in-Ok-clause-refused g c =
    subst (λ (h : SessionValue). IfErr c.edit_found.result (IsCause h c.args.edit)) c.in-Ok.ensures.held c.edit_found.ensures.refused

pub returns-in-Ok-clause-held : goal.returns-in-Ok-clause-held
returns-in-Ok-clause-held g c =
    subst (λ (h : SessionValue). OnErr c.edit_found.result (c.edit_found.new.self.held ≡ h)) c.in-Ok.ensures.held
    (on_err_weaker c.edit_found.result (λ same. ap (λ (s : KeptSession). s.held) same) c.edit_found.ensures.unchanged)

pub returns-in-Ok-clause-left : goal.returns-in-Ok-clause-left
returns-in-Ok-clause-left g c = left_as_found c.edit_found.result c.args.self.now c.sweep_if_due.new.self c.edit_found.new.self c.in-Ok.ensures.found c.edit_found.ensures.unchanged

pub returns-in-Ok-clause-few : goal.returns-in-Ok-clause-few
returns-in-Ok-clause-few g c = c.edit_found.ensures.few

pub returns-in-Ok-clause-cells : goal.returns-in-Ok-clause-cells
returns-in-Ok-clause-cells g c = c.edit_found.ensures.cells

pub returns-in-Ok-clause-unlaid : goal.returns-in-Ok-clause-unlaid
returns-in-Ok-clause-unlaid g c =
    subst (λ (h : SessionValue). (refusal_of h.tree c.args.edit ≢ None → c.edit_found.new.steps ≡ c.args.steps.now)) c.in-Ok.ensures.held c.edit_found.ensures.unlaid

pub returns-in-Ok-clause-steps : goal.returns-in-Ok-clause-steps
returns-in-Ok-clause-steps g c =
    subst (λ (h : SessionValue). (refusal_of h.tree c.args.edit ≡ None → TakesNeeded h.metrics h.tree c.args.edit c.args.steps.now c.edit_found.new.steps)) c.in-Ok.ensures.held
    c.edit_found.ensures.steps

pub returns-in-Err-clause-left : goal.returns-in-Err-clause-left
returns-in-Err-clause-left g c = inr c.in-Err.ensures.unchanged

pub returns-in-Err-clause-held : goal.returns-in-Err-clause-held
returns-in-Err-clause-held g c = c.in-Err.ensures.held

pub returns-in-Err-clause-few : goal.returns-in-Err-clause-few
returns-in-Err-clause-few g c = c.in-Err.ensures.limit

pub returns-in-Err-clause-unlaid : goal.returns-in-Err-clause-unlaid
returns-in-Err-clause-unlaid g c = λ refused. refl

pub returns-in-Err-clause-steps : goal.returns-in-Err-clause-steps
returns-in-Err-clause-steps g c = λ accepted. record { pairs = []; steps = omega arith; needed = tt; apart = tt }
