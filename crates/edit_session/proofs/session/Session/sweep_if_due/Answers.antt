use Rattle.std.proofs.Common.{◌≡◌, ◌∙◌, ◌≤◌, ap, arith, sym, subst, true, false}
use Rattle.kept_results.specs.Ends.{kept_count}
use Rattle.edit_session.specs.Session.{KeptSession}
use Rattle.edit_session.specs.Sweeping.{IsSweptFrom}
use Rattle.edit_session.proofs.Refused.{on_err}
use Rattle.edit_session.proofs.session.Session.sweep_if_due.Goals as goal

never : {A : Type 0} → true ≡ false → A
never h = cc

pub returns-in_err-sweep-clause-limit : goal.returns-in_err-sweep-clause-limit
returns-in_err-sweep-clause-limit c =
    subst (λ (s : KeptSession). kept_count s.memo ≤ 262_144) (sym (c.in_err-sweep.ensures.unchanged ∙ c.is_due.ensures.same)) c.is_due.ensures.limit

pub returns-in_err-sweep-clause-held : goal.returns-in_err-sweep-clause-held
returns-in_err-sweep-clause-held c = ap (λ (s : KeptSession). s.held) (c.in_err-sweep.ensures.unchanged ∙ c.is_due.ensures.same)

pub returns-in_err-sweep-clause-unchanged : goal.returns-in_err-sweep-clause-unchanged
returns-in_err-sweep-clause-unchanged c = on_err c.from_residual.result (c.in_err-sweep.ensures.unchanged ∙ c.is_due.ensures.same)

pub returns-in_ok-sweep-clause-found : goal.returns-in_ok-sweep-clause-found
returns-in_ok-sweep-clause-found c = record {
  due = λ due. subst (λ (s : KeptSession). IsSweptFrom s c.sweep.new.self) c.is_due.ensures.same c.in_ok-sweep.ensures.swept;
  not_due = λ not_due. never (c.if-is_due.ensures.due ∙ not_due);
}

pub returns-in_ok-sweep-clause-cells : goal.returns-in_ok-sweep-clause-cells
returns-in_ok-sweep-clause-cells c =
    let noted = c.in_ok-sweep.ensures.swept.cells in
    omega (arith, noted)

pub returns-in_ok-sweep-clause-held : goal.returns-in_ok-sweep-clause-held
returns-in_ok-sweep-clause-held c = c.in_ok-sweep.ensures.swept.held ∙ ap (λ (s : KeptSession). s.held) c.is_due.ensures.same

pub returns-else-is_due-clause-found : goal.returns-else-is_due-clause-found
returns-else-is_due-clause-found c = record { due = λ due. never (sym (c.if-is_due.ensures.due ∙ due)); not_due = λ not_due. c.is_due.ensures.same }

pub returns-else-is_due-clause-limit : goal.returns-else-is_due-clause-limit
returns-else-is_due-clause-limit c = subst (λ (s : KeptSession). kept_count s.memo ≤ 262_144) (sym c.is_due.ensures.same) c.is_due.ensures.limit

pub returns-else-is_due-clause-held : goal.returns-else-is_due-clause-held
returns-else-is_due-clause-held c = ap (λ (s : KeptSession). s.held) c.is_due.ensures.same
