use Rattle.std.proofs.Common.{ap, arith, length}
use Rattle.outcome_cells.specs.Store.{StoreValue}
use Rattle.edit_session.proofs.session.Session.start.Goals as goal

pub invariant_of-result : goal.invariant_of-result
invariant_of-result g c =
    let started = c.in_ok-layouts.ensures in
    let runs = ap (λ (s : StoreValue). length s.runs) c.store.ensures in
    record {
      sealed = started.fit;
      few = omega (arith, started.few);
      no_more = omega (arith, started.swept.runs.as_many, c.live-most_kept.ensures.count, runs);
    }

pub returns-clause-ok : goal.returns-clause-ok
returns-clause-ok g c = λ i. record { tree = c.in_ok-layouts.ensures.tree i; metrics = c.in_ok-layouts.ensures.metrics i }

pub returns-clause-fit : goal.returns-clause-fit
returns-clause-fit g c = c.in_ok-layouts.ensures.fit.fit

pub returns-clause-range : goal.returns-clause-range
returns-clause-range g c = λ h. cc

pub returns-clause-kept : goal.returns-clause-kept
returns-clause-kept g c = c.in_ok-layouts.ensures.swept

pub returns-clause-few : goal.returns-clause-few
returns-clause-few g c = c.in_ok-layouts.ensures.few

pub returns-clause-cells : goal.returns-clause-cells
returns-clause-cells g c = c.cells-swept_cells.ensures
