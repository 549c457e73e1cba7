use Rattle.std.proofs.Common.{◌≡◌, ◌∙◌, ap, arith, length, sym, subst}
use Rattle.outcome_cells.specs.Store.{StoreValue}
use Rattle.memo_tree.specs.Trees.{MemoTreeValue}
use Rattle.edit_session.specs.Session.{KeptSession, session_of}
use Rattle.edit_session.specs.Sweeping.{IsKeptWithin, IsSweptFrom}
use Rattle.edit_session.proofs.Finding.{needed_stay}
use Rattle.edit_session.proofs.Refused.{on_err}
use Rattle.edit_session.proofs.session.Session.sweep.Goals as goal

pub returns-clause-swept : goal.returns-clause-swept
returns-clause-swept c =
    let old = c.self.inside.layouts in
    let before = session_of old c.self.inside.swept_cells in
    let swept = session_of c.sweep.new.self c.cells-self-inside.result in
    let found = c.in_ok-sweep.ensures in
    let holds : swept.held ≡ before.held = λ i. record { tree = c.sweep.ensures.tree i; metrics = c.sweep.ensures.metrics i } in
    subst (λ (s : KeptSession). IsSweptFrom s swept) c.self.view_is record {
      held = holds;
      sealed = found.sealed;
      swept = found.swept;
      part = found.part;
      stays = needed_stay before swept c.self.invariant.sealed holds found.swept found.part;
      cells = c.cells-self-inside.ensures;
    }

pub returns-in_err-sweep-clause-unchanged : goal.returns-in_err-sweep-clause-unchanged
returns-in_err-sweep-clause-unchanged c =
    on_err c.from_residual.result (ap (λ (laid : MemoTreeValue). session_of laid c.self.inside.swept_cells) c.in_err-sweep.ensures.unchanged ∙ c.self.view_is)

pub invariant_of-self : goal.invariant_of-self
invariant_of-self c = subst (λ (laid : MemoTreeValue). IsKeptWithin laid c.self.inside.most_kept) (sym c.in_err-sweep.ensures.unchanged) c.self.invariant

pub invariant_of-self-2 : goal.invariant_of-self-2
invariant_of-self-2 c =
    let found = c.in_ok-sweep.ensures in
    let runs = ap (λ (s : StoreValue). length s.runs) c.store.ensures in
    record {
      sealed = found.sealed;
      few = omega (arith, found.few);
      no_more = omega (arith, found.swept.runs.as_many, c.live-self-inside.ensures.count, runs);
    }
