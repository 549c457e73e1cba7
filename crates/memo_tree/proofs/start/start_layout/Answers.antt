use Rattle.std.proofs.Common.{◌≡◌, ◌∙◌, ◌+◌, refl, sym, ap, subst, length, arith, is_some}
use Rattle.outcome_cells.specs.Store.{Runs, StoreValue}
use Rattle.kept_results.specs.Backed.{HaveOwnRuns, IsBacked}
use Rattle.kept_results.specs.Ends.{kept_count}
use Rattle.kept_results.specs.Kept.{Agrees}
use Rattle.kept_results.specs.Tidy.{IsTidy}
use Rattle.kept_results.specs.declared.memo.Memo.{Memo}
use Rattle.kept_results.proofs.Backed.{still_begun}
use Rattle.kept_results.proofs.Sealing.{seal_backed_law, seal_own_runs_law}
use Rattle.kept_edits.proofs.Backed.{blank_backed_law, blank_own_runs}
use Rattle.kept_edits.proofs.Tidying.{blank_tidy}
use Rattle.kept_edits.proofs.Unlaid.{blank_law}
use Rattle.kept_sweep.specs.Swept.{KeepsNeeded}
use Rattle.kept_sweep.proofs.Backed.{idle_again}
use Rattle.memo_tree.proofs.Starting.{start_law, start_steps}
use Rattle.kept_sweep.proofs.Stored.{one_run_each_law}
use Rattle.memo_tree.proofs.start.start_layout.Goals as goal

pub relay_element-requires-clause-begun : goal.relay_element-requires-clause-begun
relay_element-requires-clause-begun g c = ap (λ (s : StoreValue). is_some s.checkpoint) c.begin.ensures

pub relay_element-requires-clause-agrees : goal.relay_element-requires-clause-agrees
relay_element-requires-clause-agrees g c =
    subst (Agrees c.args.metrics.now c.args.node.now) (sym (c.in_ok-memo.ensures {u = tt})) (blank_law c.args.metrics.now c.args.node.now).0.agrees

pub relay_element-requires-clause-backed : goal.relay_element-requires-clause-backed
relay_element-requires-clause-backed g c =
    subst (IsBacked c.args.metrics.now c.begin.new.self.runs c.args.node.now) (sym (c.in_ok-memo.ensures {u = tt}))
    (blank_backed_law c.args.metrics.now c.begin.new.self.runs c.args.node.now)

pub relay_element-requires-clause-tidy : goal.relay_element-requires-clause-tidy
relay_element-requires-clause-tidy g c = subst IsTidy (sym (c.in_ok-memo.ensures {u = tt})) (blank_tidy c.args.metrics.now c.args.node.now)

pub commit-requires : goal.commit-requires
commit-requires g c = still_begun (c.in-Ok.ensures {u = tt}).grown.only (ap (λ (s : StoreValue). is_some s.checkpoint) c.begin.ensures)

pub rollback-requires : goal.rollback-requires
rollback-requires g c = still_begun (c.in-Err.ensures {u = tt}).grows.only (ap (λ (s : StoreValue). is_some s.checkpoint) c.begin.ensures)

pub returns-in-Ok-clause-kept : goal.returns-in-Ok-clause-kept
returns-in-Ok-clause-kept g c =
    let m = c.args.metrics.now in
    let node = c.args.node.now in
    let context = c.args.context.now in
    let done = c.in-Ok.ensures {u = tt} in
    subst (KeepsNeeded m node context) (sym c.seal.ensures.sealed)
    (start_law m node context _ c.relay_element.new.memo _ _ (c.in_ok-memo.ensures {u = tt}) done.passed done.kept)

pub returns-in-Ok-clause-all : goal.returns-in-Ok-clause-all
returns-in-Ok-clause-all g c =
    let m = c.args.metrics.now in
    let node = c.args.node.now in
    let context = c.args.context.now in
    let from = c.args.steps.now in
    let to = c.relay_element.new.steps in
    let done = c.in-Ok.ensures {u = tt} in
    subst (λ (memo : Memo). to ≡ from + kept_count memo) (sym c.seal.ensures.sealed)
    (start_steps m node context _ c.relay_element.new.memo from to (c.in_ok-memo.ensures {u = tt}) done.passed done.kept)

pub returns-in-Ok-clause-backed : goal.returns-in-Ok-clause-backed
returns-in-Ok-clause-backed g c =
    let m = c.args.metrics.now in
    let node = c.args.node.now in
    let runs = c.relay_element.new.store.runs in
    subst (λ (r : Runs). IsBacked m r node c.seal.new.memo) (sym (ap (λ (s : StoreValue). s.runs) c.commit.ensures))
    (subst (IsBacked m runs node) (sym c.seal.ensures.sealed) (seal_backed_law m runs node c.relay_element.new.memo (c.in-Ok.ensures {u = tt}).grown.backed))

pub returns-in-Ok-clause-own : goal.returns-in-Ok-clause-own
returns-in-Ok-clause-own g c =
    let blank_own = subst HaveOwnRuns (sym (c.in_ok-memo.ensures {u = tt})) (blank_own_runs c.args.node.now) in
    subst HaveOwnRuns (sym c.seal.ensures.sealed) (seal_own_runs_law c.relay_element.new.memo ((c.in-Ok.ensures {u = tt}).grown.own blank_own))

pub returns-in-Ok-clause-runs : goal.returns-in-Ok-clause-runs
returns-in-Ok-clause-runs g c =
    let counted = (c.in-Ok.ensures {u = tt}).grown.counted refl in
    let begun = ap (λ (s : StoreValue). length s.runs) c.begin.ensures in
    let ended = ap (λ (s : StoreValue). length s.runs) c.commit.ensures in
    omega (arith, counted, begun, ended)

pub returns-in-Ok-clause-one : goal.returns-in-Ok-clause-one
returns-in-Ok-clause-one g c nothing =
    let runs = c.commit.new.self.runs in
    let kept = returns-in-Ok-clause-kept g c in
    let counted = returns-in-Ok-clause-runs g c in
    let all = returns-in-Ok-clause-all g c in
    one_run_each_law c.args.metrics.now runs c.args.node.now c.seal.new.memo kept.agrees (returns-in-Ok-clause-backed g c) (returns-in-Ok-clause-own g c)
    (omega (arith, counted, all, ap length nothing))

pub returns-in-Ok-clause-idle : goal.returns-in-Ok-clause-idle
returns-in-Ok-clause-idle g c = ap (λ (s : StoreValue). s.checkpoint) c.commit.ensures

pub returns-in-Err-clause-unchanged : goal.returns-in-Err-clause-unchanged
returns-in-Err-clause-unchanged g c =
    let store = c.args.store.now in
    let begun = ap (λ (s : StoreValue). s.checkpoint) c.begin.ensures in
    c.rollback.ensures store.runs ((c.in-Err.ensures {u = tt}).grows.only.checkpoint ∙ begun) ∙ idle_again store c.requires.idle
