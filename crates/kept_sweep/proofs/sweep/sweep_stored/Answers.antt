use Rattle.std.proofs.Common.{◌∙◌, ◌++◌, sym, ap, arith, subst, length, List}
use Rattle.std.specs.List.{All}
use Rattle.std.specs.Option.{IsSome}
use Rattle.box_pool.specs.Region.{cells_in, kept_of}
use Rattle.box_pool.specs.declared.pool.RunId.{RunId}
use Rattle.outcome_cells.specs.Store.{Runs, StoreValue}
use Rattle.kept_results.specs.Backed.{IsBacked}
use Rattle.kept_sweep.specs.Runs.{HaveOneRunEach, runs_of}
use Rattle.kept_sweep.proofs.Backed.{part_backed_law, part_own_runs_law}
use Rattle.kept_sweep.proofs.Stored.{all_live, enough_runs_law, swept_backed, swept_one_each}
use Rattle.kept_sweep.proofs.sweep.sweep_stored.Goals as goal

pub list_runs-requires : goal.list_runs-requires
list_runs-requires c =
    let m = c.args.metrics.now in
    let runs = c.args.store.now.runs in
    let enough = enough_runs_law m runs c.args.node.now c.args.memo.now c.requires.agrees c.requires.backed c.requires.own in
    let made = c.in_ok-needed.ensures {u = tt} in
    record { room = omega (arith, enough, c.sweep_layouts.ensures.fewer, c.live.ensures.count, made.exact, ap length made.items) }

pub sweep-requires-clause-live : goal.sweep-requires-clause-live
sweep-requires-clause-live c =
    let m = c.args.metrics.now in
    let runs = c.args.store.now.runs in
    let node = c.args.node.now in
    let memo = c.sweep_layouts.new.memo in
    let swept = c.sweep_layouts.ensures in
    let made = c.in_ok-needed.ensures {u = tt} in
    let backed = part_backed_law m runs node memo c.args.memo.now c.requires.backed swept.part in
    let listed = sym (c.from.ensures ∙ c.list_runs.ensures.listed ∙ ap (λ (l : List RunId). l ++ runs_of memo) made.items) in
    subst (All (λ (run : RunId). IsSome (cells_in runs run.0))) listed (all_live m runs node memo swept.swept.agrees backed)

pub returns-clause-backed : goal.returns-clause-backed
returns-clause-backed c =
    let m = c.args.metrics.now in
    let runs = c.args.store.now.runs in
    let node = c.args.node.now in
    let memo = c.sweep_layouts.new.memo in
    let swept = c.sweep_layouts.ensures in
    let made = c.in_ok-needed.ensures {u = tt} in
    let backed = part_backed_law m runs node memo c.args.memo.now c.requires.backed swept.part in
    let listed = c.from.ensures ∙ c.list_runs.ensures.listed ∙ ap (λ (l : List RunId). l ++ runs_of memo) made.items in
    let left = ap (λ (s : StoreValue). s.runs) c.sweep-2.ensures ∙ ap (λ (l : List RunId). kept_of l runs) listed in
    subst (λ (r : Runs). IsBacked m r node memo) (sym left) (swept_backed m runs node memo swept.swept.agrees backed)

pub returns-clause-one : goal.returns-clause-one
returns-clause-one c =
    let m = c.args.metrics.now in
    let runs = c.args.store.now.runs in
    let node = c.args.node.now in
    let memo = c.sweep_layouts.new.memo in
    let swept = c.sweep_layouts.ensures in
    let made = c.in_ok-needed.ensures {u = tt} in
    let backed = part_backed_law m runs node memo c.args.memo.now c.requires.backed swept.part in
    let own = part_own_runs_law memo c.args.memo.now c.requires.own swept.part in
    let listed = c.from.ensures ∙ c.list_runs.ensures.listed ∙ ap (λ (l : List RunId). l ++ runs_of memo) made.items in
    let left = ap (λ (s : StoreValue). s.runs) c.sweep-2.ensures ∙ ap (λ (l : List RunId). kept_of l runs) listed in
    subst (λ (r : Runs). HaveOneRunEach r memo) (sym left) (swept_one_each m runs node memo swept.swept.agrees backed own c.live.ensures.ids)
