use Rattle.std.proofs.Common.{◌≡◌, ◌∙◌, refl, sym, subst, true, false, ◌+◌, length}
use Rattle.kept_results.specs.Ends.{kept_count}
use Rattle.kept_results.specs.Grown.{GrownByPairs}
use Rattle.kept_results.specs.Passes.{Needs}
use Rattle.kept_edits.specs.Passed.{TakesMissing}
use Rattle.memo_tree.specs.States.{IsChanged}
use Rattle.memo_tree.specs.Trees.{MemoTreeValue, context_of}
use Rattle.memo_tree.proofs.Passing.{agrees_for, all_now, backed_for, before_now, begun_for, came_now, cells_now, passed_now, steps_now, stopped_now}
use Rattle.memo_tree.proofs.tree.MemoTree.relay.Goals as goal

pub relay_element-requires-clause-begun : goal.relay_element-requires-clause-begun
relay_element-requires-clause-begun g c =
    let old : MemoTreeValue = record { tree = c.self.inside.tree; metrics = c.self.inside.metrics; memo = c.self.inside.memo; store = c.self.inside.store } in
    let changed = subst IsChanged (sym c.self.view_is) c.requires.changed in
    begun_for old c.root.result.now c.begin.new.self changed c.root.ensures.exact c.begin.ensures

pub relay_element-requires-clause-agrees : goal.relay_element-requires-clause-agrees
relay_element-requires-clause-agrees g c =
    let old : MemoTreeValue = record { tree = c.self.inside.tree; metrics = c.self.inside.metrics; memo = c.self.inside.memo; store = c.self.inside.store } in
    let changed = subst IsChanged (sym c.self.view_is) c.requires.changed in
    agrees_for old c.root.result.now c.begin.new.self changed c.root.ensures.exact c.begin.ensures

pub relay_element-requires-clause-backed : goal.relay_element-requires-clause-backed
relay_element-requires-clause-backed g c =
    let old : MemoTreeValue = record { tree = c.self.inside.tree; metrics = c.self.inside.metrics; memo = c.self.inside.memo; store = c.self.inside.store } in
    let changed = subst IsChanged (sym c.self.view_is) c.requires.changed in
    backed_for old c.root.result.now c.begin.new.self changed c.root.ensures.exact c.begin.ensures

pub relay_element-requires-clause-tidy : goal.relay_element-requires-clause-tidy
relay_element-requires-clause-tidy g c = (subst IsChanged (sym c.self.view_is) c.requires.changed).tidy

pub returns-in_err-relay_element-clause-stopped : goal.returns-in_err-relay_element-clause-stopped
returns-in_err-relay_element-clause-stopped g c =
    let old : MemoTreeValue = record { tree = c.self.inside.tree; metrics = c.self.inside.metrics; memo = c.self.inside.memo; store = c.self.inside.store } in
    let changed = subst IsChanged (sym c.self.view_is) c.requires.changed in
    stopped_now old c.root.result.now c.context_of-context.result c.begin.new.self c.relay_element.new.store c.relay_element.new.memo c.args.steps.now c.relay_element.new.steps false changed c.root.ensures.exact c.context_of-context.ensures.exact c.begin.ensures c.relay_element.ensures.passes c.relay_element.ensures.grows
    c.relay_element.ensures.tidy

pub returns-in_err-relay_element-clause-before : goal.returns-in_err-relay_element-clause-before
returns-in_err-relay_element-clause-before g c =
    let old : MemoTreeValue = record { tree = c.self.inside.tree; metrics = c.self.inside.metrics; memo = c.self.inside.memo; store = c.self.inside.store } in
    let changed = subst IsChanged (sym c.self.view_is) c.requires.changed in
    before_now old c.root.result.now c.context_of-context.result c.begin.new.self c.relay_element.new.store c.relay_element.new.memo c.args.steps.now c.relay_element.new.steps false changed c.root.ensures.exact c.context_of-context.ensures.exact c.begin.ensures c.relay_element.ensures.passes c.relay_element.ensures.grows
    ∙ c.self.view_is

pub returns-in_err-relay_element-clause-steps : goal.returns-in_err-relay_element-clause-steps
returns-in_err-relay_element-clause-steps g c =
    let old : MemoTreeValue = record { tree = c.self.inside.tree; metrics = c.self.inside.metrics; memo = c.self.inside.memo; store = c.self.inside.store } in
    let changed = subst IsChanged (sym c.self.view_is) c.requires.changed in
    subst (λ (v : MemoTreeValue). TakesMissing v.metrics v.tree.root (context_of v.metrics v.tree) v.memo c.args.steps.now c.relay_element.new.steps) c.self.view_is
    (steps_now old c.root.result.now c.context_of-context.result c.begin.new.self c.relay_element.new.store c.relay_element.new.memo c.args.steps.now c.relay_element.new.steps false changed c.root.ensures.exact c.context_of-context.ensures.exact c.begin.ensures c.relay_element.ensures.passes c.relay_element.ensures.grows)

pub returns-clause-stopped : goal.returns-clause-stopped
returns-clause-stopped g c =
    let old : MemoTreeValue = record { tree = c.self.inside.tree; metrics = c.self.inside.metrics; memo = c.self.inside.memo; store = c.self.inside.store } in
    let changed = subst IsChanged (sym c.self.view_is) c.requires.changed in
    stopped_now old c.root.result.now c.context_of-context.result c.begin.new.self c.relay_element.new.store c.relay_element.new.memo c.args.steps.now c.relay_element.new.steps false changed c.root.ensures.exact c.context_of-context.ensures.exact c.begin.ensures c.relay_element.ensures.passes c.relay_element.ensures.grows
    c.relay_element.ensures.tidy

pub returns-clause-before : goal.returns-clause-before
returns-clause-before g c =
    let old : MemoTreeValue = record { tree = c.self.inside.tree; metrics = c.self.inside.metrics; memo = c.self.inside.memo; store = c.self.inside.store } in
    let changed = subst IsChanged (sym c.self.view_is) c.requires.changed in
    before_now old c.root.result.now c.context_of-context.result c.begin.new.self c.relay_element.new.store c.relay_element.new.memo c.args.steps.now c.relay_element.new.steps false changed c.root.ensures.exact c.context_of-context.ensures.exact c.begin.ensures c.relay_element.ensures.passes c.relay_element.ensures.grows
    ∙ c.self.view_is

pub returns-clause-steps : goal.returns-clause-steps
returns-clause-steps g c =
    let old : MemoTreeValue = record { tree = c.self.inside.tree; metrics = c.self.inside.metrics; memo = c.self.inside.memo; store = c.self.inside.store } in
    let changed = subst IsChanged (sym c.self.view_is) c.requires.changed in
    subst (λ (v : MemoTreeValue). TakesMissing v.metrics v.tree.root (context_of v.metrics v.tree) v.memo c.args.steps.now c.relay_element.new.steps) c.self.view_is
    (steps_now old c.root.result.now c.context_of-context.result c.begin.new.self c.relay_element.new.store c.relay_element.new.memo c.args.steps.now c.relay_element.new.steps false changed c.root.ensures.exact c.context_of-context.ensures.exact c.begin.ensures c.relay_element.ensures.passes c.relay_element.ensures.grows)

pub returns-clause-passed : goal.returns-clause-passed
returns-clause-passed g c =
    let old : MemoTreeValue = record { tree = c.self.inside.tree; metrics = c.self.inside.metrics; memo = c.self.inside.memo; store = c.self.inside.store } in
    let changed = subst IsChanged (sym c.self.view_is) c.requires.changed in
    passed_now old c.root.result.now c.context_of-context.result c.begin.new.self c.relay_element.new.store c.relay_element.new.memo c.args.steps.now c.relay_element.new.steps true changed c.root.ensures.exact c.context_of-context.ensures.exact c.begin.ensures (c.in_ok-relay_element.ensures {u = tt}).passed (c.in_ok-relay_element.ensures {u = tt}).grown
    (c.in_ok-relay_element.ensures {u = tt}).kept c.relay_element.ensures.tidy

pub returns-clause-all : goal.returns-clause-all
returns-clause-all g c =
    let old : MemoTreeValue = record { tree = c.self.inside.tree; metrics = c.self.inside.metrics; memo = c.self.inside.memo; store = c.self.inside.store } in
    let changed = subst IsChanged (sym c.self.view_is) c.requires.changed in
    subst (λ (v : MemoTreeValue). c.relay_element.new.steps + kept_count v.memo ≡ c.args.steps.now + kept_count c.relay_element.new.memo) c.self.view_is
    (all_now old c.root.result.now c.context_of-context.result c.begin.new.self c.relay_element.new.store c.relay_element.new.memo c.args.steps.now c.relay_element.new.steps true changed c.root.ensures.exact c.context_of-context.ensures.exact c.begin.ensures (c.in_ok-relay_element.ensures {u = tt}).passed (c.in_ok-relay_element.ensures {u = tt}).grown refl)

pub returns-clause-runs : goal.returns-clause-runs
returns-clause-runs g c =
    let old : MemoTreeValue = record { tree = c.self.inside.tree; metrics = c.self.inside.metrics; memo = c.self.inside.memo; store = c.self.inside.store } in
    let changed = subst IsChanged (sym c.self.view_is) c.requires.changed in
    subst (λ (v : MemoTreeValue). length c.relay_element.new.store.runs + c.args.steps.now ≡ length v.store.runs + c.relay_element.new.steps) c.self.view_is
    (came_now old c.root.result.now c.context_of-context.result c.begin.new.self c.relay_element.new.store c.relay_element.new.memo c.args.steps.now c.relay_element.new.steps true changed c.root.ensures.exact c.context_of-context.ensures.exact c.begin.ensures (c.in_ok-relay_element.ensures {u = tt}).passed (c.in_ok-relay_element.ensures {u = tt}).grown refl)

pub returns-clause-cells : goal.returns-clause-cells
returns-clause-cells g c =
    let old : MemoTreeValue = record { tree = c.self.inside.tree; metrics = c.self.inside.metrics; memo = c.self.inside.memo; store = c.self.inside.store } in
    let changed = subst IsChanged (sym c.self.view_is) c.requires.changed in
    subst (λ (v : MemoTreeValue). GrownByPairs v.metrics v.tree.root (Needs v.metrics v.tree.root (context_of v.metrics v.tree)) v.store.runs c.relay_element.new.store.runs) c.self.view_is
    (cells_now old c.root.result.now c.context_of-context.result c.begin.new.self c.relay_element.new.store c.relay_element.new.memo c.args.steps.now c.relay_element.new.steps true changed c.root.ensures.exact c.context_of-context.ensures.exact c.begin.ensures (c.in_ok-relay_element.ensures {u = tt}).passed (c.in_ok-relay_element.ensures {u = tt}).grown refl)
