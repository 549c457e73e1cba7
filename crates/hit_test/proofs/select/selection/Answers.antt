use Rattle.std.proofs.Common.{◌≡◌, ◌∙◌, refl, sym, ap, subst, map, None}
use Rattle.math_tree.specs.declared.node.Node.{Node}
use Rattle.hit_test.specs.Elements.{flow_tree, id_of}
use Rattle.hit_test.specs.Running.{Sees}
use Rattle.hit_test.specs.Selecting.{IsMissing, areas_of, marked_below, marked_ids, missing_id}
use Rattle.hit_test.proofs.Selected.{marked_is, missing_is, spanned, unseen_is}
use Rattle.hit_test.proofs.select.selection.Goals as goal

pub areas_below-requires-clause-spanned : goal.areas_below-requires-clause-spanned
areas_below-requires-clause-spanned c =
    spanned c.args.first.0 c.args.second.0 c.root-root.result.now c.in_ok-sight.sight (c.in_ok-sight.ensures {u = tt}) c.in-Ok.found c.in-Ok.ensures.found

pub returns-in-Ok-clause-exact : goal.returns-in-Ok-clause-exact
returns-in-Ok-clause-exact c =
    let first = c.args.first.0 in
    let second = c.args.second.0 in
    let ids = map id_of (marked_below first second (flow_tree c.in-Ok.found.node.now)) in
    let marked = marked_is first second c.root-root.result.now c.in_ok-sight.sight (c.in_ok-sight.ensures {u = tt}) c.in-Ok.found c.in-Ok.ensures.found ids refl in
    (c.in_ok-areas-in-Ok.ensures {u = tt})
    ∙ ap (λ some. areas_of some c.args.placed.now) marked
    ∙ ap (λ (root : Node). areas_of (marked_ids first second (flow_tree root)) c.args.placed.now) c.root-root.ensures.exact

pub returns-in-Ok-clause-there : goal.returns-in-Ok-clause-there
returns-in-Ok-clause-there c =
    ap (λ (root : Node). missing_id c.args.first.0 c.args.second.0 (flow_tree root)) (sym c.root-root.ensures.exact)
    ∙ sym (unseen_is c.args.first.0 c.args.second.0 c.root-root.result.now c.in_ok-sight.sight (c.in_ok-sight.ensures {u = tt}))
    ∙ c.in-Ok.ensures.there

pub returns-clause-missing : goal.returns-clause-missing
returns-clause-missing c =
    subst (λ (root : Node). IsMissing c.args.first.0 c.args.second.0 (flow_tree root) c.in-Err.refusal) c.root-root.ensures.exact
    (missing_is c.args.first.0 c.args.second.0 c.root-root.result.now c.in_ok-sight.sight (c.in_ok-sight.ensures {u = tt}) c.in-Err.refusal c.in-Err.ensures.missing)
