use Rattle.std.proofs.Common.{◌<◌, ◌∙◌, sym, ap, subst, ◌+◌, ◌||◌, arith, List, length}
use Rattle.std.proofs.lemmas.List.{take_all}
use Rattle.math_tree.specs.declared.node.Node.{Node}
use Rattle.math_tree.specs.declared.node.Node.TheViews.{out-Node, size-Node}
use Rattle.kept_laid.proofs.BoxReading.{at_place, smaller}
use Rattle.kept_laid.proofs.IdsBelow.{in_all, in_front, its_own, next_child, others}
use Rattle.kept_laid.proofs.LastAsked.{alike, unlike}
use Rattle.kept_laid.proofs.ids.+has_id.Goals as goal

pub has_id-requires : goal.has_id-requires
has_id-requires t c =
    let nodes = c.as_slice-child-items.result.now in
    let child : Node = c.child-item.result in
    let at = at_place nodes (out-Node c.args.node.now).children c.loop-child.child-index child c.as_slice-child-items.ensures
    (subst (λ (list : List Node). c.loop-child.child-index < length list) c.as_slice-child-items.ensures c.loop-child-test.true) c.child-item.is in
    let falls : size-Node child < size-Node c.args.node.now = smaller c.args.node.now child c.loop-child.child-index at in
    omega arith

pub returns-then-node-id : goal.returns-then-node-id
returns-then-node-id t c = λ level. its_own c.args.id level c.args.node.now (alike _ _ c.if-node-id.true)

pub returns-then-has_id : goal.returns-then-has_id
returns-then-has_id t c = λ level.
    let nodes = c.as_slice-child-items.result.now in
    let id = c.args.id in
    let here = next_child id (level + 1) nodes c.loop-child.child-index c.child-item.result c.loop-child-test.true c.child-item.is in
    let front = here ∙ (λ i. c.loop-child.invariant (level + 1) i || sym (c.has_id.ensures (level + 1)) i) ∙ c.if-has_id.true in
    sym (sym (others id level c.args.node.now (unlike _ _ c.if-node-id.false))
    ∙ ap (in_all id (level + 1)) (sym c.as_slice-child-items.ensures)
    ∙ in_front id (level + 1) nodes (c.loop-child.child-index + 1) front)

pub loop-child-preserved : goal.loop-child-preserved
loop-child-preserved t c = λ level.
    next_child c.args.id level c.as_slice-child-items.result.now c.loop-child.child-index c.child-item.result c.loop-child-test.true c.child-item.is
    ∙ (λ i. c.loop-child.invariant level i || sym (c.has_id.ensures level) i) ∙ c.if-has_id.false

pub returns : goal.returns
returns t c = λ level.
    let nodes = c.as_slice-child-items.result.now in
    sym (sym (others c.args.id level c.args.node.now (unlike _ _ c.if-node-id.false))
    ∙ ap (in_all c.args.id (level + 1)) (sym c.as_slice-child-items.ensures ∙ sym (take_all c.loop-child.child-index nodes c.loop-child-test.false))
    ∙ c.loop-child.invariant (level + 1))
