use Rattle.std.proofs.Common.{◌<◌, ◌≤◌, length, arith}
use Rattle.math_tree.specs.declared.node.Node.TheViews.{size-Node, out-roll-Node}
use Rattle.tree_edits.proofs.NewIds.{as_many, next_child, numbered_first, numbered_step, numbered_whole, is_one, count_within, count_more, count_all}
use Rattle.tree_edits.proofs.Paths.{smaller}
use Rattle.tree_edits.specs.Paths.{children_of}
use Rattle.tree_edits.proofs.numbering.+renumber.Goals as goal

pub overflow_cast-element : goal.overflow_cast-element
overflow_cast-element t c = let one = is_one c.args.element.now in omega (arith, one, c.requires)

pub at_mut-requires : goal.at_mut-requires
at_mut-requires t c =
    let same = as_many c.args.id c.loop-place.place c.args.element.now c.loop-place.element c.loop-place.invariant.numbered in
    let all = rw out-roll-Node at c.len-place-end.ensures in
    omega (arith, same, all, c.loop-place-test.true)

pub renumber-next-requires : goal.renumber-next-requires
renumber-next-requires t c =
    let place = c.loop-place.place in
    let child = c.at_mut.result.now in
    let at = next_child c.args.id place c.args.element.now c.loop-place.element child c.loop-place.invariant.numbered c.at_mut.ensures.value in
    let falls : size-Node child < size-Node c.args.element.now = smaller c.args.element.now place child at in
    (omega arith, omega (arith, count_within c.args.element.now place child at, c.loop-place.invariant.next, c.requires))

pub loop-place-init : goal.loop-place-init
loop-place-init t c = record {
  numbered = numbered_first c.args.id c.args.element.now;
  next = omega arith;
}

pub loop-place-preserved : goal.loop-place-preserved
loop-place-preserved t c =
    let place = c.loop-place.place in
    let child = c.at_mut.result.now in
    let at = next_child c.args.id place c.args.element.now c.loop-place.element child c.loop-place.invariant.numbered c.at_mut.ensures.value in
    record {
      numbered = numbered_step c.args.id place c.loop-place.next c.args.element.now c.loop-place.element child c.renumber-next.new.element
          c.loop-place.invariant.numbered at c.loop-place.invariant.next c.renumber-next.ensures.element;
      next = omega (arith, c.loop-place.invariant.next, c.renumber-next.ensures.next, count_more (children_of c.args.element.now) place child at);
    }

pub returns-clause-element : goal.returns-clause-element
returns-clause-element t c =
    let all = rw out-roll-Node at c.len-place-end.ensures in
    let past : length (children_of c.args.element.now) ≤ c.loop-place.place = omega (arith, all, c.loop-place-test.false) in
    numbered_whole c.args.id c.loop-place.place c.args.element.now c.loop-place.element past c.loop-place.invariant.numbered

pub returns-clause-next : goal.returns-clause-next
returns-clause-next t c =
    let all = rw out-roll-Node at c.len-place-end.ensures in
    let past : length (children_of c.args.element.now) ≤ c.loop-place.place = omega (arith, all, c.loop-place-test.false) in
    omega (arith, c.loop-place.invariant.next, count_all c.args.element.now c.loop-place.place past)
