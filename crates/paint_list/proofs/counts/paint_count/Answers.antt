use Rattle.std.proofs.Common.{◌≡◌, ◌<◌, refl, length, get_or, rules, arith}
use Rattle.paint_list.specs.Paints.{painted}
use Rattle.paint_list.proofs.Counting.{painted-length-more}
use Rattle.paint_list.proofs.counts.paint_count.Goals as goal

pub loop-item-init : goal.loop-item-init
unfolding painted
loop-item-init c = refl

pub overflow_add-count : goal.overflow_add-count
overflow_add-count c = omega (arith, c.loop-item.invariant)

pub loop-item-preserved : goal.loop-item-preserved
loop-item-preserved c =
    let items = c.args.items.now in
    let i = c.loop-item.item-index in
    let within : i < length items = search rules in
    let is : c.item-item.result ≡ get_or items i c.item-item.result = search rules in
    omega (arith, painted-length-more c.args.metrics.now items i c.item-item.result c.item-item.result within is, c.loop-item.invariant)
