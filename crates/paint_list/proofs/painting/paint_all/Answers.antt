use Rattle.std.proofs.Common.{◌≡◌, ◌∙◌, sym, ap, ◌<◌, ◌++◌, length, get_or, rules, arith}
use Rattle.paint_list.specs.Paints.{painted, paints_of}
use Rattle.paint_list.proofs.Counting.{painted-few, painted-more}
use Rattle.paint_list.proofs.painting.paint_all.Goals as goal

pub add_item-requires-clause-few : goal.add_item-requires-clause-few
add_item-requires-clause-few c =
    let items = c.args.items.now in
    let i = c.loop-item.item-index in
    let within : i < length items = search rules in
    let is : c.item-item.result ≡ get_or items i c.item-item.result = search rules in
    omega (arith, painted-few c.args.metrics.now items i c.item-item.result c.item-item.result within is, c.requires.few)

pub loop-item-init : goal.loop-item-init
unfolding painted
loop-item-init c = c.in_ok-paints.ensures {u = tt}

pub loop-item-preserved : goal.loop-item-preserved
loop-item-preserved c =
    let m = c.args.metrics.now in
    let items = c.args.items.now in
    let i = c.loop-item.item-index in
    let within : i < length items = search rules in
    let is : c.item-item.result ≡ get_or items i c.item-item.result = search rules in
    (c.in_ok-add_item.ensures {u = tt}) ∙ ap (λ l. l ++ paints_of m c.item-item.result) c.loop-item.invariant
    ∙ sym (painted-more m items i c.item-item.result c.item-item.result within is)
