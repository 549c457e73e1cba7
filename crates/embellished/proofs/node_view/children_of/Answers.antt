use Rattle.std.proofs.Common.{◌∙◌, ◌<◌, length, get_or, refl, ap, arith}
use Rattle.std.proofs.lemmas.List.{length-map, get_or_default}
use Rattle.std.specs.Prelude.{map}
use Rattle.math_tree.specs.declared.node.Node.TheViews.{out-Node}
use Rattle.embellished.specs.Facts.{facts}
use Rattle.embellished.specs.Seen.{shown_child}
use Rattle.embellished.proofs.Nodes.{one_kid_more}
use Rattle.embellished.proofs.node_view.children_of.Goals as goal

pub loop-place-preserved : goal.loop-place-preserved
loop-place-preserved c =
    let i = c.loop-place.place in
    let nodes = (out-Node c.args.node.now).children in
    let known = c.args.kids.now in
    let node = c.index-nodes-place.result in
    let is = c.index-nodes-place.is ∙ ap (λ l. get_or l i node) c.as_slice-nodes.ensures in
    let within : i < length nodes = omega (arith, c.loop-place-test.true, ap length c.as_slice-nodes.ensures) in
    let within' : i < length known = omega (arith, within, ap length c.requires.known, length-map nodes facts) in
    let pushed = c.in_ok-push.ensures {u = tt} in
    ap (map shown_child) pushed.items
    ∙ one_kid_more c.loop-place.made.items _ nodes known i node c.loop-place.invariant c.requires.known within is refl refl (get_or_default known i _ _ within')
