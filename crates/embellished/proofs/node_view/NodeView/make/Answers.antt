use Rattle.std.proofs.Common.{◌∙◌, ap, sym}
use Rattle.embellished.specs.Facts.{laid_kind}
use Rattle.embellished.specs.Flow.{shows_each}
use Rattle.embellished.proofs.Nodes.{few_in_flow, shows_all}
use Rattle.embellished.proofs.node_view.NodeView.make.Goals as goal

pub invariant_of-result : goal.invariant_of-result
invariant_of-result c =
    let node = c.args.node.now in
    let own = c.args.own in
    let known = c.args.kids.now in
    let each = ap (shows_each laid_kind own.laid) (sym c.as_slice.ensures) ∙ sym c.shows_each.ensures ∙ c.if-shows_each.true in
    record {
      known = c.requires.known;
      shows = rw c.len.ensures (shows_all node own known c.requires.own c.requires.known each);
      few = few_in_flow node c.requires.few;
    }
