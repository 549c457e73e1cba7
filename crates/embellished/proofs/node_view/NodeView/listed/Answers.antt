use Rattle.std.proofs.Common.{◌∙◌, ap, length, refl}
use Rattle.std.specs.Prelude.{map}
use Rattle.embellished.specs.Facts.{laid_kind}
use Rattle.embellished.specs.Flow.{flow_by}
use Rattle.embellished.specs.Seen.{prescripts_in}
use Rattle.embellished.proofs.Nodes.{shows, few_in_flow, laid_shown}
use Rattle.embellished.proofs.node_view.NodeView.listed.Goals as goal

pub invariant_of-result : goal.invariant_of-result
invariant_of-result c =
    let node = c.args.node.now in
    let own = c.args.own in
    let known = c.args.kids.now in
    let all = c.in_ok-all.ensures {u = tt} in
    let kids = c.in_ok-shown.ensures {u = tt} ∙ ap (flow_by laid_shown own.laid) c.as_slice.ensures.value in
    let place =
    c.in_ok-prescripts.ensures {u = tt}
    ∙ ap (λ list. prescripts_in own.laid (map laid_kind known) (length list)) c.as_slice-2.ensures.value in
    record {
      known = refl;
      shows = shows node own known c.in_ok-all.all.items c.in_ok-shown.shown.items c.in_ok-prescripts.prescripts c.requires.own c.requires.known all kids place;
      few = few_in_flow node c.requires.few;
    }
