use Rattle.std.proofs.Common.{rules, ◌≡◌, ◌∙◌, refl, sym, ap, subst, ◌<◌, ◌≤◌, arith, nat_eq, [], length, map, take, None}
use Rattle.std.proofs.lemmas.List.{length-map, take_all}
use Rattle.math_tree.specs.declared.node.Node.{Node}
use Rattle.math_tree.specs.declared.node.Node.TheViews.{out-Node, size-Node}
use Rattle.embellished.specs.Known.{known_of}
use Rattle.embellished.specs.Seen.{seen_of}
use Rattle.embellished.specs.declared.known.Known.{Known}
use Rattle.embellished.specs.declared.known.Known.TheViews.{out-Known}
use Rattle.embellished.proofs.KnownFacts.{is_known}
use Rattle.hit_test.specs.Elements.{children_of, flow_tree}
use Rattle.hit_test.specs.Running.{Sees}
use Rattle.hit_test.specs.declared.look.Span.{Span}
use Rattle.hit_test.proofs.Children.{as_many_below, child_of, few_below, few_children, few_in_flow, in_tree, known_at, known_below, near, smaller}
use Rattle.hit_test.proofs.Looking.{Looks, looks_all, looks_next, looks_none}
use Rattle.hit_test.proofs.look.+look.Goals as goal

pub make-requires-clause-own : goal.make-requires-clause-own
make-requires-clause-own t c = ap (λ (k : Known). (out-Known k).facts) c.requires.known ∙ (is_known c.args.node.now).facts_are

pub make-requires-clause-known : goal.make-requires-clause-known
make-requires-clause-known t c = ap (λ (k : Known). (out-Known k).kids) c.requires.known ∙ (is_known c.args.node.now).kids_are

pub make-requires-clause-few : goal.make-requires-clause-few
make-requires-clause-few t c = omega (arith, few_children c.args.node.now, c.requires.few)

pub loop-index-init : goal.loop-index-init
loop-index-init t c =
    let node = c.args.node.now in
    let shown = c.in_ok-view.ensures {u = tt} in
    let count : c.kids-kids.result ≡ length (children_of (flow_tree node)) =
    c.kids-kids.ensures.count ∙ ap (λ (n : Node). length (seen_of n).kids) shown ∙ sym (as_many_below node) in
    subst (λ n. Looks c.args.first.0 c.args.second.0 node [] (length (children_of (flow_tree node))) (record { first = nat_eq (out-Node node).head.id.0 c.args.first.0; second = nat_eq (out-Node node).head.id.0 c.args.second.0; over = None }) (record { from = n; to = 0 })) (sym count)
    (looks_none c.args.first.0 c.args.second.0 node (length (children_of (flow_tree node))) _ _ refl refl)

pub bounds-as_slice-place : goal.bounds-as_slice-place
bounds-as_slice-place t c =
    let node = c.args.node.now in
    let shown = c.in_ok-view.ensures {u = tt} in
    let p = child_of _ node _ _ shown c.place.ensures in
    let within = near node p.child.node _ _ record { child = p.child; in_flow = p.in_flow; among = p.among; shown = p.shown; holds = refl } p in
    omega (arith, within, ap length (c.as_slice.ensures ∙ known_below node c.args.known.now c.requires.known), length-map (out-Node node).children known_of)

pub offset_bounds-as_slice-place : goal.offset_bounds-as_slice-place
offset_bounds-as_slice-place t c =
    let node = c.args.node.now in
    let shown = c.in_ok-view.ensures {u = tt} in
    let p = child_of _ node _ _ shown c.place.ensures in
    let within = near node p.child.node _ _ record { child = p.child; in_flow = p.in_flow; among = p.among; shown = p.shown; holds = refl } p in
    omega (arith, within, few_children node, c.requires.few)

pub look-requires : goal.look-requires
look-requires t c =
    let node = c.args.node.now in
    let shown = c.in_ok-view.ensures {u = tt} in
    let n = child_of _ node _ _ shown c.node_at.ensures in
    let p = child_of _ node _ _ shown c.place.ensures in
    let falls : size-Node c.node_at.result.now < size-Node node = smaller node _ _ _ n p in
    let known = known_at node _ _ _ n p c.as_slice.result.now c.index-as_slice-place.result
    (c.as_slice.ensures ∙ known_below node c.args.known.now c.requires.known) c.index-as_slice-place.is in
    let few = few_below node _ _ _ n p in
    (omega arith, (known, omega (arith, few, c.requires.few)))

pub loop-index-preserved : goal.loop-index-preserved
loop-index-preserved t c =
    let node = c.args.node.now in
    let kids = children_of (flow_tree node) in
    let shown = c.in_ok-view.ensures {u = tt} in
    let n = child_of _ node _ _ shown c.node_at.ensures in
    let p = child_of _ node _ _ shown c.place.ensures in
    let count : c.kids-kids.result ≡ length kids =
    c.kids-kids.ensures.count ∙ ap (λ (n : Node). length (seen_of n).kids) shown ∙ sym (as_many_below node) in
    let within : c.loop-index.index < length kids = omega (arith, c.loop-index-test.true, count) in
    looks_next c.args.first.0 c.args.second.0 node kids c.node_at.result.now node c.loop-index.index c.loop-index.sight c.in_ok-kid.kid _ c.loop-index.span _ within
    (in_tree node _ _ _ n p node) (c.in_ok-kid.ensures {u = tt}) c.loop-index.invariant c.joined-sight.ensures c.with_kid-span.ensures

pub returns : goal.returns
returns t c =
    let node = c.args.node.now in
    let kids = children_of (flow_tree node) in
    let shown = c.in_ok-view.ensures {u = tt} in
    let count : c.kids-kids.result ≡ length kids =
    c.kids-kids.ensures.count ∙ ap (λ (n : Node). length (seen_of n).kids) shown ∙ sym (as_many_below node) in
    let all : take c.loop-index.index kids ≡ kids = take_all c.loop-index.index kids (omega (arith, c.loop-index-test.false, count)) in
    let looks = subst (λ some. Looks c.args.first.0 c.args.second.0 node some (length kids) c.loop-index.sight c.loop-index.span) all c.loop-index.invariant in
    subst (Sees c.args.first.0 c.args.second.0 node) (sym c.or_own.ensures)
    (looks_all c.args.first.0 c.args.second.0 node c.loop-index.sight _ refl c.requires.known c.requires.few looks)
