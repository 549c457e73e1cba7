use Rattle.std.proofs.Common.{◌≡◌, ◌∙◌, sym, ap, subst, ◌-◌, ◌≤◌, arith, List, [], ◌∷◌, ◌++◌, length, map, take, drop}
use Rattle.std.proofs.lemmas.List.{map-append}
use Rattle.std.proofs.lemmas.Result.{IfOk-weaker}
use Rattle.math_tree.specs.declared.node.Node.{Node}
use Rattle.math_tree.specs.declared.node.NodeId.{NodeId}
use Rattle.math_tree.specs.declared.node.Node.TheViews.{out-Node}
use Rattle.embellished.specs.Seen.{HasKid, Kid, seen_of}
use Rattle.embellished.specs.declared.known.Known.{Known}
use Rattle.embellished.specs.declared.known.Known.TheViews.{out-Known}
use Rattle.embellished.proofs.KnownFacts.{is_known}
use Rattle.hit_test.specs.Elements.{children_of, flow_tree, id_of}
use Rattle.hit_test.specs.Selecting.{marked_below}
use Rattle.hit_test.proofs.Children.{as_many_below, few_children}
use Rattle.hit_test.proofs.Marking.{ids_more, itself_marked, kids_marked}
use Rattle.hit_test.proofs.chosen.chosen.Goals as goal

pub make-requires-clause-own : goal.make-requires-clause-own
make-requires-clause-own c = ap (λ (k : Known). (out-Known k).facts) c.requires.known ∙ (is_known c.args.found.now.node.now).facts_are

pub make-requires-clause-known : goal.make-requires-clause-known
make-requires-clause-known c = ap (λ (k : Known). (out-Known k).kids) c.requires.known ∙ (is_known c.args.found.now.node.now).kids_are

pub make-requires-clause-few : goal.make-requires-clause-few
make-requires-clause-few c = omega (arith, few_children c.args.found.now.node.now, c.requires.few)

pub kid-requires : goal.kid-requires
kid-requires c =
    let node = c.args.found.now.node.now in
    let shown = c.in_ok-view.ensures {u = tt} in
    omega (arith, c.loop-index-test.true, c.requires.within, as_many_below node, ap (λ (n : Node). length (seen_of n).kids) shown)

pub returns-then-is_either : goal.returns-then-is_either
returns-then-is_either c =
    let node = c.args.found.now.node.now in
    let marked = itself_marked c.args.first.0 c.args.second.0 node _ c.is_either.ensures c.if-is_either.true in
    IfOk-weaker c.only.result (λ ids. ids ≡ (out-Node node).head.id ∷ [])
    (λ ids. map (λ (id : NodeId). id.0) ids ≡ map id_of (marked_below c.args.first.0 c.args.second.0 (flow_tree node)))
    (λ ids e. ap (map (λ (id : NodeId). id.0)) e ∙ sym marked) c.only.ensures

pub loop-index-preserved : goal.loop-index-preserved
loop-index-preserved c =
    let node = c.args.found.now.node.now in
    let from = c.args.found.now.span.from in
    let i = c.loop-index.index in
    let shown = c.in_ok-view.ensures {u = tt} in
    let kid = subst (λ (n : Node). HasKid (seen_of n) i (λ (k : Kid). k.head ≡ c.kid.result.now)) shown c.kid.ensures in
    let low : from ≤ i = c.loop-index.auto.index in
    record {
      ids = ap (map (λ (id : NodeId). id.0)) (c.in_ok-push.ensures {u = tt}).ok
          ∙ map-append (λ (id : NodeId). id.0) c.loop-index.ids (c.kid.result.now.id ∷ [])
          ∙ ap (λ (l : List _). l ++ c.kid.result.now.id.0 ∷ []) c.loop-index.invariant.ids
          ∙ ids_more node from i c.kid.result.now node low kid;
      low = omega (arith, c.loop-index-test.true);
    }

pub returns : goal.returns
returns c =
    let node = c.args.found.now.node.now in
    let from = c.args.found.now.span.from in
    let to = c.args.found.now.span.to in
    let end : c.loop-index.index - from ≡ to - from = omega (arith, c.loop-index.invariant.low, c.loop-index-test.false) in
    c.loop-index.invariant.ids
    ∙ ap (λ n. map id_of (take n (drop from (children_of (flow_tree node))))) end
    ∙ ap (map id_of) (sym c.requires.cut)
    ∙ ap (map id_of) (sym (kids_marked c.args.first.0 c.args.second.0 node _ c.is_either.ensures c.if-is_either.false))
