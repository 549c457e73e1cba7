use Rattle.std.proofs.Common.{◌≡◌, ◌∙◌, ◌<◌, ◌≤◌, sym, ap, subst, ℕ, List, length, get_or, map}
use Rattle.std.proofs.lemmas.List.{take_all}
use Rattle.math_tree.specs.declared.node.Node.{Node}
use Rattle.math_tree.specs.declared.node.Node.TheViews.{out-Node}
use Rattle.embellished.specs.Facts.{facts}
use Rattle.embellished.specs.Known.{IsKnown, known_of, own_facts}
use Rattle.embellished.specs.declared.known.Known.TheViews.{roll-Known}
use Rattle.embellished.proofs.KnownFacts.{is_known, known_made, own_are, map_more}
use Rattle.embellished.proofs.known.+known_of.Goals as goal

pub loop-child-preserved : goal.loop-child-preserved
loop-child-preserved t c =
    let nodes : List Node = (out-Node c.args.node.now).children in
    let at = c.loop-child.child-index in
    let node : Node = c.child-item.result in
    let items = c.as_slice-child-items.ensures in
    let within : at < length nodes = subst (λ l. at < length l) items c.loop-child-test.true in
    let is : node ≡ get_or nodes at node = c.child-item.is ∙ ap (λ l. get_or l at node) items in
    let known : c.in_ok-known.known ≡ known_of node = (c.in_ok-known.ensures {u = tt}).exact in
    let own : own_facts c.in_ok-known.known ≡ facts node = ap own_facts known ∙ own_are node in (
      (c.in_ok-push.ensures {u = tt}).ok ∙ map_more facts c.loop-child.kids nodes at node _ c.loop-child.invariant.0 within is own,
      (c.in_ok-push-2.ensures {u = tt}).ok ∙ map_more known_of c.loop-child.below nodes at node _ c.loop-child.invariant.1 within is known,
    )

-- what was made
made : (t : ℕ) (c : goal.In_ok-facts t)
    → roll-Known record { facts = c.in_ok-facts.facts; kids = c.loop-child.kids; below = c.loop-child.below } ≡ known_of c.args.node.now
made t c =
    let node = c.args.node.now in
    let nodes = (out-Node node).children in
    let done : length nodes ≤ c.loop-child.child-index = subst (λ l. length l ≤ c.loop-child.child-index) c.as_slice-child-items.ensures c.loop-child-test.false in
    let all = take_all c.loop-child.child-index nodes done in
    known_made node c.in_ok-facts.facts c.loop-child.kids c.loop-child.below
    (c.loop-child.invariant.1 ∙ ap (map known_of) all) (c.loop-child.invariant.0 ∙ ap (map facts) all) (c.in_ok-facts.ensures {u = tt})

pub returns : goal.returns
returns t c = record { exact = made t c; tells = subst (IsKnown c.args.node.now) (sym (made t c)) (is_known c.args.node.now) }
