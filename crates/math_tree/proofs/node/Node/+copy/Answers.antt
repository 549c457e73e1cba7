use Rattle.std.proofs.Common.{◌≡◌, ◌∙◌, ◌≤◌, length, rules}
use Rattle.std.proofs.lemmas.List.{take_all}
use Rattle.math_tree.specs.declared.node.Node.TheViews.{out-Node, roll-out-Node}
use Rattle.math_tree.proofs.node.Node.+copy.Goals as goal

pub returns : goal.returns
returns t c =
    let children = (out-Node c.args.self.now).children in
    let past : length children ≤ c.loop-child.child-index = search rules in
    let all : c.loop-child.children ≡ children = c.loop-child.invariant ∙ take_all c.loop-child.child-index children past in
    rw (c.in_ok-copy-2.ensures, all) (roll-out-Node c.args.self.now)
