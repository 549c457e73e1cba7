use Rattle.std.proofs.Common.{◌≡◌, length, arith}
use Rattle.kept_edits.proofs.Unlaid.{blank_made}
use Rattle.kept_edits.proofs.blanks.+blank.Goals as goal

pub returns : goal.returns
returns t c =
    let all : length c.as_slice-child-items.result.now ≡ c.loop-child.child-index = omega arith in
    blank_made c.args.node.now c.in_ok-facts.facts c.loop-child.kids c.in_ok-entries.entries c.loop-child.below c.as_slice-child-items.result.now c.loop-child.child-index
    (c.in_ok-facts.ensures {u = tt}) c.loop-child.invariant.known (c.in_ok-entries.ensures {u = tt}) c.loop-child.invariant.made c.as_slice-child-items.ensures all
