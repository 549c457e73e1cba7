use Rattle.std.proofs.Common.{rules, sym}
use Rattle.tree_edits.proofs.Measuring.{deep_here, deep_below, not_deep}
use Rattle.tree_edits.proofs.Paths.{from_place}
use Rattle.tree_edits.specs.Paths.{children_of}
use Rattle.tree_edits.proofs.measure.+is_deep.Goals as goal

pub returns-then-level-gt-MOST_LEVELS : goal.returns-then-level-gt-MOST_LEVELS
returns-then-level-gt-MOST_LEVELS t c = sym (deep_here c.args.level c.args.element.now c.if-level-gt-MOST_LEVELS.true)

pub returns-then-is_deep : goal.returns-then-is_deep
returns-then-is_deep t c =
    let place = from_place (children_of c.args.element.now) c.loop-child.child-index c.child-item.result (search rules) (search rules) in
    sym (deep_below c.args.level c.args.element.now c.loop-child.child-index c.child-item.result place (search rules))

pub returns : goal.returns
returns t c =
    sym (not_deep c.args.level c.args.element.now c.loop-child.child-index c.if-level-gt-MOST_LEVELS.false (search rules) c.loop-child.invariant)
