use Rattle.outcomes.proofs.Casts.{difference_fits, mirrored_fits, mirrored_told}
use Rattle.outcomes.proofs.direction.mirrored.Goals as goal

pub overflow_sub-result : goal.overflow_sub-result
overflow_sub-result c = difference_fits c.args.whole c.args.x c.from.result c.from-2.result c.ranges.whole c.ranges.x c.from.ensures c.from-2.ensures

pub overflow_sub-result-2 : goal.overflow_sub-result-2
overflow_sub-result-2 c =
    mirrored_fits c.args.whole c.args.part c.args.x c.from.result c.from-2.result c.ranges.whole c.ranges.x c.requires c.from.ensures c.from-2.ensures

pub returns : goal.returns
returns c =
    mirrored_told c.args.whole c.args.part c.args.x c.from.result c.from-2.result c.ranges.whole c.ranges.x c.requires c.from.ensures c.from-2.ensures
