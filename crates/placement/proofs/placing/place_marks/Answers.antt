use Rattle.placement.proofs.Near.{mark_at}
use Rattle.placement.proofs.placing.place_marks.Goals as goal

pub add_mark-requires-clause-mark_x : goal.add_mark-requires-clause-mark_x
add_mark-requires-clause-mark_x c = (mark_at c.args.marks.now c.loop-mark.mark-index _ c.requires.stored c.loop-mark-test.true).right

pub add_mark-requires-clause-mark_y : goal.add_mark-requires-clause-mark_y
add_mark-requires-clause-mark_y c = (mark_at c.args.marks.now c.loop-mark.mark-index _ c.requires.stored c.loop-mark-test.true).down
