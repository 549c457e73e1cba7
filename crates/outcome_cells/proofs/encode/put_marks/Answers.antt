use Rattle.std.proofs.Common.{arith}
use Rattle.std.proofs.lemmas.List.Elements.{All-more}
use Rattle.outcome_cells.specs.Cells.{IsMarkHeld, mark_numbers}
use Rattle.outcome_cells.proofs.Encoding.{cells_more}
use Rattle.outcome_cells.proofs.encode.put_marks.Goals as goal

pub put-requires : goal.put-requires
put-requires c = record { room = let made = (c.in_ok-reserve.ensures {u = tt}).room in omega (arith, made) }

pub put_mark-requires : goal.put_mark-requires
put_mark-requires c =
    record { room = let room = c.loop-mark.invariant.room in let more = c.loop-mark-test.true in omega (arith, room, more) }

pub loop-mark-preserved : goal.loop-mark-preserved
loop-mark-preserved c =
    let added = c.put_mark.ensures in
    let so_far = c.loop-mark.invariant in
    let i = c.loop-mark.mark-index in
    record {
      put = cells_more mark_numbers c.args.marks.now i _ _ _ _ c.loop-mark-test.true so_far.put added.put;
      held = All-more IsMarkHeld c.args.marks.now i _ c.loop-mark-test.true so_far.held added.held;
      room = let room = so_far.room in let len = added.len in let same = added.room in omega (arith, room, len, same);
    }
