use Rattle.std.proofs.Common.{arith}
use Rattle.std.proofs.lemmas.List.Elements.{All-more}
use Rattle.outcome_cells.specs.Cells.{IsOffsetHeld, offset_numbers}
use Rattle.outcome_cells.proofs.Encoding.{cells_more}
use Rattle.outcome_cells.proofs.encode.put_offsets.Goals as goal

pub put-requires : goal.put-requires
put-requires c = record { room = let made = (c.in_ok-reserve.ensures {u = tt}).room in omega (arith, made) }

pub put_offset-requires : goal.put_offset-requires
put_offset-requires c =
    record { room = let room = c.loop-offset.invariant.room in let more = c.loop-offset-test.true in omega (arith, room, more) }

pub loop-offset-preserved : goal.loop-offset-preserved
loop-offset-preserved c =
    let added = c.put_offset.ensures in
    let so_far = c.loop-offset.invariant in
    let i = c.loop-offset.offset-index in
    record {
      put = cells_more offset_numbers c.args.offsets.now i _ _ _ _ c.loop-offset-test.true so_far.put added.put;
      held = All-more IsOffsetHeld c.args.offsets.now i _ c.loop-offset-test.true so_far.held added.held;
      room = let room = so_far.room in let len = added.len in let same = added.room in omega (arith, room, len, same);
    }
