use Rattle.std.proofs.Common.{arith}
use Rattle.outcome_cells.proofs.encode.put_numbers.Goals as goal

pub put-requires : goal.put-requires
put-requires c = record { room = let made = (c.in_ok-reserve.ensures {u = tt}).room in omega (arith, made) }

pub put-requires-in-loop-number : goal.put-requires-in-loop-number
put-requires-in-loop-number c =
    record { room = let room = c.loop-number.invariant.room in let more = c.loop-number-test.true in omega (arith, room, more) }
