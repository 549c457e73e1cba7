use Rattle.std.proofs.Common.{arith}
use Rattle.std.proofs.lemmas.List.Elements.{All-more}
use Rattle.outcome_cells.specs.Cells.{IsSpanHeld, span_numbers}
use Rattle.outcome_cells.proofs.Encoding.{cells_more}
use Rattle.outcome_cells.proofs.encode.put_spans.Goals as goal

pub put-requires : goal.put-requires
put-requires c = record { room = let made = (c.in_ok-reserve.ensures {u = tt}).room in omega (arith, made) }

pub put_span-requires : goal.put_span-requires
put_span-requires c =
    record { room = let room = c.loop-span.invariant.room in let more = c.loop-span-test.true in omega (arith, room, more) }

pub loop-span-preserved : goal.loop-span-preserved
loop-span-preserved c =
    let added = c.put_span.ensures in
    let so_far = c.loop-span.invariant in
    let i = c.loop-span.span-index in
    record {
      put = cells_more span_numbers c.args.spans.now i _ _ _ _ c.loop-span-test.true so_far.put added.put;
      held = All-more IsSpanHeld c.args.spans.now i _ c.loop-span-test.true so_far.held added.held;
      room = let room = so_far.room in let len = added.len in let same = added.room in omega (arith, room, len, same);
    }
