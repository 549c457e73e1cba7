use Rattle.std.proofs.Common.{arith}
use Rattle.std.specs.List.{All}
use Rattle.std.proofs.lemmas.List.{length-append}
use Rattle.std.proofs.lemmas.List.Elements.{All-push, All-same}
use Rattle.span_tables.specs.Bounds.{HasSpan, IsStored}
use Rattle.box_kinds.proofs.Cells.{count-pushed}
use Rattle.box_kinds.proofs.values.cells.rows_in.Goals as goal

pub loop-item-preserved : goal.loop-item-preserved
loop-item-preserved c =
    let pushed = c.in_ok-push.ensures.ok in
    record {
      count = grind (arith, length-append, pushed, c.loop-item.invariant.count);
      few = omega (arith, count-pushed _ _ _ pushed, c.loop-item.invariant.few);
      spans = All-same (All HasSpan) _ _ pushed (All-push (All HasSpan) _ _ c.loop-item.invariant.spans c.in_ok-cells.ensures.spans);
      stored = All-same (All IsStored) _ _ pushed (All-push (All IsStored) _ _ c.loop-item.invariant.stored c.in_ok-cells.ensures.stored);
    }
