use Rattle.std.proofs.lemmas.List.Elements.{All-push, All-same}
use Rattle.span_tables.specs.Bounds.{HasSpan, IsStored}
use Rattle.box_kinds.proofs.values.cells.cells_in.Goals as goal

pub loop-item-preserved : goal.loop-item-preserved
loop-item-preserved c =
    let pushed = c.in_ok-push.ensures.ok in
    record {
      spans = All-same HasSpan _ _ pushed (All-push HasSpan _ _ c.loop-item.invariant.spans c.in_ok-cell_of.ensures.span);
      stored = All-same IsStored _ _ pushed (All-push IsStored _ _ c.loop-item.invariant.stored c.in_ok-cell_of.ensures.stored);
    }
