use Rattle.std.proofs.Common.{arith}
use Rattle.std.proofs.lemmas.List.{length-append}
use Rattle.std.proofs.lemmas.List.Elements.{All-push, All-same}
use Rattle.fixed_units.specs.Boxes.{IsStored}
use Rattle.box_kinds.proofs.values.boxes.boxes_in.Goals as goal

pub loop-item-preserved : goal.loop-item-preserved
loop-item-preserved c = record {
  count = grind (arith, length-append, c.in_ok-push.ensures.ok, c.loop-item.invariant.count);
  stored = All-same IsStored _ _ c.in_ok-push.ensures.ok
      (All-push IsStored _ _ c.loop-item.invariant.stored c.in_ok-stored_box.ensures);
}
