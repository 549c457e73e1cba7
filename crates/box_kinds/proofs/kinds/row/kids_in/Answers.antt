use Rattle.std.proofs.Common.{arith}
use Rattle.std.proofs.lemmas.List.{length-append}
use Rattle.std.proofs.lemmas.List.Elements.{All-push, All-same}
use Rattle.row_stretch.specs.Equation.{IsKidStored}
use Rattle.box_kinds.proofs.kinds.row.kids_in.Goals as goal

pub loop-item-preserved : goal.loop-item-preserved
loop-item-preserved c = record {
  count = grind (arith, length-append, c.in_ok-push.ensures.ok, c.loop-item.invariant.count);
  stored = All-same IsKidStored _ _ c.in_ok-push.ensures.ok
      (All-push IsKidStored _ _ c.loop-item.invariant.stored c.in_ok-kid_of.ensures);
}
