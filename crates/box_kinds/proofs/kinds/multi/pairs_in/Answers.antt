use Rattle.std.proofs.Common.{arith}
use Rattle.std.proofs.lemmas.List.{length-append}
use Rattle.std.proofs.lemmas.List.Elements.{All-push, All-same}
use Rattle.multiscripts.specs.Along.{IsPairStored}
use Rattle.box_kinds.proofs.kinds.multi.pairs_in.Goals as goal

pub loop-item-preserved : goal.loop-item-preserved
loop-item-preserved c = record {
  count = grind (arith, length-append, c.in_ok-push.ensures.ok, c.loop-item.invariant.count);
  stored = All-same IsPairStored _ _ c.in_ok-push.ensures.ok
      (All-push IsPairStored _ _ c.loop-item.invariant.stored c.in_ok-pair_of.ensures);
}
