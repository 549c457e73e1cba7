use Rattle.std.proofs.Common.{◌∷◌, subst, sym, get_or, to_z, of_z, w64, ◌^◌}
use Rattle.std.proofs.lemmas.List.Elements.{All-head, All-tail}
use Rattle.std.specs.List.{All}
use Rattle.multiscripts.specs.Along.{no_pair, IsPairStored}
use Rattle.multiscripts.specs.Heights.{alone_of}
use Rattle.multiscripts.proofs.Moves.{larger_in, one_shift_more}
use Rattle.scripts.specs.Shifts.{AreShiftsWithin}
use Rattle.multiscripts.proofs.Pairs.{pair_stored}
use Rattle.multiscripts.proofs.heights.all_shifts.Goals as goal
use Rattle.multiscripts.proofs.heights.all_shifts.Goals.{In-Some, In-loop-pair}

all_stored : (c : In-Some) → All IsPairStored (c.in-Some.first.now ∷ c.in-Some.others.now)
all_stored c = subst (All IsPairStored) (c.in-Some.ensures {u = tt}).cases.0 c.requires.fit

other_stored : (c : In-loop-pair) → IsPairStored (get_or c.in-Some.others.now c.loop-pair.pair-index no_pair)
other_stored c =
    pair_stored c.in-Some.others.now c.loop-pair.pair-index c.loop-pair-test.true
    (All-tail IsPairStored c.in-Some.first.now c.in-Some.others.now (subst (All IsPairStored) (c.in-Some.ensures {u = tt}).cases.0 c.requires.fit))

pub pair_shifts-all-requires-clause-sub_fits : goal.pair_shifts-all-requires-clause-sub_fits
pair_shifts-all-requires-clause-sub_fits c = (All-head IsPairStored c.in-Some.first.now c.in-Some.others.now (all_stored c)).sub

pub pair_shifts-all-requires-clause-sup_fits : goal.pair_shifts-all-requires-clause-sup_fits
pair_shifts-all-requires-clause-sup_fits c = (All-head IsPairStored c.in-Some.first.now c.in-Some.others.now (all_stored c)).sup

pub pair_shifts-alone-requires-clause-sub_fits : goal.pair_shifts-alone-requires-clause-sub_fits
pair_shifts-alone-requires-clause-sub_fits c = (other_stored c).sub

pub pair_shifts-alone-requires-clause-sup_fits : goal.pair_shifts-alone-requires-clause-sup_fits
pair_shifts-alone-requires-clause-sup_fits c = (other_stored c).sup

pub loop-pair-preserved : goal.loop-pair-preserved
loop-pair-preserved c =
    let size = to_z w64 (of_z w64 c.args.size) in
    let largest = one_shift_more (alone_of c.args.metrics.now size c.args.cramped c.args.base.now) _ c.in-Some.others.now c.loop-pair.pair-index
    c.loop-pair.all c.pair_shifts-alone.result c.larger-all.result c.loop-pair-test.true c.loop-pair.invariant.largest c.pair_shifts-alone.ensures.value c.larger-all.ensures in
    record {
      largest = largest;
      within = subst (AreShiftsWithin (2 ^ 40)) (sym c.larger-all.ensures) (larger_in _ _ c.loop-pair.invariant.within c.pair_shifts-alone.ensures.within);
    }
