use Rattle.std.proofs.Common.{◌≡◌, get_or, arith, lit<}
use Rattle.std.proofs.lemmas.Int.{to_z-of_z}
use Rattle.fixed_units.specs.Boxes.{raised, joined}
use Rattle.fixed_units.proofs.Within.{natural_in, difference_in, fits_i64}
use Rattle.scripts.specs.Beside.{below}
use Rattle.multiscripts.specs.Along.{no_pair}
use Rattle.multiscripts.proofs.Moves.{may_be_raised, one_pair_more}
use Rattle.multiscripts.proofs.Pairs.{pair_stored}
use Rattle.multiscripts.proofs.heights.union.Goals as goal

pub raise-requires-clause-part_in : goal.raise-requires-clause-part_in
raise-requires-clause-part_in c =
    may_be_raised _ (pair_stored c.args.pairs.now c.loop-pair.pair-index c.loop-pair-test.true c.requires.fit).sub

pub raise-requires-in-loop-pair-clause-part_in : goal.raise-requires-in-loop-pair-clause-part_in
raise-requires-in-loop-pair-clause-part_in c =
    may_be_raised _ (pair_stored c.args.pairs.now c.loop-pair.pair-index c.loop-pair-test.true c.requires.fit).sup

pub loop-pair-preserved : goal.loop-pair-preserved
loop-pair-preserved c =
    let f = fits_i64 c.requires.up_in (lit< tt) in
    let g = fits_i64 c.requires.down_in (lit< tt) in
    let h = fits_i64 (difference_in (natural_in 0) c.requires.down_in) (lit< tt) in
    let pair = get_or c.args.pairs.now c.loop-pair.pair-index no_pair in
    let all : c.join-all-in-loop-pair.result ≡ joined (joined c.loop-pair.all (below pair.sub c.args.shifts.now.down)) (raised pair.sup c.args.shifts.now.up) =
    grind (arith, to_z-of_z) in
    one_pair_more c.args.base.now c.args.shifts.now c.args.pairs.now c.loop-pair.pair-index c.loop-pair.all _ c.loop-pair-test.true c.loop-pair.invariant all
