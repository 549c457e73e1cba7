use Rattle.std.proofs.Common.{◌<◌, refl, length, get_or, rules, arith, w64, to_z, of_z}
use Rattle.paint_list.specs.Pieces.{pieces_of}
use Rattle.paint_list.proofs.Running.{no_part, pieces-length-more}
use Rattle.paint_list.proofs.counts.piece_count.Goals as goal

pub loop-part-init : goal.loop-part-init
unfolding pieces_of
loop-part-init c = refl

pub overflow_add-pieces : goal.overflow_add-pieces
overflow_add-pieces c = omega (arith, c.loop-part.invariant)

pub loop-part-preserved : goal.loop-part-preserved
loop-part-preserved c =
    let parts = c.args.parts.now in
    let i = c.loop-part.part-index in
    let within : i < length parts = search rules in
    omega (arith, pieces-length-more (to_z w64 (of_z w64 c.args.count)) parts i no_part (get_or parts i no_part) within refl, c.loop-part.invariant)
