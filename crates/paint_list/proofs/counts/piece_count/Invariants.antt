use Rattle.std.proofs.Common.{◌≡◌, ◌+◌, min, length, take}
use Rattle.paint_list.specs.Paints.{most_paints}
use Rattle.paint_list.specs.Pieces.{pieces_of}
use Rattle.paint_list.proofs.counts.piece_count.Given as goal

-- the parts so far
abbrev pub invariant-loop-part : goal.invariant-loop-part
invariant-loop-part l = l.pieces ≡ min (length (pieces_of l.count (take l.part-index l.parts))) (most_paints + 1)
