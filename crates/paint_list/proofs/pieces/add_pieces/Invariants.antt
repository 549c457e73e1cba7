use Rattle.std.proofs.Common.{◌≡◌, ◌++◌, take, pos}
use Rattle.paint_list.specs.Pieces.{pieces_of}
use Rattle.paint_list.specs.Running.{laid_from, start_after}
use Rattle.paint_list.proofs.pieces.add_pieces.Given as goal

-- the pieces of the parts so far, and where the next one begins
abbrev pub invariant-loop-part : goal.invariant-loop-part
invariant-loop-part l =
    let before = pieces_of l.built.count (take l.part-index l.parts) in
    record {
      paints : l.paints ≡ l.fn.paints ++ laid_from l.metrics l.built (pos 0) before;
      start : l.start ≡ start_after l.metrics l.built (pos 0) before;
    }
