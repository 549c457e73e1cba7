use Rattle.std.proofs.Common.{◌≡◌, [], take}
use Rattle.std.specs.Prelude.{Ok}
use Rattle.doc_io.specs.Pieces.{Puts}
use Rattle.doc_io.specs.declared.whole.WriteFault.{WriteFault}
use Rattle.queries.specs.Lines.{lines_of_areas}
use Rattle.queries.proofs.lines.write_areas.Given as goal

-- the lines so far were put, and before the first of them nothing was
abbrev pub invariant-loop-area : goal.invariant-loop-area
invariant-loop-area g l =
    let before = g.O.Sink.told l.fn.out in
    let now = g.O.Sink.told l.out in
    record {
      puts : Puts {E = WriteFault} before now [] l.piece (lines_of_areas (take l.area-index l.areas)) (Ok tt);
      untouched : l.area-index ≡ 0 → (now ≡ before) × (l.piece ≡ []);
    }
