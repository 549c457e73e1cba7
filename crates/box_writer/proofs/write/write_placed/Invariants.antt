use Rattle.std.proofs.Common.{◌≡◌, [], take}
use Rattle.std.specs.Prelude.{Ok}
use Rattle.doc_io.specs.Pieces.{Puts}
use Rattle.doc_io.specs.declared.whole.WriteFault.{WriteFault}
use Rattle.box_writer.specs.Lines.{text_of}
use Rattle.box_writer.proofs.write.write_placed.Given as goal

-- the lines so far were put, and before the first of them nothing was
abbrev pub invariant-loop-item : goal.invariant-loop-item
invariant-loop-item g l =
    let before = g.O.Sink.told l.fn.out in
    let now = g.O.Sink.told l.out in
    record {
      puts : Puts {E = WriteFault} before now [] l.piece (text_of l.metrics (take l.item-index l.placed)) (Ok tt);
      untouched : l.item-index ≡ 0 → (now ≡ before) × (l.piece ≡ []);
    }
