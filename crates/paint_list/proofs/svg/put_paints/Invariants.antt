use Rattle.std.proofs.Common.{take, Ok}
use Rattle.std.specs.List.{flat_map}
use Rattle.doc_io.specs.Pieces.{Puts}
use Rattle.doc_io.specs.declared.whole.WriteFault.{WriteFault}
use Rattle.paint_list.specs.Svg.{paint_text}
use Rattle.paint_list.proofs.svg.put_paints.Given as goal

-- the lines so far were put
abbrev pub invariant-loop-paint : goal.invariant-loop-paint
invariant-loop-paint g l =
    let told = g.O.Sink.told in
    Puts {E = WriteFault} (told l.fn.out) (told l.out) l.fn.piece l.piece
    (flat_map (paint_text l.metrics) (take l.paint-index l.paints)) (Ok tt)
