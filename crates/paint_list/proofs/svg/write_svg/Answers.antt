use Rattle.std.proofs.Common.{subst, append-nil, [], Ok, Err}
use Rattle.doc_io.specs.Pieces.{Puts}
use Rattle.doc_io.specs.declared.whole.WriteFault.{WriteFault}
use Rattle.doc_io.proofs.Written.{puts_cut, sent_all, sent_front}
use Rattle.paint_list.specs.Svg.{svg_of}
use Rattle.paint_list.proofs.Texts.{svg_some}
use Rattle.paint_list.proofs.svg.write_svg.Goals as goal

pub returns-in_err-put_svg : goal.returns-in_err-put_svg
returns-in_err-put_svg g c =
    let told = g.O.Sink.told in
    let svg = svg_of c.args.metrics.now c.args.frame.now c.args.paints.now in
    let put = subst (λ paints. Puts {E = WriteFault} (told c.args.out.now) (told c.put_svg.new.out) [] c.put_svg.new.piece (svg_of c.args.metrics.now c.args.frame.now paints) (Err c.in_err-put_svg.field-0.0)) c.as_slice.ensures
    (subst (λ held. Puts {E = WriteFault} (told c.args.out.now) (told c.put_svg.new.out) held c.put_svg.new.piece (svg_of c.args.metrics.now c.args.frame.now c.as_slice.result.now) (Err c.in_err-put_svg.field-0.0)) c.new-piece.ensures c.in_err-put_svg.ensures) in
    let cut = puts_cut _ _ _ _ svg [] _ _ put c.from_residual.ensures.0 in
    sent_front _ _ _ _ _ (subst (λ text. Puts {E = WriteFault} (told c.args.out.now) (told c.put_svg.new.out) [] c.put_svg.new.piece text c.from_residual.result) (append-nil svg) cut)
    c.from_residual.ensures.0 (svg_some c.args.metrics.now c.args.frame.now c.args.paints.now)

pub returns : goal.returns
returns g c =
    let told = g.O.Sink.told in
    let m = c.args.metrics.now in
    let frame = c.args.frame.now in
    let put : Puts {E = WriteFault} (told c.args.out.now) (told c.put_svg.new.out) [] c.put_svg.new.piece (svg_of m frame c.args.paints.now) (Ok tt) =
    subst (λ paints. Puts {E = WriteFault} (told c.args.out.now) (told c.put_svg.new.out) [] c.put_svg.new.piece (svg_of m frame paints) (Ok tt)) c.as_slice.ensures
    (subst (λ held. Puts {E = WriteFault} (told c.args.out.now) (told c.put_svg.new.out) held c.put_svg.new.piece (svg_of m frame c.as_slice.result.now) (Ok tt)) c.new-piece.ensures c.in_ok-put_svg.ensures) in
    sent_all _ _ _ _ _ _ put (λ none. absurd (svg_some m frame c.args.paints.now none)) c.send.ensures.writes
