use Rattle.std.proofs.Common.{◌≡◌, ◌∙◌, ap, subst, refl, rules, ◌+◌, ◌<◌, ◌++◌, length, take, drop, get_or, Ok}
use Rattle.std.specs.List.{flat_map}
use Rattle.std.proofs.Math.Seq.{take-length}
use Rattle.doc_io.specs.Pieces.{Puts}
use Rattle.doc_io.specs.declared.whole.WriteFault.{WriteFault}
use Rattle.doc_io.proofs.Written.{puts_next, puts_cut}
use Rattle.paint_list.specs.Svg.{paint_text}
use Rattle.paint_list.proofs.Texts.{no_paint, puts_none, texts-more, texts-split}
use Rattle.paint_list.proofs.svg.put_paints.Goals as goal

pub loop-paint-init : goal.loop-paint-init
loop-paint-init g c = puts_none (g.O.Sink.told c.args.out.now) c.args.piece.now

pub loop-paint-preserved : goal.loop-paint-preserved
loop-paint-preserved g c =
    let told = g.O.Sink.told in
    let paints = c.args.paints.now in
    let i = c.loop-paint.paint-index in
    let within : i < length paints = search rules in
    let paint = get_or paints i no_paint in
    subst (λ text. Puts {E = WriteFault} (told c.args.out.now) (told c.put_paint.new.out) c.args.piece.now c.put_paint.new.piece text (Ok tt))
    (texts-more c.args.metrics.now paints i no_paint paint within refl)
    (puts_next _ _ _ _ _ _ _ _ _ c.loop-paint.invariant c.in_ok-put_paint.ensures)

pub returns-in_err-put_paint : goal.returns-in_err-put_paint
returns-in_err-put_paint g c =
    let told = g.O.Sink.told in
    let m = c.args.metrics.now in
    let paints = c.args.paints.now in
    let i = c.loop-paint.paint-index in
    let within : i < length paints = search rules in
    let paint = get_or paints i no_paint in
    let whole : (flat_map (paint_text m) (take i paints) ++ paint_text m paint) ++ flat_map (paint_text m) (drop (i + 1) paints)
    ≡ flat_map (paint_text m) paints =
    ap (λ l. l ++ flat_map (paint_text m) (drop (i + 1) paints)) (texts-more m paints i no_paint paint within refl) ∙ texts-split m paints (i + 1) in
    let put = puts_next _ _ _ _ _ _ _ _ _ c.loop-paint.invariant c.in_err-put_paint.ensures in
    subst (λ text. Puts {E = WriteFault} (told c.args.out.now) (told c.put_paint.new.out) c.args.piece.now c.put_paint.new.piece text c.from_residual.result) whole
    (puts_cut _ _ _ _ _ (flat_map (paint_text m) (drop (i + 1) paints)) _ _ put c.from_residual.ensures.0)

pub returns : goal.returns
returns g c =
    let told = g.O.Sink.told in
    let paints = c.args.paints.now in
    let end : c.loop-paint.paint-index ≡ length paints = search rules in
    subst (λ l. Puts {E = WriteFault} (told c.args.out.now) (told c.loop-paint.out) c.args.piece.now c.loop-paint.piece (flat_map (paint_text c.args.metrics.now) l) (Ok tt))
    (ap (λ n. take n paints) end ∙ take-length paints) c.loop-paint.invariant
