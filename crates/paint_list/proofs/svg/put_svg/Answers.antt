use Rattle.std.proofs.Common.{◌∙◌, ap, subst, ◌++◌}
use Rattle.std.specs.List.{flat_map}
use Rattle.doc_io.specs.Pieces.{Puts}
use Rattle.doc_io.proofs.Written.{puts_next, puts_cut}
use Rattle.paint_list.specs.Svg.{end_line, paint_text}
use Rattle.paint_list.proofs.Texts.{svg_parts}
use Rattle.paint_list.proofs.svg.put_svg.Goals as goal

pub returns-in_err-put : goal.returns-in_err-put
returns-in_err-put g c =
    let told = g.O.Sink.told in
    let m = c.args.metrics.now in
    let rest = flat_map (paint_text m) c.args.paints.now ++ end_line in
    subst (λ text. Puts (told c.args.out.now) (told c.put.new.out) c.args.piece.now c.put.new.self text c.from_residual.result)
    (ap (λ l. l ++ rest) (c.as_str.ensures ∙ c.head_line.ensures) ∙ svg_parts m c.args.frame.now c.args.paints.now)
    (puts_cut _ _ _ _ _ rest _ _ c.in_err-put.ensures c.from_residual.ensures.0)

pub returns-in_err-put_paints : goal.returns-in_err-put_paints
returns-in_err-put_paints g c =
    let told = g.O.Sink.told in
    let m = c.args.metrics.now in
    let rest = flat_map (paint_text m) c.args.paints.now ++ end_line in
    subst (λ text. Puts (told c.args.out.now) (told c.put_paints.new.out) c.args.piece.now c.put_paints.new.piece text c.from_residual-in_err-put_paints.result)
    (ap (λ l. l ++ rest) (c.as_str.ensures ∙ c.head_line.ensures) ∙ svg_parts m c.args.frame.now c.args.paints.now)
    (puts_next _ _ _ _ _ _ _ _ _ c.in_ok-put.ensures
    (puts_cut _ _ _ _ _ end_line _ _ c.in_err-put_paints.ensures c.from_residual-in_err-put_paints.ensures.0))

pub returns : goal.returns
returns g c =
    let told = g.O.Sink.told in
    let m = c.args.metrics.now in
    let rest = flat_map (paint_text m) c.args.paints.now ++ end_line in
    subst (λ text. Puts (told c.args.out.now) (told c.put-2.new.out) c.args.piece.now c.put-2.new.self text c.put-2.result)
    (ap (λ l. l ++ rest) (c.as_str.ensures ∙ c.head_line.ensures) ∙ svg_parts m c.args.frame.now c.args.paints.now)
    (puts_next _ _ _ _ _ _ _ _ _ c.in_ok-put.ensures (puts_next _ _ _ _ _ _ _ _ _ c.in_ok-put_paints.ensures c.put-2.ensures))
