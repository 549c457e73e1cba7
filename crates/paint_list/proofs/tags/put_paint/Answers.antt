use Rattle.std.proofs.Common.{◌≡◌, ◌∙◌, sym, ap, subst, rules, to_z, of_z, w64}
use Rattle.doc_io.specs.Pieces.{Puts}
use Rattle.paint_list.specs.Svg.{paint_text, rect_if_shown, use_line}
use Rattle.paint_list.proofs.tags.put_paint.Goals as goal

pub returns-in-Glyph : goal.returns-in-Glyph
unfolding paint_text
returns-in-Glyph g c =
    let told = g.O.Sink.told in
    let x : to_z w64 (of_z w64 c.in-Glyph.x) ≡ c.in-Glyph.x = search rules in
    let y : to_z w64 (of_z w64 c.in-Glyph.y) ≡ c.in-Glyph.y = search rules in
    let size : to_z w64 (of_z w64 c.in-Glyph.size) ≡ c.in-Glyph.size = search rules in
    subst (λ text. Puts (told c.args.out.now) (told c.put_use.new.out) c.args.piece.now c.put_use.new.piece text c.put_use.result)
    ((λ i. use_line (x i) (y i) (size i) (c.name.ensures i)) ∙ sym (ap (paint_text c.args.metrics.now) c.in-Glyph.is)) c.put_use.ensures

pub returns-in-Rule : goal.returns-in-Rule
unfolding paint_text
returns-in-Rule g c =
    let told = g.O.Sink.told in
    let x : to_z w64 (of_z w64 c.in-Rule.x) ≡ c.in-Rule.x = search rules in
    let y : to_z w64 (of_z w64 c.in-Rule.y) ≡ c.in-Rule.y = search rules in
    let width : to_z w64 (of_z w64 c.in-Rule.width) ≡ c.in-Rule.width = search rules in
    let height : to_z w64 (of_z w64 c.in-Rule.height) ≡ c.in-Rule.height = search rules in
    subst (λ text. Puts (told c.args.out.now) (told c.put_rect.new.out) c.args.piece.now c.put_rect.new.piece text c.put_rect.result)
    ((λ i. rect_if_shown (x i) (y i) (width i) (height i)) ∙ sym (ap (paint_text c.args.metrics.now) c.in-Rule.is)) c.put_rect.ensures
