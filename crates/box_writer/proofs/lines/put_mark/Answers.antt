use Rattle.std.proofs.Common.{◌≡◌, ◌∙◌, sym, ap, subst, rules, to_z, of_z, w64}
use Rattle.doc_io.specs.Pieces.{Puts}
use Rattle.box_writer.specs.Lines.{mark_line}
use Rattle.box_writer.proofs.Joined.{glyph_joined, glyph_same, built_joined, built_same}
use Rattle.box_writer.proofs.lines.put_mark.Goals as goal

pub returns-in-Glyph : goal.returns-in-Glyph
returns-in-Glyph g c =
    let told = g.O.Sink.told in
    let x : to_z w64 (of_z w64 c.in-Glyph.x) ≡ c.in-Glyph.x = search rules in
    let y : to_z w64 (of_z w64 c.in-Glyph.y) ≡ c.in-Glyph.y = search rules in
    let size : to_z w64 (of_z w64 c.in-Glyph.size) ≡ c.in-Glyph.size = search rules in
    subst (λ text. Puts (told c.args.out.now) (told c.put_around.new.out) c.args.piece.now c.put_around.new.piece text c.put_around.result)
    (glyph_joined _ _ _ _ _ _ (c.as_str.ensures ∙ c.glyph_ahead-ahead.ensures) c.name.ensures
    ∙ glyph_same _ _ _ _ _ _ _ x y size ∙ sym (ap (mark_line c.args.metrics.now) c.in-Glyph.is))
    c.put_around.ensures

pub returns-in-Built : goal.returns-in-Built
returns-in-Built g c =
    let told = g.O.Sink.told in
    let x : to_z w64 (of_z w64 c.in-Built.x) ≡ c.in-Built.x = search rules in
    let y : to_z w64 (of_z w64 c.in-Built.y) ≡ c.in-Built.y = search rules in
    let size : to_z w64 (of_z w64 c.in-Built.size) ≡ c.in-Built.size = search rules in
    let count : to_z w64 (of_z w64 c.in-Built.count) ≡ c.in-Built.count = search rules in
    let overlap : to_z w64 (of_z w64 c.in-Built.overlap) ≡ c.in-Built.overlap = search rules in
    subst (λ text. Puts (told c.args.out.now) (told c.put_around-in-Built.new.out) c.args.piece.now c.put_around-in-Built.new.piece text c.put_around-in-Built.result)
    (built_joined _ _ _ _ _ _ _ _ _ _
    (c.as_str-in-Built.ensures ∙ c.built_ahead-ahead.ensures) c.name-name.ensures (c.as_str-in-Built-2.ensures ∙ c.built_behind-behind.ensures)
    ∙ built_same _ _ _ _ _ _ _ _ _ _ _ _ x y size count overlap ∙ sym (ap (mark_line c.args.metrics.now) c.in-Built.is))
    c.put_around-in-Built.ensures
