use Rattle.std.proofs.Common.{◌∙◌, lit<, pos}
use Rattle.font_metrics.specs.declared.mark.Mark.TheVariants.{Glyph}
use Rattle.font_metrics.proofs.Scaling.{back64, size_in}
use Rattle.glyph_assembly.specs.Glyphs.{frame_at}
use Rattle.token_boxes.specs.Token.{lone_letter, on_line}
use Rattle.token_boxes.proofs.Leaves.{glyph_is}
use Rattle.token_boxes.proofs.tokens.lone_letter.Goals as goal

pub returns : goal.returns
unfolding lone_letter
returns c =
    let m = c.args.metrics.now in
    let glyph = glyph_is c.glyph_of-glyph.result _ c.glyph_of-glyph.ensures.value in
    let size = back64 (size_in c.args.size c.requires.size_low c.requires.size_high) (lit< tt) in
    let inked = c.glyph_frame.ensures.value ∙ (λ i. frame_at m (c.glyph_of-glyph.ensures.value i) (size i)) in
    let frame = c.on_line-frame.ensures ∙ (λ i. on_line m (size i) (inked i)) in
    λ i. record { frame = frame i; mark = Glyph (pos 0) (pos 0) (size i) (glyph i) }
