use Rattle.std.proofs.Common.{◌∙◌, lit<}
use Rattle.font_metrics.proofs.Scaling.{back64, size_in}
use Rattle.glyph_assembly.specs.Shaping.{display_of}
use Rattle.op_dictionary.specs.declared.operator.Axis.TheVariants.{Block}
use Rattle.token_boxes.specs.Operator.{large, lowered_glyph, large_drop}
use Rattle.token_boxes.proofs.Leaves.{glyph_is}
use Rattle.token_boxes.proofs.stretched.large.Goals as goal

pub returns : goal.returns
unfolding large
returns c =
    let m = c.args.metrics.now in
    let glyph = glyph_is c.glyph_of-glyph.result _ c.glyph_of-glyph.ensures.value in
    let size = back64 (size_in c.args.size c.requires.size_low c.requires.size_high) (lit< tt) in
    let shaped = c.display_variant-shaped.ensures.value
    ∙ (λ i. display_of m (c.glyph_of-glyph.ensures.value i) (size i)) in
    let drop = back64 c.large_drop-drop.ensures.within (lit< tt) ∙ c.large_drop-drop.ensures.value
    ∙ (λ i. large_drop m (size i) c.args.symmetric (shaped i).frame) in
    c.lowered_glyph.ensures ∙ (λ i. lowered_glyph (size i) (glyph i) Block (shaped i) (drop i))
