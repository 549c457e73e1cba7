use Rattle.std.proofs.Common.{◌≡◌, ◌∙◌, ap, lit<, to_z, of_z, w64, ◌+ℤ◌, ◌-ℤ◌}
use Rattle.fixed_units.proofs.Within.{difference_in}
use Rattle.font_metrics.proofs.Scaling.{back64, size_in}
use Rattle.glyph_assembly.specs.Shaping.{shaped_of}
use Rattle.glyph_assembly.specs.Targets.{total}
use Rattle.op_dictionary.specs.declared.operator.Axis.TheVariants.{Block}
use Rattle.token_boxes.specs.Operator.{upward, lowered_glyph, drop_of}
use Rattle.token_boxes.proofs.Leaves.{glyph_is}
use Rattle.token_boxes.proofs.stretched.upward.Goals as goal

pub returns : goal.returns
unfolding upward
returns c =
    let m = c.args.metrics.now in
    let span = c.args.span in
    let glyph = glyph_is c.glyph_of-glyph.result _ c.glyph_of-glyph.ensures.value in
    let size = back64 (size_in c.args.size c.requires.size_low c.requires.size_high) (lit< tt) in
    let up = back64 c.requires.span_in.ascent (lit< tt) in
    let down = back64 c.requires.span_in.descent (lit< tt) in
    let all : to_z w64 (of_z w64 (to_z w64 (of_z w64 span.0) +ℤ to_z w64 (of_z w64 span.1))) ≡ total span =
    ap (λ z. to_z w64 (of_z w64 z)) (λ i. up i +ℤ down i) ∙ back64 c.requires.span_in.total (lit< tt) in
    let rise : to_z w64 (of_z w64 (to_z w64 (of_z w64 span.0) -ℤ to_z w64 (of_z w64 span.1))) ≡ span.0 -ℤ span.1 =
    ap (λ z. to_z w64 (of_z w64 z)) (λ i. up i -ℤ down i)
    ∙ back64 (difference_in c.requires.span_in.ascent c.requires.span_in.descent) (lit< tt) in
    let shaped = c.shape-shaped.ensures.value
    ∙ (λ i. shaped_of m (c.glyph_of-glyph.ensures.value i) Block (all i) (size i)) in
    let drop = back64 c.drop-drop.ensures.within (lit< tt) ∙ c.drop-drop.ensures.value
    ∙ (λ i. drop_of (shaped i).frame (rise i)) in
    c.lowered_glyph.ensures ∙ (λ i. lowered_glyph (size i) (glyph i) Block (shaped i) (drop i))
