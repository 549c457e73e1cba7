use Rattle.std.proofs.Common.{◌≡◌, ◌∙◌, ap, sym, lit<}
use Rattle.std.specs.Option.{option_map_or}
use Rattle.font_metrics.proofs.Scaling.{back64, size_in}
use Rattle.font_metrics.specs.Metrics.{constant_of, variants_of}
use Rattle.font_metrics.specs.declared.constants.ConstName.TheVariants.{DisplayOperatorMinHeight}
use Rattle.op_dictionary.specs.declared.operator.Axis.TheVariants.{Block}
use Rattle.glyph_assembly.specs.Shaping.{larger, first_reaching, largest_glyph, display_of}
use Rattle.glyph_assembly.proofs.shaping.display_variant.Goals as goal
use Rattle.glyph_assembly.proofs.shaping.display_variant.Goals.{After-first_reaching}

found_is : (c : After-first_reaching) → c.first_reaching.result
    ≡ first_reaching c.args.metrics.now c.args.size (constant_of c.args.metrics.now DisplayOperatorMinHeight c.args.size)
    (variants_of c.args.metrics.now c.args.glyph.0 Block)
found_is c =
    let m = c.args.metrics.now in
    let size = back64 (size_in c.args.size c.requires.size_low c.requires.size_high) (lit< tt) in
    let least = back64 c.constant-least.ensures.within (lit< tt) ∙ c.constant-least.ensures.value ∙ ap (constant_of m DisplayOperatorMinHeight) size in
    c.first_reaching.ensures.value ∙ (λ k. first_reaching m (size k) (least k) (c.variants-variants.ensures.value k))

pub returns-in-Some-clause-value : goal.returns-in-Some-clause-value
unfolding display_of
returns-in-Some-clause-value c =
    let m = c.args.metrics.now in
    let size = back64 (size_in c.args.size c.requires.size_low c.requires.size_high) (lit< tt) in
    let found = sym (found_is (goal.at.returns-in-Some-clause-value c).After-first_reaching) ∙ c.in-Some.is in
    c.larger.ensures.value ∙ ap (λ z. larger m z c.in-Some.variant) size
    ∙ sym (ap (λ found. option_map_or (larger m c.args.size) found
    (largest_glyph m c.args.glyph.0 c.args.size (variants_of m c.args.glyph.0 Block))) found)

pub returns-in-None-clause-value : goal.returns-in-None-clause-value
unfolding display_of
returns-in-None-clause-value c =
    let m = c.args.metrics.now in
    let size = back64 (size_in c.args.size c.requires.size_low c.requires.size_high) (lit< tt) in
    let found = sym (found_is (goal.at.returns-in-None-clause-value c).After-first_reaching) ∙ c.in-None.is in
    c.largest_glyph.ensures.value ∙ (λ k. largest_glyph m c.args.glyph.0 (size k) (c.variants-variants.ensures.value k))
    ∙ sym (ap (λ found. option_map_or (larger m c.args.size) found
    (largest_glyph m c.args.glyph.0 c.args.size (variants_of m c.args.glyph.0 Block))) found)
