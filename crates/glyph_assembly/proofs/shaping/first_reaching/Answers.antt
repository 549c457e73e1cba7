use Rattle.std.proofs.Common.{◌≡◌, ◌∙◌, ap, sym, rules, int_le, to_z, of_z, w64, FitsSigned, lit<, get_or, pos}
use Rattle.std.proofs.lemmas.Int.{to_z-of_z}
use Rattle.std.proofs.lemmas.List.{take_all}
use Rattle.std.proofs.lemmas.List.Elements.{All-get_or}
use Rattle.std.specs.List.{find}
use Rattle.std.specs.Option.{option_map}
use Rattle.font_metrics.proofs.Scaling.{back64, size_in}
use Rattle.font_metrics.specs.Metrics.{scale_of}
use Rattle.font_metrics.specs.Taken.{IsVariant}
use Rattle.font_metrics.specs.declared.growth.Variant.{Variant}
use Rattle.glyph_assembly.specs.Shaping.{reaches}
use Rattle.glyph_assembly.proofs.Finding.{find_here, find_further}
use Rattle.glyph_assembly.proofs.PartSums.{length_back}
use Rattle.glyph_assembly.proofs.shaping.first_reaching.Goals as goal
use Rattle.glyph_assembly.proofs.shaping.first_reaching.Goals.{After-scale}

-- what stands for a variant that isn't there
abbrev none : Variant
none = record { glyph = record { 0 = 0 }; measure = pos 0 }

measured : (c : After-scale) → to_z w64 (of_z w64 c.scale.result)
    ≡ scale_of c.args.metrics.now (get_or c.args.variants.now c.loop-variant.variant-index none).measure (to_z w64 (of_z w64 c.args.size))
measured c =
    let is = All-get_or (IsVariant _) c.args.variants.now c.loop-variant.variant-index none c.loop-variant-test.true c.requires.variants in
    back64 c.scale.ensures.within (lit< tt) ∙ c.scale.ensures.value
    ∙ ap (λ z. scale_of c.args.metrics.now z (to_z w64 (of_z w64 c.args.size))) (length_back _ is.measure)

pub loop-variant-preserved : goal.loop-variant-preserved
loop-variant-preserved c =
    let m = c.args.metrics.now in
    let target = to_z w64 (of_z w64 c.args.target) in
    let size = to_z w64 (of_z w64 c.args.size) in
    find_further (reaches m size target) c.args.variants.now c.loop-variant.variant-index none c.loop-variant-test.true c.loop-variant.invariant
    (sym (ap (int_le target) (measured (goal.at.loop-variant-preserved c).After-scale)) ∙ c.if-target-scale.false)

pub returns-then-target-scale-clause-value : goal.returns-then-target-scale-clause-value
returns-then-target-scale-clause-value c =
    let m = c.args.metrics.now in
    let target = to_z w64 (of_z w64 c.args.target) in
    let size = to_z w64 (of_z w64 c.args.size) in
    let fits : FitsSigned w64 c.args.target = search rules in
    let back_target = to_z-of_z w64 c.args.target fits in
    let back_size = back64 (size_in c.args.size c.requires.size_low c.requires.size_high) (lit< tt) in
    let found = find_here (reaches m size target) c.args.variants.now c.loop-variant.variant-index none c.loop-variant-test.true c.loop-variant.invariant
    (sym (ap (int_le target) (measured (goal.at.returns-then-target-scale-clause-value c).After-scale)) ∙ c.if-target-scale.true) in
    sym (ap (option_map (λ variant. variant.glyph)) found)
    ∙ (λ k. option_map (λ variant. variant.glyph) (find (reaches m (back_size k) (back_target k)) c.args.variants.now))

pub returns-clause-value : goal.returns-clause-value
returns-clause-value c =
    let m = c.args.metrics.now in
    let fits : FitsSigned w64 c.args.target = search rules in
    let back_target = to_z-of_z w64 c.args.target fits in
    let back_size = back64 (size_in c.args.size c.requires.size_low c.requires.size_high) (lit< tt) in
    let all = take_all c.loop-variant.variant-index c.args.variants.now c.loop-variant-test.false in
    sym (ap (option_map (λ variant. variant.glyph)) c.loop-variant.invariant)
    ∙ (λ k. option_map (λ variant. variant.glyph) (find (reaches m (back_size k) (back_target k)) (all k)))
