use Rattle.std.proofs.Common.{◌≡◌, ◌∙◌, ap, sym, rules, lit<, to_z, of_z, w64, FitsSigned, cond, int_le}
use Rattle.std.proofs.lemmas.Int.{to_z-of_z}
use Rattle.std.specs.Option.{option_map_or}
use Rattle.font_metrics.proofs.Scaling.{back64, size_in}
use Rattle.font_metrics.specs.Metrics.{parts_of, variants_of}
use Rattle.glyph_assembly.specs.Counts.{grows}
use Rattle.glyph_assembly.specs.Glyphs.{reach_at}
use Rattle.glyph_assembly.specs.Pieces.{sums_of}
use Rattle.glyph_assembly.specs.Shaping.{base, larger, first_reaching, largest_glyph, assembly_of, assembly_or_glyph, shaped_of}
use Rattle.glyph_assembly.proofs.shaping.shape.Goals as goal
use Rattle.glyph_assembly.proofs.shaping.shape.Goals.{After-glyph_reach, After-first_reaching, After-grows}

-- the glyph's own reach, as it is compared with the target
reach_is : (c : After-glyph_reach) → int_le (to_z w64 (of_z w64 c.args.target)) (to_z w64 (of_z w64 c.glyph_reach.result))
    ≡ int_le c.args.target (reach_at c.args.metrics.now c.args.glyph.0 c.args.axis c.args.size)
reach_is c =
    let target = back64 c.requires.target_in (lit< tt) in
    let size = back64 (size_in c.args.size c.requires.size_low c.requires.size_high) (lit< tt) in
    let fits : FitsSigned w64 c.glyph_reach.result = search rules in
    let reach = to_z-of_z w64 c.glyph_reach.result fits ∙ c.glyph_reach.ensures.value ∙ ap (reach_at c.args.metrics.now c.args.glyph.0 c.args.axis) size in
    λ k. int_le (target k) (reach k)

found_is : (c : After-first_reaching) → c.first_reaching.result
    ≡ first_reaching c.args.metrics.now c.args.size c.args.target (variants_of c.args.metrics.now c.args.glyph.0 c.args.axis)
found_is c =
    let target = back64 c.requires.target_in (lit< tt) in
    let size = back64 (size_in c.args.size c.requires.size_low c.requires.size_high) (lit< tt) in
    c.first_reaching.ensures.value ∙ (λ k. first_reaching c.args.metrics.now (size k) (target k) (c.variants-variants.ensures.value k))

pub returns-then-target-glyph_reach-clause-value : goal.returns-then-target-glyph_reach-clause-value
unfolding shaped_of
returns-then-target-glyph_reach-clause-value c =
    let m = c.args.metrics.now in
    let place = c.args.glyph.0 in
    let size = back64 (size_in c.args.size c.requires.size_low c.requires.size_high) (lit< tt) in
    let test = sym (reach_is (goal.at.returns-then-target-glyph_reach-clause-value c).After-glyph_reach) ∙ c.if-target-glyph_reach.true in
    c.base.ensures.value ∙ ap (base m place) size
    ∙ sym (ap (λ t. cond t (base m place c.args.size) (option_map_or (larger m c.args.size)
    (first_reaching m c.args.size c.args.target (variants_of m place c.args.axis)) (assembly_or_glyph m place c.args.axis c.args.target c.args.size))) test)

pub returns-in-Some-clause-value : goal.returns-in-Some-clause-value
unfolding shaped_of
returns-in-Some-clause-value c =
    let m = c.args.metrics.now in
    let place = c.args.glyph.0 in
    let size = back64 (size_in c.args.size c.requires.size_low c.requires.size_high) (lit< tt) in
    let test = sym (reach_is (goal.at.returns-in-Some-clause-value c).After-glyph_reach) ∙ c.if-target-glyph_reach.false in
    let found = sym (found_is (goal.at.returns-in-Some-clause-value c).After-first_reaching) ∙ c.in-Some.is in
    c.larger.ensures.value ∙ ap (λ z. larger m z c.in-Some.variant) size
    ∙ sym (λ k. cond (test k) (base m place c.args.size) (option_map_or (larger m c.args.size) (found k)
    (assembly_or_glyph m place c.args.axis c.args.target c.args.size)))

-- what neither the glyph nor a variant reaches
not_reached : (c : After-grows) → assembly_or_glyph c.args.metrics.now c.args.glyph.0 c.args.axis c.args.target c.args.size
    ≡ shaped_of c.args.metrics.now c.args.glyph.0 c.args.axis c.args.target c.args.size
unfolding shaped_of
not_reached c =
    let m = c.args.metrics.now in
    let place = c.args.glyph.0 in
    let test = sym (reach_is (goal.at.After-grows c).After-glyph_reach) ∙ c.if-target-glyph_reach.false in
    let found = sym (found_is (goal.at.After-grows c).After-first_reaching) ∙ c.in_default.is in
    sym (λ k. cond (test k) (base m place c.args.size) (option_map_or (larger m c.args.size) (found k)
    (assembly_or_glyph m place c.args.axis c.args.target c.args.size)))

grows_is : (c : After-grows) → c.grows.result ≡ grows (sums_of c.args.metrics.now c.args.size (parts_of c.args.metrics.now c.args.glyph.0 c.args.axis))
grows_is c =
    let size = back64 (size_in c.args.size c.requires.size_low c.requires.size_high) (lit< tt) in
    c.grows.ensures ∙ ap grows c.of_parts-sums.ensures.value
    ∙ (λ k. grows (sums_of c.args.metrics.now (size k) (c.assembly-parts.ensures.value k)))

pub returns-then-grows-clause-value : goal.returns-then-grows-clause-value
returns-then-grows-clause-value c =
    let m = c.args.metrics.now in
    let place = c.args.glyph.0 in
    let target = back64 c.requires.target_in (lit< tt) in
    let size = back64 (size_in c.args.size c.requires.size_low c.requires.size_high) (lit< tt) in
    let at = (goal.at.returns-then-grows-clause-value c).After-grows in
    let valid = sym (grows_is at) ∙ c.if-grows.true in
    c.assembly.ensures.value ∙ (λ k. assembly_of m (c.assembly-parts.ensures.value k) c.args.axis (target k) (size k))
    ∙ sym (ap (λ t. cond t (assembly_of m (parts_of m place c.args.axis) c.args.axis c.args.target c.args.size)
    (largest_glyph m place c.args.size (variants_of m place c.args.axis))) valid)
    ∙ not_reached at

pub returns-clause-value : goal.returns-clause-value
returns-clause-value c =
    let m = c.args.metrics.now in
    let place = c.args.glyph.0 in
    let size = back64 (size_in c.args.size c.requires.size_low c.requires.size_high) (lit< tt) in
    let at = (goal.at.returns-clause-value c).After-grows in
    let valid = sym (grows_is at) ∙ c.if-grows.false in
    c.largest_glyph.ensures.value ∙ (λ k. largest_glyph m place (size k) (c.variants-variants.ensures.value k))
    ∙ sym (ap (λ t. cond t (assembly_of m (parts_of m place c.args.axis) c.args.axis c.args.target c.args.size)
    (largest_glyph m place c.args.size (variants_of m place c.args.axis))) valid)
    ∙ not_reached at
