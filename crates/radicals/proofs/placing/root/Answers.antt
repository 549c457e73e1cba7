use Rattle.std.proofs.Common.{◌≡◌, ◌∙◌, ap, subst, lit<, ◌^◌, ◌+ℤ◌, to_z, of_z, w64}
use Rattle.fixed_units.proofs.Within.{sum_in}
use Rattle.font_metrics.proofs.Scaling.{back64, size_in}
use Rattle.op_dictionary.specs.declared.operator.Axis.TheVariants.{Block}
use Rattle.glyph_assembly.specs.Shaping.{shaped_of}
use Rattle.radicals.specs.Equation.{top_of}
use Rattle.radicals.specs.Lengths.{root_lengths_of, AreRootLengthsWithin}
use Rattle.radicals.specs.Placing.{surd_glyph, covered_of, root_of}
use Rattle.radicals.proofs.Bounds.{top_in}
use Rattle.radicals.proofs.placing.root.Goals as goal

pub returns-clause-value : goal.returns-clause-value
unfolding root_of
returns-clause-value c =
    let m = c.args.metrics.now in
    let base = c.args.base.now in
    let size = back64 (size_in c.args.size c.requires.size_low c.requires.size_high) (lit< tt) in
    let start = back64 c.requires.start_in (lit< tt) in
    let font = c.at-font.ensures.value ∙ ap (λ z. root_lengths_of m z c.args.display) size in
    let glyph : c.glyph_of-glyph.result ≡ surd_glyph m = λ i. record { 0 = c.glyph_of-glyph.ensures.value i } in
    let ink = back64 c.requires.base_in.ink_descent (lit< tt) in
    let top = back64 c.top.ensures.within (lit< tt) ∙ c.top.ensures.value ∙ ap (λ f. top_of f base) font in
    let reach = sum_in (top_in (root_lengths_of m c.args.size c.args.display) base (subst (AreRootLengthsWithin (2 ^ 32)) font c.at-font.ensures.within) c.requires.base_in) c.requires.base_in.ink_descent in
    let span = ap (λ z. to_z w64 (of_z w64 z)) (λ i. top i +ℤ ink i) ∙ back64 reach (lit< tt) in
    let surd = c.shape-surd.ensures.value ∙ (λ i. shaped_of m (c.glyph_of-glyph.ensures.value i) Block (span i) (size i)) in
    c.covered.ensures.value ∙ (λ i. covered_of (font i) base (surd i) (glyph i) (start i) (size i))
