use Rattle.std.proofs.Common.{◌∙◌, ap, sym, pos, ℕ}
use Rattle.font_metrics.specs.declared.growth.Variant.{Variant}
use Rattle.font_metrics.specs.Faults.{step_map, both}
use Rattle.metrics_file.specs.Lines.{named_in, length_in}
use Rattle.metrics_file.proofs.Pairs.{three}
use Rattle.font_metrics.proofs.Steps.{failed}
use Rattle.metrics_file.proofs.named_lines.variant_with.Goals as goal

abbrev entry_of : ℕ × (ℕ × ℕ) → ℕ × Variant
entry_of p = (p.0, record { glyph = record { 0 = p.1.0 }; measure = pos p.1.1 })

pub returns-in_err-place : goal.returns-in_err-place
returns-in_err-place c =
    failed c.from_residual.result c.in_err-place.field-0.0 c.from_residual.ensures.1
    ∙ ap (step_map entry_of)
    (sym c.in_err-place.was ∙ c.both.ensures
    ∙ (λ i. both (c.named-2.ensures i) ((c.both-larger.ensures ∙ (λ j. both (c.named.ensures j) (c.length.ensures j))) i)))
    ∙ sym (three (named_in c.args.glyphs.now c.args.base.now) (named_in c.args.glyphs.now c.args.variant.now)
    (length_in c.args.measure.now) entry_of)
