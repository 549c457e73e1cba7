use Rattle.std.proofs.Common.{◌∙◌, ap, sym, pos, ℕ, Bool}
use Rattle.font_metrics.specs.declared.growth.Part.{Part}
use Rattle.font_metrics.specs.Faults.{step_map, both}
use Rattle.metrics_file.specs.Lines.{named_in, length_in}
use Rattle.metrics_file.specs.Words.{extender_in}
use Rattle.metrics_file.proofs.Pairs.{five}
use Rattle.font_metrics.proofs.Steps.{failed}
use Rattle.metrics_file.proofs.named_lines.part_with.Goals as goal

abbrev part_of : (ℕ × Bool) × ((ℕ × ℕ) × ℕ) → Part
part_of p = record {
  glyph = record { 0 = p.0.0 };
  extender = p.0.1;
  start = pos p.1.0.0;
  end = pos p.1.0.1;
  full = pos p.1.1;
}

pub returns-in_err-place : goal.returns-in_err-place
returns-in_err-place c =
    failed c.from_residual.result c.in_err-place.field-0.0 c.from_residual.ensures.1
    ∙ ap (step_map part_of)
    (sym c.in_err-place.was ∙ c.both-2.ensures
    ∙ (λ i. both ((c.both-kind.ensures ∙ (λ j. both (c.named.ensures j) (c.extender.ensures j))) i)
    ((c.both.ensures
    ∙ (λ j. both ((c.both-connectors.ensures ∙ (λ k. both (c.length.ensures k) (c.length-2.ensures k))) j) (c.length-3.ensures j))) i)))
    ∙ sym (five (named_in c.args.glyphs.now c.args.name.now) (extender_in c.args.role.now) (length_in c.args.start.now)
    (length_in c.args.end.now) (length_in c.args.full.now) part_of)
