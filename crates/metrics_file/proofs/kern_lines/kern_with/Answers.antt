use Rattle.std.proofs.Common.{◌≡◌, ◌∙◌, sym, Err}
use Rattle.font_metrics.specs.Faults.{both}
use Rattle.metrics_file.specs.Lines.{kern_with, lent, named_in, reach_in, steps_in}
use Rattle.metrics_file.specs.Words.{corner_in}
use Rattle.metrics_file.proofs.KernSteps.{fields_fail, given_fault}
use Rattle.metrics_file.proofs.kern_lines.kern_with.Goals as goal

pub returns-in_err-place : goal.returns-in_err-place
returns-in_err-place c =
    let glyphs = c.args.glyphs.now in
    let place = named_in glyphs c.args.base.now in
    let corner = corner_in c.args.at.now in
    let lowest = reach_in c.args.lowest.now in
    let fault = c.in_err-place.field-0.0 in
    let told : both place (both corner lowest) ≡ Err fault =
    sym (c.both-2.ensures ∙ (λ i. both (c.named.ensures i) ((c.both.ensures ∙ (λ j. both (c.corner.ensures j) (c.reach.ensures j))) i)))
    ∙ c.in_err-place.was in
    given_fault (kern_with glyphs c.args.base.now c.args.at.now c.args.lowest.now (lent c.args.more.now)) fault c.from_residual.result
    (fields_fail place corner lowest (steps_in (lent c.args.more.now)) fault told) c.from_residual.ensures.1
