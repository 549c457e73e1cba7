use Rattle.std.proofs.Common.{◌≡◌, ◌∙◌, ap, pos}
use Rattle.layout_model.specs.Elements.{along, outcome, row_in}
use Rattle.layout_model.specs.Rows.{border, error_of}
use Rattle.row_stretch.specs.declared.parts.Row.{Row}
use Rattle.outcomes.proofs.row.error_outcome.Goals as goal

pub returns : goal.returns
returns g c =
    let e = c.args.e.now in
    let row : c.in_ok-row.row ≡ row_in e = (c.in_ok-row.ensures {u = tt}).value in
    let frame = c.bordered-frame.ensures ∙ ap (λ (r : Row). error_of r.frame) row in
    let offsets = c.in_ok-offsets.ensures {u = tt} ∙ ap (λ (r : Row). along e r border (pos 0)) row in
    c.outcome.ensures ∙ (λ i. outcome e (frame i) (offsets i) (c.make.ensures i))
