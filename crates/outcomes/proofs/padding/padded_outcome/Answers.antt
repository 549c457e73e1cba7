use Rattle.std.proofs.Common.{◌≡◌, ◌∙◌, ap, lit<, pos, ◌-ℤ◌, ℤ, to_z, of_z, w64}
use Rattle.fixed_units.proofs.Within.{difference_in, natural_in}
use Rattle.font_metrics.proofs.Scaling.{back64, size_in, within64}
use Rattle.layout_model.specs.Elements.{along, font, outcome, row_in}
use Rattle.layout_model.specs.Rows.{padded_of, padded_rise, padded_start}
use Rattle.outcomes.proofs.padding.padded_outcome.Goals as goal

pub returns : goal.returns
returns g c =
    let e = c.args.e.now in
    let row : c.in_ok-row.row ≡ row_in e = (c.in_ok-row.ensures {u = tt}).value in
    let one : to_z w64 (of_z w64 c.size.result) ≡ font e =
    back64 (size_in c.size.result c.size.ensures.low c.size.ensures.high) (lit< tt) ∙ c.size.ensures.value in
    let two : to_z w64 (of_z w64 c.size-2.result) ≡ font e =
    back64 (size_in c.size-2.result c.size-2.ensures.low c.size-2.ensures.high) (lit< tt) ∙ c.size-2.ensures.value in
    let three : to_z w64 (of_z w64 c.size-3.result) ≡ font e =
    back64 (size_in c.size-3.result c.size-3.ensures.low c.size-3.ensures.high) (lit< tt) ∙ c.size-3.ensures.value in
    let frame = c.padded-frame.ensures ∙ (λ i. padded_of (c.metrics.ensures i) (one i) (c.attributes.ensures i) (row i).frame) in
    let start : to_z w64 (of_z w64 c.start-start.result) ≡ padded_start e.metrics (font e) e.seen.head.attributes =
    back64 c.start-start.ensures.within (lit< tt) ∙ c.start-start.ensures.value
    ∙ (λ i. padded_start (c.metrics-2.ensures i) (two i) (c.attributes-2.ensures i)) in
    let rise : to_z w64 (of_z w64 c.rise-rise.result) ≡ padded_rise e.metrics (font e) e.seen.head.attributes =
    back64 c.rise-rise.ensures.within (lit< tt) ∙ c.rise-rise.ensures.value
    ∙ (λ i. padded_rise (c.metrics-3.ensures i) (three i) (c.attributes-3.ensures i)) in
    let down : to_z w64 (of_z w64 (pos 0 -ℤ to_z w64 (of_z w64 c.rise-rise.result))) ≡ pos 0 -ℤ padded_rise e.metrics (font e) e.seen.head.attributes =
    back64 (difference_in (natural_in 0) (within64 c.rise-rise.ensures.within (lit< tt))) (lit< tt) ∙ ap (λ (z : ℤ). pos 0 -ℤ z) rise in
    let offsets = c.in_ok-offsets.ensures {u = tt} ∙ (λ i. along e (row i) (start i) (down i)) in
    c.outcome.ensures ∙ (λ i. outcome e (frame i) (offsets i) (c.make.ensures i))
