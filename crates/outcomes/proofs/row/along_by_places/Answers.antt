use Rattle.std.proofs.Common.{◌≡◌, ◌∙◌, sym, ap, lit<, w64, to_z, of_z, ℤ, ◌+ℤ◌}
use Rattle.fixed_units.proofs.Sums.{list_to-zero}
use Rattle.fixed_units.proofs.Within.{sum_in}
use Rattle.font_metrics.proofs.Scaling.{back64, within64}
use Rattle.layout_model.specs.Elements.{along_row, offset, row_x}
use Rattle.outcomes.proofs.Lists.{pushed_next}
use Rattle.outcomes.proofs.row.along_by_places.Goals as goal

pub loop-index-init : goal.loop-index-init
loop-index-init g c = (c.in_ok-offsets.ensures {u = tt}) ∙ sym (list_to-zero _)

pub loop-index-preserved : goal.loop-index-preserved
loop-index-preserved g c =
    let start = to_z w64 (of_z w64 c.args.start) in
    let y = to_z w64 (of_z w64 c.args.y) in
    let i = c.loop-index.index in
    let start_in = within64 c.requires.start (lit< tt) in
    let ahead = c.row_x.ensures in
    let x : to_z w64 (of_z w64 (start +ℤ to_z w64 (of_z w64 c.row_x.result))) ≡ start +ℤ row_x c.args.e.now c.args.row.now i =
    back64 (sum_in start_in (within64 ahead.within (lit< tt))) (lit< tt)
    ∙ ap (λ (z : ℤ). start +ℤ z) (back64 ahead.within (lit< tt) ∙ ahead.value) in
    pushed_next i (along_row c.args.e.now c.args.row.now start y) c.loop-index.offsets _ _ (c.in_ok-push.ensures {u = tt}).ok c.loop-index.invariant
    (ap (λ (z : ℤ). offset i z y) x)
