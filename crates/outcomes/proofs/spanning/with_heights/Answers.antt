use Rattle.std.proofs.Common.{◌∙◌, sym, ap, ℕ}
use Rattle.fixed_units.specs.declared.boxes.MathBox.{MathBox}
use Rattle.fixed_units.proofs.Sums.{list_to-zero}
use Rattle.span_tables.specs.Heights.{height_at}
use Rattle.layout_model.specs.Elements.{frame_at}
use Rattle.layout_model.specs.Tables.{with_height}
use Rattle.outcomes.proofs.Lists.{pushed_next}
use Rattle.outcomes.proofs.spanning.with_heights.Goals as goal

pub loop-index-init : goal.loop-index-init
loop-index-init g c = (c.in_ok-rows.ensures {u = tt}) ∙ sym (list_to-zero _)

pub loop-index-preserved : goal.loop-index-preserved
loop-index-preserved g c =
    let i = c.loop-index.index in
    pushed_next i (λ (index : ℕ). with_height (frame_at c.args.e.now index) (height_at c.args.heights.now index)) c.loop-index.rows _ _
    (c.in_ok-push.ensures {u = tt}).ok c.loop-index.invariant
    (c.with_height.ensures ∙ ap (λ (frame : MathBox). with_height frame (height_at c.args.heights.now i)) c.frame.ensures.value)
