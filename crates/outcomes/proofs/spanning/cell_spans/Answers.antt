use Rattle.std.proofs.Common.{◌∙◌, sym}
use Rattle.fixed_units.proofs.Sums.{list_to-zero}
use Rattle.layout_model.specs.Tables.{cell_span}
use Rattle.outcomes.proofs.Lists.{pushed_next}
use Rattle.outcomes.proofs.spanning.cell_spans.Goals as goal

pub loop-index-init : goal.loop-index-init
loop-index-init g c = (c.in_ok-spans.ensures {u = tt}) ∙ sym (list_to-zero _)

pub loop-index-preserved : goal.loop-index-preserved
loop-index-preserved g c =
    pushed_next c.loop-index.index (cell_span c.args.e.now) c.loop-index.spans _ _ (c.in_ok-push.ensures {u = tt}).ok c.loop-index.invariant c.cell_span.ensures
