use Rattle.metrics_file.proofs.Printing.{growth-more}
use Rattle.metrics_file.proofs.print.print_growth.Goals as goal

pub loop-place-preserved : goal.loop-place-preserved
loop-place-preserved c =
    growth-more c.args.metrics.now c.loop-place.place c.args.lines.now c.loop-place.lines _ c.loop-place.invariant
    c.in_ok-print_place.ensures
