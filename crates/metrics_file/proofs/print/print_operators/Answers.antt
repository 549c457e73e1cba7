use Rattle.metrics_file.specs.Print.{operator_words}
use Rattle.metrics_file.proofs.Printing.{front-more}
use Rattle.metrics_file.proofs.print.print_operators.Goals as goal

pub loop-index-preserved : goal.loop-index-preserved
loop-index-preserved c =
    front-more operator_words c.args.operators.now c.loop-index.index c.line-line.result _ _ _ c.line-line.ensures.value
    c.loop-index.invariant (rw (c.form_text.ensures, c.category_text.ensures, c.axis_text.ensures) at c.in_ok-add_line.ensures)
