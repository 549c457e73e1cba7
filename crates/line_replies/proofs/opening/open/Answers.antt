use Rattle.input_files.specs.Files.{metrics_in, tree_in}
use Rattle.line_replies.proofs.Starting.{open_taken, unopened_taken}
use Rattle.line_replies.proofs.opening.open.Goals as goal

pub returns-clause-taken : goal.returns-clause-taken
returns-clause-taken g c =
    open_taken (metrics_in c.args.metrics.now) (tree_in c.args.tree.now) c.in_ok-metrics.metrics c.args.steps.now c.open_tree.new.steps (c.in_ok-metrics.ensures {u = tt}) c.open_tree.ensures.taken

pub returns-in_err-metrics-clause-taken : goal.returns-in_err-metrics-clause-taken
returns-in_err-metrics-clause-taken g c = unopened_taken (metrics_in c.args.metrics.now) (tree_in c.args.tree.now) c.args.steps.now
