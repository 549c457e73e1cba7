use Rattle.input_files.specs.Files.{tree_in}
use Rattle.line_replies.proofs.Starting.{none_taken, read_taken}
use Rattle.line_replies.proofs.opening.open_tree.Goals as goal

pub returns-in-Ok-clause-taken : goal.returns-in-Ok-clause-taken
returns-in-Ok-clause-taken g c = read_taken c.args.metrics (tree_in c.args.tree.now) c.in-Ok.tree (c.in-Ok.ensures {u = tt}) c.start.ensures.taken

pub returns-in-Err-clause-taken : goal.returns-in-Err-clause-taken
returns-in-Err-clause-taken g c = none_taken c.args.metrics (tree_in c.args.tree.now) c.args.steps.now
