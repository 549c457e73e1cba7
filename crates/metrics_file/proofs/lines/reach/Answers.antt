use Rattle.metrics_file.proofs.lines.reach.Goals as goal

pub returns : goal.returns
returns c = c.number_in.ensures.value
