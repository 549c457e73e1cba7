use Rattle.doc_io.proofs.memory_inputs.give.Goals as goal

pub returns-clause-longest : goal.returns-clause-longest
returns-clause-longest c = rw (← c.min.ensures) c.uncut-count.ensures
