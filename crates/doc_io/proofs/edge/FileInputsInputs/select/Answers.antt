use Rattle.doc_io.proofs.SystemFiles.{selects}
use Rattle.doc_io.proofs.edge.FileInputsInputs.select.Goals as goal

pub returns-clause-selects : goal.returns-clause-selects
returns-clause-selects g c = selects _ _ _ _ _ _ c.opened.ensures
