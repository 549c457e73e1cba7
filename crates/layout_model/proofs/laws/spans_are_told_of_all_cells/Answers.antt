use Rattle.layout_model.proofs.Spans.{lay_spans}
use Rattle.layout_model.proofs.laws.spans_are_told_of_all_cells.Goals as goal

pub returns : goal.returns
returns c = lay_spans
