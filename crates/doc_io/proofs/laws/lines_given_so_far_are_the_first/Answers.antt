use Rattle.doc_io.proofs.LineLaws.{gives_first}
use Rattle.doc_io.proofs.laws.lines_given_so_far_are_the_first.Goals as goal

pub returns : goal.returns
returns c = gives_first
