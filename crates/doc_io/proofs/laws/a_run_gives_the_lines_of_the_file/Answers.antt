use Rattle.doc_io.proofs.LineLaws.{gives_lines}
use Rattle.doc_io.proofs.laws.a_run_gives_the_lines_of_the_file.Goals as goal

pub returns : goal.returns
returns c = gives_lines
