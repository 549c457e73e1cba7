use Rattle.kept_results.proofs.Grown.{grown_cells_law}
use Rattle.kept_results.proofs.laws.a_pass_adds_the_cells_of_its_layouts.Goals as goal

pub returns : goal.returns
returns c = grown_cells_law
