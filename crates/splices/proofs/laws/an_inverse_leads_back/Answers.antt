use Rattle.splices.proofs.Splicing.{inverse_law}
use Rattle.splices.proofs.laws.an_inverse_leads_back.Goals as goal

pub returns : goal.returns
returns g c = inverse_law
