use Rattle.splices.proofs.Origins.{origin_law}
use Rattle.splices.proofs.laws.each_item_has_an_origin.Goals as goal

pub returns : goal.returns
returns g c = origin_law
