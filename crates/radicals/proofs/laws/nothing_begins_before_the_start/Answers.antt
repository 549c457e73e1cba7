use Rattle.radicals.proofs.Ink.{begins_inside}
use Rattle.radicals.proofs.laws.nothing_begins_before_the_start.Goals as goal

pub returns : goal.returns
returns c = begins_inside
