use Rattle.page_facts.proofs.Pages.{reach_law}
use Rattle.page_facts.proofs.laws.boxes_are_in_reach.Goals as goal

pub returns : goal.returns
returns c = reach_law
