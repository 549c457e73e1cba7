use Rattle.page_facts.proofs.Pages.{root_law}
use Rattle.page_facts.proofs.laws.the_box_of_the_root_is_stored.Goals as goal

pub returns : goal.returns
returns c = root_law
