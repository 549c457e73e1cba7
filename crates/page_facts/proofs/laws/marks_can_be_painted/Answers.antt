use Rattle.page_facts.proofs.Pages.{paint_law}
use Rattle.page_facts.proofs.laws.marks_can_be_painted.Goals as goal

pub returns : goal.returns
returns c = paint_law
