use Rattle.page_facts.proofs.Pages.{order_law}
use Rattle.page_facts.proofs.laws.boxes_come_in_order.Goals as goal

pub returns : goal.returns
returns c = order_law
