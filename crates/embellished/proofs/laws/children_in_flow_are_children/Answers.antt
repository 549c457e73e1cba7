use Rattle.embellished.proofs.FlowLaws.{is_flow}
use Rattle.embellished.proofs.laws.children_in_flow_are_children.Goals as goal

pub returns : goal.returns
returns c = is_flow
