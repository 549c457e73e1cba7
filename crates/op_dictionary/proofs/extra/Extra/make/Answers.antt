use Rattle.op_dictionary.proofs.Lines.{kept-none}
use Rattle.op_dictionary.proofs.extra.Extra.make.Goals as goal

pub invariant_of-result : goal.invariant_of-result
invariant_of-result c = kept-none _ c.new.ensures.items c.new-2.ensures.empty c.new-3.ensures.empty
