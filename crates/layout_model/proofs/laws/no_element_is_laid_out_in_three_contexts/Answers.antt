use Rattle.layout_model.proofs.TwoContexts.{two_contexts}
use Rattle.layout_model.proofs.laws.no_element_is_laid_out_in_three_contexts.Goals as goal

pub returns : goal.returns
returns c = two_contexts
