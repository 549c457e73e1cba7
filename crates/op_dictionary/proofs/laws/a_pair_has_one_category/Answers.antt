use Rattle.op_dictionary.proofs.Triples.{own_category-entry, own_category-none}
use Rattle.op_dictionary.proofs.laws.a_pair_has_one_category.Goals as goal

pub returns : goal.returns
returns c = record { own = own_category-entry; none = own_category-none }
