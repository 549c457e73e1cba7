use Rattle.op_dictionary.proofs.Triples.{categories_distinct, one_built_in}
use Rattle.op_dictionary.proofs.laws.a_character_has_one_built_in_category.Goals as goal

pub returns : goal.returns
returns c = record { table = categories_distinct; only = one_built_in }
