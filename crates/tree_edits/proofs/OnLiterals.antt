-- What an answer unfolds to compute the command of a literal line.
use Rattle.std.specs.Prelude.{⊤}
use Rattle.tree_json.proofs.OnLiterals.{tree_json_on_literals}
use Rattle.tree_edits.specs.Commands.{id_in, index_in, text_at, value_in, element_in, op_of, op_in, has_only, command_of}

unfoldable pub tree_edits_on_literals : ⊤
unfolding tree_json_on_literals id_in index_in text_at value_in element_in op_of op_in has_only command_of
tree_edits_on_literals = tt
