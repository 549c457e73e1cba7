use Rattle.std.proofs.Common.{subst, sym}
use Rattle.input_files.specs.Files.{tree_of_json, GivesOr}
use Rattle.input_files.proofs.files.tree_by_value.Goals as goal

pub returns : goal.returns
returns c =
    subst (λ j. GivesOr (tree_of_json j) c.tree_of_value.result) (sym (c.in_ok-value.ensures {u = tt}).read) c.tree_of_value.ensures
