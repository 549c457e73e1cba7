use Rattle.tree_json.proofs.Firsts.{whole_tree}
use Rattle.tree_json.proofs.laws.trees_list_the_elements.Goals as goal

pub returns : goal.returns
returns c = whole_tree
