use Rattle.std.proofs.Common.{rules, ◌∙◌, ap}
use Rattle.tree_json.specs.Elements.{kind_in}
use Rattle.math_tree.specs.Kinds.{kind_of}
use Rattle.tree_json.proofs.element.Keys.of.Goals as goal

pub returns-clause-said : goal.returns-clause-said
unfolding kind_in
returns-clause-said c = record {
  name = c.name_in-name.ensures;
  kind = c.of_name.ensures ∙ ap kind_of c.name_in-name.ensures;
  attributes = search rules;
  text = search rules;
  children = search rules;
}
