-- What an answer unfolds to compute a tree, or its fault, from a literal text.
use Rattle.std.specs.Prelude.{⊤}
use Rattle.serde_json.proofs.OnLiterals.{serde_json_on_literals}
use Rattle.math_tree.specs.Attributes.{bytes_of_attributes}
use Rattle.tree_json.specs.Elements.{elements, name_in, kind_in, attributes_in, text_in, children_in, attributes_held, text_held, bytes_held, has_known_keys, has_attributes, has_text, has_children}
use Rattle.tree_json.specs.Faults.{fault_of}
use Rattle.math_tree.specs.Forms.{is_name, is_white_space, is_short_enough}
use Rattle.math_tree.specs.Kinds.{kind_of}
use Rattle.tree_json.specs.Reading.{node_of, part_of, tree_of}

unfoldable pub tree_json_on_literals : ⊤
unfolding
    serde_json_on_literals kind_of name_in kind_in attributes_in text_in children_in
    attributes_held text_held bytes_held bytes_of_attributes elements node_of part_of tree_of fault_of
    is_name is_white_space is_short_enough
    has_known_keys has_attributes has_text has_children
tree_json_on_literals = tt
