-- Lines of a script, each from its JSON text on.
use Rattle.std.proofs.Common.{◌≡◌, refl, ℕ, ◌-◌, ◌^◌, List, [], Option, Some, None, codes}
use Rattle.std.specs.Option.{option_and_then}
use Rattle.serde_json.specs.Read.{read}
use Rattle.math_tree.specs.Trees.{node}
use Rattle.math_tree.specs.declared.kind.Kind.TheVariants.{Mrow}
use Rattle.math_tree.specs.declared.node.NodeId.{NodeId}
use Rattle.tree_edits.specs.Commands.{command_of}
use Rattle.tree_edits.specs.declared.command.Command.{Command}
use Rattle.tree_edits.specs.declared.command.Command.TheVariants.{Show, Change}
use Rattle.tree_edits.specs.declared.edit.Edit.TheVariants.{Text, Attr, Insert}
use Rattle.tree_edits.proofs.OnLiterals.{tree_edits_on_literals}

abbrev id : ℕ → NodeId
id n = record { 0 = n }

-- the command of a JSON text
abbrev command_of_text : List ℕ → Option Command
command_of_text text = option_and_then command_of (read text)

show : command_of_text (codes "{\"op\":\"show\"}") ≡ Some Show
unfolding tree_edits_on_literals
show = refl

-- a key too many
show_a_node : command_of_text (codes "{\"op\":\"show\",\"node\":1}") ≡ None
unfolding tree_edits_on_literals
show_a_node = refl

text_set : command_of_text (codes "{\"op\":\"text\",\"node\":2,\"text\":\"y\"}") ≡ Some (Change (Text (id 2) (codes "y")))
unfolding tree_edits_on_literals
text_set = refl

-- a key too few
text_missing : command_of_text (codes "{\"op\":\"text\",\"node\":2}") ≡ None
unfolding tree_edits_on_literals
text_missing = refl

attribute_set : command_of_text (codes "{\"op\":\"attr\",\"node\":3,\"name\":\"a\",\"value\":\"1\"}")
    ≡ Some (Change (Attr (id 3) (codes "a") (Some (codes "1"))))
unfolding tree_edits_on_literals
attribute_set = refl

-- null and nothing remove it
attribute_null : command_of_text (codes "{\"op\":\"attr\",\"node\":3,\"name\":\"a\",\"value\":null}")
    ≡ Some (Change (Attr (id 3) (codes "a") None))
unfolding tree_edits_on_literals
attribute_null = refl

attribute_absent : command_of_text (codes "{\"op\":\"attr\",\"node\":3,\"name\":\"a\"}")
    ≡ Some (Change (Attr (id 3) (codes "a") None))
unfolding tree_edits_on_literals
attribute_absent = refl

attribute_number : command_of_text (codes "{\"op\":\"attr\",\"node\":3,\"name\":\"a\",\"value\":1}") ≡ None
unfolding tree_edits_on_literals
attribute_number = refl

-- an id that no element has, and the largest index; the element gets its ids later
numbers_too_large : command_of_text (codes "{\"op\":\"insert\",\"node\":4294967296,\"index\":4294967296,\"element\":{\"name\":\"mrow\"}}")
    ≡ Some (Change (Insert (id 0) (2 ^ 32 - 1) (node (record { id = id 1; name = codes "mrow"; kind = Mrow; attributes = []; text = [] }) [])))
unfolding tree_edits_on_literals
numbers_too_large = refl

-- a number with a point isn't whole
node_with_a_point : command_of_text (codes "{\"op\":\"remove\",\"node\":1.0}") ≡ None
unfolding tree_edits_on_literals
node_with_a_point = refl

element_out_of_form : command_of_text (codes "{\"op\":\"replace\",\"node\":2,\"element\":{\"name\":\"2d\"}}") ≡ None
unfolding tree_edits_on_literals
element_out_of_form = refl

word_in_capitals : command_of_text (codes "{\"op\":\"Remove\",\"node\":2}") ≡ None
unfolding tree_edits_on_literals
word_in_capitals = refl
