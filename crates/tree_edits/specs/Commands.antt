-- The command that a line of a script stands for.
use Rattle.std.specs.Prelude.{ℕ, ◌-◌, ◌^◌, List, [], ◌∷◌, min, Bool, nat_lt, if◌then◌else◌, Option, Some, None, Result, Ok, Err, ◌≡◌, codes}
use Rattle.std.specs.List.{find, list_all, list_any}
use Rattle.std.specs.Option.{option_and_then, option_map, option_map_or}
use Rattle.std.specs.Str.{bytes_eq, is_utf8}
use Rattle.serde_json.specs.Data.{Data, null, boolean, number, string, array, object}
use Rattle.serde_json.specs.Find.{get, as_number, as_str, as_u64}
use Rattle.serde_json.specs.Read.{read}
use Rattle.tree_json.specs.Elements.{keys_in}
use Rattle.tree_json.specs.Reading.{part_of}
use Rattle.tree_json.specs.declared.fault.TreeFault.{TreeFault}
use Rattle.math_tree.specs.declared.node.Node.{Node}
use Rattle.math_tree.specs.declared.node.NodeId.{NodeId}
use Rattle.tree_json.specs.declared.refusal.TreeRefusal.{TreeRefusal}
use Rattle.tree_json.specs.declared.refusal.TreeRefusal.TheVariants.{Fault, Memory as NoMemory}
use Rattle.tree_edits.specs.Applying.{IsProperEdit}
use Rattle.tree_edits.specs.declared.command.Command.{Command}
use Rattle.tree_edits.specs.declared.command.Command.TheVariants.{Show, Change}
use Rattle.tree_edits.specs.declared.command.CommandRefusal.{CommandRefusal}
use Rattle.tree_edits.specs.declared.command.CommandRefusal.TheVariants.{BadLine, Memory}
use Rattle.tree_edits.specs.declared.edit.Edit.{Edit}
use Rattle.tree_edits.specs.declared.edit.Edit.TheVariants.{Text, Attr, Insert, Remove, Replace}
use Rattle.tree_edits.specs.declared.read.Op.{Op}
use Rattle.tree_edits.specs.declared.read.Op.TheVariants.{Showing, Texting, Marking, Inserting, Removing, Replacing}

-- ---- the value of each key

-- a number of an id, where larger ones than an id can be stand for 0, which no element of a tree
-- that was read has
abbrev pub as_id : ℕ → NodeId
as_id n = record { 0 = if nat_lt n (2 ^ 32) then n else 0 }

abbrev pub whole_number : Data → Option ℕ
whole_number value = option_and_then as_u64 (as_number value)

abbrev pub number_at : List ℕ → Data → Option ℕ
number_at key value = option_and_then whole_number (get key value)

unfoldable pub text_at : List ℕ → Data → Option (List ℕ)
text_at key value = option_and_then as_str (get key value)

unfoldable pub id_in : Data → Option NodeId
id_in value = option_map as_id (number_at (codes "node") value)

-- the index, where larger ones than 32 bits hold stand for the largest that they do
unfoldable pub index_in : Data → Option ℕ
index_in value = option_map (λ n. min n (2 ^ 32 - 1)) (number_at (codes "index") value)

-- an attribute's value: a text, or nothing where it is to be removed
abbrev pub as_value : Data → Option (Option (List ℕ))
as_value null = Some None
as_value (boolean b) = None
as_value (number n) = None
as_value (string s) = Some (Some s)
as_value (array items) = None
as_value (object inside) = None

unfoldable pub value_in : Data → Option (Option (List ℕ))
value_in value = option_map_or as_value (get (codes "value") value) (Some None)

abbrev pub without_fault : Result Node TreeFault → Option Node
without_fault (Ok element) = Some element
without_fault (Err fault) = None

-- an element that is to stand in a tree
unfoldable pub element_in : Data → Option Node
element_in value =
    option_and_then (λ element. without_fault (part_of element)) (get (codes "element") value)

-- ---- the commands

abbrev pub ops : List (List ℕ × Op)
ops =
    (codes "show", Showing)
    ∷ (codes "text", Texting)
    ∷ (codes "attr", Marking)
    ∷ (codes "insert", Inserting)
    ∷ (codes "remove", Removing)
    ∷ (codes "replace", Replacing)
    ∷ []

-- what the word under `op` asks for
unfoldable pub op_of : List ℕ → Option Op
op_of word = option_map (λ row. row.1) (find (λ row. bytes_eq row.0 word) ops)

-- the keys of a line
abbrev pub keys_of_op : Op → List (List ℕ)
keys_of_op Showing = codes "op" ∷ []
keys_of_op Texting = codes "op" ∷ codes "node" ∷ codes "text" ∷ []
keys_of_op Marking = codes "op" ∷ codes "node" ∷ codes "name" ∷ codes "value" ∷ []
keys_of_op Inserting = codes "op" ∷ codes "node" ∷ codes "index" ∷ codes "element" ∷ []
keys_of_op Removing = codes "op" ∷ codes "node" ∷ []
keys_of_op Replacing = codes "op" ∷ codes "node" ∷ codes "element" ∷ []

abbrev pub is_key_of : Op → List ℕ → Bool
is_key_of op key = list_any (λ known. bytes_eq known key) (keys_of_op op)

-- it has no keys but these
unfoldable pub has_only : Op → Data → Bool
has_only op value = list_all (is_key_of op) (keys_in value)

-- the edit, where each key that it needs has a value in its form
abbrev pub text_edit : Data → Option Edit
text_edit value =
    option_and_then (λ id. option_map (Text id) (text_at (codes "text") value)) (id_in value)

abbrev pub attribute_edit : Data → Option Edit
attribute_edit value =
    option_and_then
    (λ id.
    option_and_then (λ name. option_map (Attr id name) (value_in value))
    (text_at (codes "name") value))
    (id_in value)

abbrev pub insert_edit : Data → Option Edit
insert_edit value =
    option_and_then
    (λ id.
    option_and_then (λ index. option_map (Insert id index) (element_in value)) (index_in value))
    (id_in value)

abbrev pub replace_edit : Data → Option Edit
replace_edit value =
    option_and_then (λ id. option_map (Replace id) (element_in value)) (id_in value)

-- what a line asks for
abbrev pub command_by : Op → Data → Option Command
command_by Showing value = Some Show
command_by Texting value = option_map Change (text_edit value)
command_by Marking value = option_map Change (attribute_edit value)
command_by Inserting value = option_map Change (insert_edit value)
command_by Removing value = option_map (λ id. Change (Remove id)) (id_in value)
command_by Replacing value = option_map Change (replace_edit value)

abbrev pub command_under : Op → Data → Option Command
command_under op value = if has_only op value then command_by op value else None

unfoldable pub op_in : Data → Option Op
op_in value = option_and_then op_of (option_and_then as_str (get (codes "op") value))

-- what the value of a line stands for
unfoldable pub command_of : Data → Option Command
command_of value =
    option_and_then (λ op. command_under op value) (op_in value)

-- the JSON value of a line's bytes: they are UTF-8, and `serde_json` reads the text
abbrev pub json_in : List ℕ → Option Data
json_in bytes = if is_utf8 bytes then read bytes else None

-- what a line stands for
abbrev pub command_in : List ℕ → Option Command
command_in line = option_and_then command_of (json_in line)

-- ---- what reading a line answers

-- what is meant, or a refusal where nothing is; want of memory may come at any line
abbrev pub Gives : {A : Type 0} → Option A → Result A CommandRefusal → Type 0
Gives meant (Ok given) = meant ≡ Some given
Gives meant (Err BadLine) = meant ≡ None
Gives meant (Err Memory) = Unit {0}

-- the refusal of an element
abbrev pub of_element : TreeRefusal → CommandRefusal
of_element (Fault fault) = BadLine
of_element NoMemory = Memory

-- the elements that an edit brings are each in their form
abbrev pub IsProperCommand : Command → Type 0
IsProperCommand Show = Unit {0}
IsProperCommand (Change edit) = IsProperEdit edit
