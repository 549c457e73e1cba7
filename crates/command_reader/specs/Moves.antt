-- Which way a line of a script goes through its history.
use Rattle.std.specs.Prelude.{ℕ, List, codes, Bool, false, ◌&&◌, if◌then◌else◌}
use Rattle.std.specs.List.{list_all}
use Rattle.std.specs.Option.{option_and_then, option_map_or}
use Rattle.std.specs.Str.{bytes_eq}
use Rattle.serde_json.specs.Data.{Data}
use Rattle.serde_json.specs.Find.{get, as_str}
use Rattle.tree_json.specs.Elements.{keys_in}
use Rattle.tree_edits.specs.Commands.{json_in}
use Rattle.command_reader.specs.declared.moves.Move.{Move}
use Rattle.command_reader.specs.declared.moves.Move.TheVariants.{Undo, Redo, Other}

abbrev pub is_op : List ℕ → Bool
is_op key = bytes_eq key (codes "op")

-- there is no key but `op`
unfoldable pub has_op_alone : Data → Bool
has_op_alone value = list_all is_op (keys_in value)

-- an object with the one key `op`, under which this word stands
abbrev pub asks_for : List ℕ → Data → Bool
asks_for word value =
    option_map_or (bytes_eq word) (option_and_then as_str (get (codes "op") value)) false
    && has_op_alone value

unfoldable pub move_of : Data → Move
move_of value =
    if asks_for (codes "undo") value then Undo
    else if asks_for (codes "redo") value then Redo
    else Other

-- to undo, to redo, or something else, where a line without a reading asks for neither
abbrev pub move_in : List ℕ → Move
move_in line = option_map_or move_of (json_in line) Other
