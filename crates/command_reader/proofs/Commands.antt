-- A line that is a command asks for no undo and no redo.
use Rattle.std.proofs.Common.{◌≡◌, ◌∙◌, ap, sym, refl, ℕ, Bool, true, false, ◌&&◌, List, Option, Some, None}
use Rattle.std.specs.Prelude.{codes, if◌then◌else◌}
use Rattle.std.specs.Option.{option_and_then, option_map_or}
use Rattle.std.specs.Str.{bytes_eq}
use Rattle.std.proofs.lemmas.Slice.Eq.{bytes_eq-Decides}
use Rattle.serde_json.specs.Data.{Data}
use Rattle.serde_json.specs.Find.{get, as_str}
use Rattle.tree_edits.specs.Commands.{command_in, command_of, command_under, json_in, op_in, op_of}
use Rattle.tree_edits.specs.declared.command.Command.{Command}
use Rattle.tree_edits.specs.declared.read.Op.{Op}
use Rattle.command_reader.specs.Moves.{has_op_alone, move_in, move_of}
use Rattle.command_reader.specs.declared.moves.Move.TheVariants.{Undo, Redo, Other}

-- a word of no command is another one than a command's
other_word : (word found : List ℕ) (op : Op) → op_of word ≡ None → op_of found ≡ Some op → bytes_eq word found ≡ false
other_word word found op none some = by (bytes_eq word found) refl
  where
    by : (same : Bool) → bytes_eq word found ≡ same → same ≡ false
    by true is = absurd (let e : None ≡ Some op = sym none ∙ ap op_of ((bytes_eq-Decides word found).0 is) ∙ some in cc)
    by false is = refl

no_undo : op_of (codes "undo") ≡ None
unfolding op_of
no_undo = refl

no_redo : op_of (codes "redo") ≡ None
unfolding op_of
no_redo = refl

by_word : (word : Option (List ℕ)) (value : Data) (op : Op) → option_and_then op_of word ≡ Some op
    → (if option_map_or (bytes_eq (codes "undo")) word false && has_op_alone value then Undo
    else if option_map_or (bytes_eq (codes "redo")) word false && has_op_alone value then Redo else Other) ≡ Other
by_word None value op h = refl
by_word (Some word) value op h =
    rw (other_word (codes "undo") word op no_undo h, other_word (codes "redo") word op no_redo h) refl

no_move_of : (value : Data) (command : Command) → command_of value ≡ Some command → move_of value ≡ Other
unfolding command_of op_in move_of
no_move_of value command h = by (option_and_then op_of word) refl h
  where
    word : Option (List ℕ)
    word = option_and_then as_str (get (codes "op") value)

    by : (op : Option Op) → option_and_then op_of word ≡ op → option_and_then (λ o. command_under o value) op ≡ Some command
        → (if option_map_or (bytes_eq (codes "undo")) word false && has_op_alone value then Undo
        else if option_map_or (bytes_eq (codes "redo")) word false && has_op_alone value then Redo else Other) ≡ Other
    by None is h = absurd cc
    by (Some op) is h = by_word word value op is

by_json : (value : Option Data) (command : Command) → option_and_then command_of value ≡ Some command → option_map_or move_of value Other ≡ Other
by_json None command h = refl
by_json (Some value) command h = no_move_of value command h

pub no_move : (line : List ℕ) (command : Command) → command_in line ≡ Some command → move_in line ≡ Other
no_move line command h = by_json (json_in line) command h
