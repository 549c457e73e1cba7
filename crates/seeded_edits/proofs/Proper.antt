-- A drawn edit brings no element.
use Rattle.std.proofs.Common.{ℕ, Bool, true, false, cond, nat_eq}
use Rattle.tree_edits.specs.Applying.{IsProperEdit}
use Rattle.tree_edits.specs.declared.edit.Edit.{Edit}
use Rattle.seeded_edits.specs.Draws.{drawn, next_state}
use Rattle.seeded_edits.specs.Edits.{drawn_edit, edit_of_kind, set_form, set_level, set_number, set_thickness}
use Rattle.seeded_edits.specs.Start.{row_count, row_id}

either : (b : Bool) (one other : Edit) → IsProperEdit one → IsProperEdit other → IsProperEdit (cond b one other)
either true one other proper _ = proper
either false one other _ proper = proper

of_kind : (kind row state : ℕ) → IsProperEdit (edit_of_kind kind row state)
unfolding edit_of_kind
of_kind kind row state =
    either (nat_eq kind 0) (set_number row (drawn 1000 state)) _ tt
    (either (nat_eq kind 1) (set_thickness row (drawn 5 state)) _ tt
    (either (nat_eq kind 2) (set_level row (drawn 3 state)) (set_form row (drawn 3 state)) tt tt))

pub drawn_proper : (state : ℕ) → IsProperEdit (drawn_edit state)
unfolding drawn_edit
drawn_proper state =
    of_kind (drawn 4 (next_state state)) (row_id (drawn row_count state)) (next_state (next_state state))
