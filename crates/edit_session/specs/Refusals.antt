-- What a session answers where a call of a crate below was refused.
use Rattle.fixed_units.specs.declared.refusal.LayRefusal.{LayRefusal}
use Rattle.fixed_units.specs.declared.refusal.LayRefusal.TheVariants.{Range as OutOfRange, Memory as Unlaid}
use Rattle.tree_edits.specs.declared.edit.EditRefusal.{EditRefusal}
use Rattle.tree_edits.specs.declared.edit.EditRefusal.TheVariants.{Memory as Unmade}
use Rattle.edit_session.specs.declared.refusal.SessionRefusal.{SessionRefusal}
use Rattle.edit_session.specs.declared.refusal.SessionRefusal.TheVariants.{Edit as Refused, Range, Memory}

-- an edit's reason, unless it is want of memory
abbrev pub of_edit : EditRefusal → SessionRefusal
of_edit Unmade = Memory
of_edit reason = Refused reason

abbrev pub of_layout : LayRefusal → SessionRefusal
of_layout OutOfRange = Range
of_layout Unlaid = Memory
