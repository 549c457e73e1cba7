-- The steps of one line.
use Rattle.std.proofs.Common.{◌≡◌, refl, ℕ, List, [], arith, Option, Some, None}
use Rattle.std.specs.Prelude.{◌≢◌}
use Rattle.tree_edits.specs.declared.edit.Edit.{Edit}
use Rattle.tree_edits.specs.declared.edit.EditRefusal.{EditRefusal}
use Rattle.edit_session.specs.Counts.{TakesNeeded}
use Rattle.edit_session.specs.Session.{SessionValue}
use Rattle.line_replies.specs.EditSteps.{TakesForEdit, TakesForLine, accepted_in, unless_refused}

-- no step is none too many
pub none_for_edit : (session : SessionValue) (edit : Option Edit) (from to : ℕ) → to ≡ from → TakesForEdit session edit from to
none_for_edit session None from to none = none
none_for_edit session (Some edit) from to none = record { pairs = []; steps = omega (arith, none); needed = tt; apart = tt }

pub none_for_line : (session : SessionValue) (line : List ℕ) (from to : ℕ) → to ≡ from → TakesForLine session line from to
none_for_line session line from to none = none_for_edit session (accepted_in session line) from to none

-- an edit of a session
pub for_edit : (session : SessionValue) (edit : Edit) (reason : Option EditRefusal) (from to : ℕ) → (reason ≢ None → to ≡ from)
    → (reason ≡ None → TakesNeeded session.metrics session.tree edit from to)
    → TakesForEdit session (unless_refused reason edit) from to
for_edit session edit None from to unlaid needed = needed refl
for_edit session edit (Some reason) from to unlaid needed = unlaid (λ e. cc)
