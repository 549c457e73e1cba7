-- A session over which edits go: those that are refused leave it as it is.
use Rattle.std.specs.Prelude.{ℕ, ◌+◌, List, [], ◌∷◌, Bool, ◌&&◌, if◌then◌else◌}
use Rattle.std.specs.Option.{is_none}
use Rattle.tree_edits.specs.Edits.{edited, refusal_of}
use Rattle.tree_edits.specs.declared.edit.Edit.{Edit}
use Rattle.layout_model.specs.Layout.{is_tree_in_range}
use Rattle.edit_session.specs.Session.{SessionValue, edited_session}

-- an edit is accepted where the tree has no reason to refuse it and the edited tree is in range
unfoldable pub is_accepted : SessionValue → Edit → Bool
is_accepted session edit =
    is_none (refusal_of session.tree edit)
    && is_tree_in_range session.metrics (edited session.tree edit)

-- the session after an edit
abbrev pub after_edit : SessionValue → Edit → SessionValue
after_edit session edit = if is_accepted session edit then edited_session session edit else session

-- the session after edits, each over the tree as edited so far
unfoldable pub after_edits : SessionValue → List Edit → SessionValue
after_edits session [] = session
after_edits session (edit ∷ edits) = after_edits (after_edit session edit) edits

-- how many of them are accepted
unfoldable pub accepted_count : SessionValue → List Edit → ℕ
accepted_count session [] = 0
accepted_count session (edit ∷ edits) =
    (if is_accepted session edit then 1 else 0) + accepted_count (after_edit session edit) edits
