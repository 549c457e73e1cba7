-- The steps of generated edits.
use Rattle.std.specs.Prelude.{◌≡◌, ◌≢◌, ℕ, List, [], ◌∷◌, take, None}
use Rattle.font_metrics.specs.Metrics.{MetricsValue}
use Rattle.tree_edits.specs.Edits.{refusal_of}
use Rattle.tree_edits.specs.declared.edit.Edit.{Edit}
use Rattle.edit_session.specs.Counts.{TakesNeeded, TakesVisits}
use Rattle.edit_session.specs.Session.{SessionValue}
use Rattle.seeded_edits.specs.Edits.{drawn_edits}
use Rattle.generator.specs.Folded.{after_edit}
use Rattle.seeded_edits.specs.Start.{start_tree}
use Rattle.generator.specs.Generated.{first_session}

-- the steps of an edit: none where the tree refuses it, and else layouts that it needs, none twice
pub record TakesForEdit (session : SessionValue) (edit : Edit) (from to : ℕ) : Type 0 where
  pub refused : refusal_of session.tree edit ≢ None → to ≡ from
  pub needed : refusal_of session.tree edit ≡ None →
      TakesNeeded session.metrics session.tree edit from to

-- the steps of edits, each over the tree as edited so far
unfoldable pub TakesForEdits : SessionValue → List Edit → ℕ → ℕ → Type 0
TakesForEdits session [] from to = to ≡ from
TakesForEdits session (edit ∷ edits) from to =
    (between : ℕ) × TakesForEdit session edit from between
    × TakesForEdits (after_edit session edit) edits between to

-- the steps of a front of them, where the rest isn't reached
abbrev pub TakesForSome : SessionValue → List Edit → ℕ → ℕ → Type 0
TakesForSome session edits from to = (count : ℕ) × TakesForEdits session (take count edits) from to

-- the steps of a run: layouts that the starting tree needs, none twice, and then those of the edits
pub record TakesForRun (metrics : MetricsValue) (seed count : ℕ) (from to : ℕ) : Type 0 where
  pub laid : ℕ
  pub start : TakesVisits metrics start_tree from laid
  pub edits : TakesForSome (first_session metrics) (drawn_edits count seed) laid to
