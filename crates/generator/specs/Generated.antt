-- What comes of edits that are drawn from a seed.
use Rattle.std.specs.Prelude.{ℕ, List}
use Rattle.font_metrics.specs.Metrics.{MetricsValue}
use Rattle.tree_edits.specs.declared.edit.Edit.{Edit}
use Rattle.edit_session.specs.Session.{SessionValue, page, root_box}
use Rattle.seeded_edits.specs.Edits.{drawn_edits}
use Rattle.generator.specs.Folded.{accepted_count, after_edits}
use Rattle.seeded_edits.specs.Start.{start_tree}
use Rattle.seeded_edits.specs.Summary.{box_count}
use Rattle.seeded_edits.specs.declared.summary.Summary.{Summary}

-- the session with which they begin
abbrev pub first_session : MetricsValue → SessionValue
first_session metrics = record { tree = start_tree; metrics = metrics }

-- what is told of a session, after so many edits of which so many were accepted
abbrev pub summary_of : ℕ → ℕ → SessionValue → Summary
summary_of edits accepted session = record {
  edits = edits;
  accepted = accepted;
  root = root_box session;
  boxes = box_count (page session);
}

-- what is told of edits, each over the tree as edited so far, of which there are so many
abbrev pub told_of : ℕ → SessionValue → List Edit → Summary
told_of count session edits =
    summary_of count (accepted_count session edits) (after_edits session edits)

-- what is told of so many edits from a seed
unfoldable pub generated : MetricsValue → ℕ → ℕ → Summary
generated metrics seed count = told_of count (first_session metrics) (drawn_edits count seed)
