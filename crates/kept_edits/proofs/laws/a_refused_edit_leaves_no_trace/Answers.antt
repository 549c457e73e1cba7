use Rattle.kept_edits.proofs.Ended.{refused_law}
use Rattle.kept_edits.proofs.laws.a_refused_edit_leaves_no_trace.Goals as goal

pub returns : goal.returns
returns c = refused_law
