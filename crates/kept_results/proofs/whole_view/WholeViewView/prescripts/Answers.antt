use Rattle.std.proofs.Common.{◌∙◌, sym}
use Rattle.kept_results.proofs.whole_view.WholeViewView.prescripts.Goals as goal

pub returns : goal.returns
returns c = c.len.ensures ∙ sym c.args.self.now.shown.behind
