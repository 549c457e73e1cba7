use Rattle.std.proofs.Common.{◌∙◌, sym}
use Rattle.kept_results.proofs.Shown.{facts_seen}
use Rattle.kept_results.proofs.whole_view.WholeViewView.facts.Goals as goal

pub returns : goal.returns
returns c = c.args.self.now.shown.own ∙ sym (facts_seen c.args.self.now.node.now)
