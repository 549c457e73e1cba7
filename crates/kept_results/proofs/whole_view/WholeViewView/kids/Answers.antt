use Rattle.std.proofs.Common.{◌∙◌, sym}
use Rattle.kept_results.proofs.Shown.{as_many_kids}
use Rattle.kept_results.proofs.whole_view.WholeViewView.kids.Goals as goal

pub returns-clause-count : goal.returns-clause-count
returns-clause-count c = c.len.ensures ∙ sym (as_many_kids c.args.self.now.node.now c.args.self.now.shown.all)
