use Rattle.std.proofs.Common.{sym}
use Rattle.kept_results.proofs.Shown.{head_seen}
use Rattle.kept_results.proofs.whole_view.WholeViewView.head.Goals as goal

pub returns : goal.returns
returns c = sym (head_seen c.args.self.now.node.now)
