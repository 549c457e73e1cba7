use Rattle.std.proofs.Common.{◌∙◌, arith, rules}
use Rattle.doc_io.proofs.Windows.{reads_not, reads_on}
use Rattle.doc_io.proofs.held.Held.read_on.Goals as goal

pub returns-in_err-count : goal.returns-in_err-count
returns-in_err-count g c =
    let settled = c.settle-start.ensures in
    reads_not _ _ _ _ _ _ _ settled.behind.0 (settled.bytes ∙ c.self.view_is) _ _ (search rules) c.in_err-count.ensures

pub returns : goal.returns
returns g c =
    let settled = c.settle-start.ensures in
    reads_on _ _ _ _ _ _ _ settled.behind.0 (settled.bytes ∙ c.self.view_is) _ (omega (arith, settled.behind.1, settled.room)) c.in_ok-count.ensures
