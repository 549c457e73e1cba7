use Rattle.std.proofs.Common.{subst, sym, ◌≤◌, length}
use Rattle.doc_io.proofs.Windows.{window_cut}
use Rattle.doc_io.proofs.held.Held.drop_front.Goals as goal

pub returns : goal.returns
returns c =
    let held = c.self.inside in
    window_cut held.start held.end c.args.count held.room.items c.args.self.now c.self.invariant.0
    (subst (λ size. held.end ≤ size) (sym c.self.invariant.2) c.self.invariant.1) c.self.view_is c.requires
