use Rattle.std.proofs.Common.{◌≡◌, Some}
use Rattle.tree_edits.proofs.OneStep.{is_step}
use Rattle.tree_edits.specs.Paths.{node_at}
use Rattle.tree_edits.proofs.planning.Step.make.Goals as goal

pub returns-in-Ok : goal.returns-in-Ok
returns-in-Ok c =
    let at : node_at c.args.path c.args.tree.now.root ≡ Some c.element_at-element.result.now =
    rw (← c.root.ensures.exact, ← c.as_slice.ensures) c.element_at-element.ensures in
    is_step c.args.tree.now.root c.args.path c.args.change c.in-Ok.undo c.named_back-back.result c.element_at-element.result.now c.requires at
    c.in-Ok.ensures.order c.in-Ok.ensures.undo c.named_back-back.ensures
