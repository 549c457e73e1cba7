use Rattle.std.proofs.Common.{◌∙◌, sym, ap, subst}
use Rattle.memo_tree.specs.States.{IsChanged, IsStopped, without_pass}
use Rattle.memo_tree.specs.Trees.{MemoTreeValue}
use Rattle.memo_tree.proofs.Roots.{rolled_back, taken_back}
use Rattle.memo_tree.proofs.tree.MemoTree.undo_pass.Goals as goal

pub undo_pass-requires : goal.undo_pass-requires
undo_pass-requires c = record { tidy = (subst IsStopped (sym c.self.view_is) c.requires.stopped).tidy }

pub rollback-requires : goal.rollback-requires
rollback-requires c = (subst IsStopped (sym c.self.view_is) c.requires.stopped).in_pass

pub returns-clause-before : goal.returns-clause-before
returns-clause-before c =
    let old : MemoTreeValue = record { tree = c.self.inside.tree; metrics = c.self.inside.metrics; memo = c.self.inside.memo; store = c.self.inside.store } in
    let stopped = subst IsStopped (sym c.self.view_is) c.requires.stopped in
    taken_back old c.undo_pass.new.memo c.rollback.new.self c.undo_pass.ensures (rolled_back old.store c.rollback.new.self stopped.in_pass c.rollback.ensures)
    ∙ ap without_pass c.self.view_is

pub returns-clause-changed : goal.returns-clause-changed
returns-clause-changed c =
    let old : MemoTreeValue = record { tree = c.self.inside.tree; metrics = c.self.inside.metrics; memo = c.self.inside.memo; store = c.self.inside.store } in
    let stopped = subst IsStopped (sym c.self.view_is) c.requires.stopped in
    subst IsChanged
    (sym (taken_back old c.undo_pass.new.memo c.rollback.new.self c.undo_pass.ensures (rolled_back old.store c.rollback.new.self stopped.in_pass c.rollback.ensures)))
    stopped.begun
