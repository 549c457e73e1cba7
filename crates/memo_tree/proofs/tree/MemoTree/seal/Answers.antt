use Rattle.std.proofs.Common.{sym, subst}
use Rattle.memo_tree.specs.States.{IsPassed}
use Rattle.memo_tree.specs.Trees.{MemoTreeValue}
use Rattle.memo_tree.proofs.Roots.{sealed_pass}
use Rattle.memo_tree.proofs.tree.MemoTree.seal.Goals as goal

pub commit-requires : goal.commit-requires
commit-requires c = (subst IsPassed (sym c.self.view_is) c.requires.passed).stopped.in_pass

pub seal-requires : goal.seal-requires
seal-requires c = record { tidy = (subst IsPassed (sym c.self.view_is) c.requires.passed).stopped.tidy }

pub returns-clause-sealed : goal.returns-clause-sealed
returns-clause-sealed c =
    let old : MemoTreeValue = record { tree = c.self.inside.tree; metrics = c.self.inside.metrics; memo = c.self.inside.memo; store = c.self.inside.store } in
    sealed_pass old c.seal.new.memo c.commit.new.self (subst IsPassed (sym c.self.view_is) c.requires.passed) c.seal.ensures.sealed c.commit.ensures
