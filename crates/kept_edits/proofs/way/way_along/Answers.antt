use Rattle.std.proofs.Common.{sym, subst}
use Rattle.tree_edits.specs.Edits.{named}
use Rattle.tree_edits.specs.Paths.{Finds, LeadsTo}
use Rattle.kept_edits.proofs.EditWays.{not_unknown}
use Rattle.kept_edits.proofs.way.way_along.Goals as goal

pub returns-in-None : goal.returns-in-None
returns-in-None c = λ free.
    not_unknown c.args.tree.now c.args.edit.now free (subst (Finds (named c.args.edit.now) 1 c.args.tree.now.root) c.in-None.is c.requires.found)

pub returns-in-Some : goal.returns-in-Some
returns-in-Some c = λ free.
    let leads = subst (Finds (named c.args.edit.now) 1 c.args.tree.now.root) c.in-Some.is c.requires.found in
    c.end_of.ensures c.args.tree.now c.requires.whole free (subst (LeadsTo (named c.args.edit.now) 1 c.args.tree.now.root) (sym c.copy.ensures) leads)
