use Rattle.tree_edits.proofs.EditedTotals.{tree_totals}
use Rattle.tree_edits.proofs.totals.Totals.of_tree.Goals as goal

pub returns : goal.returns
returns c =
    tree_totals c.args.tree.now c.of_tree.result c.next_id.result c.next_id.ensures.whole
    c.of_tree.ensures.elements c.of_tree.ensures.bytes c.next_id.ensures.exact
