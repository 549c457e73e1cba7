use Rattle.std.proofs.Common.{◌≡◌, refl, subst, Option, Some, None, option_map}
use Rattle.math_tree.specs.declared.node.NodeId.{NodeId}
use Rattle.tree_edits.specs.Commands.{Gives}
use Rattle.tree_edits.specs.declared.command.Command.TheVariants.{Change}
use Rattle.tree_edits.specs.declared.edit.Edit.TheVariants.{Remove}
use Rattle.tree_edits.proofs.read.command_by.Goals as goal

removal : (id : Option NodeId) → option_map Change (option_map Remove id) ≡ option_map (λ i. Change (Remove i)) id
removal None = refl
removal (Some id) = refl

pub returns-in-Texting-clause-reads : goal.returns-in-Texting-clause-reads
returns-in-Texting-clause-reads c = rw c.in-Texting.is (c.change.ensures.reads _ c.text_edit.ensures.reads)

pub returns-in-Marking-clause-reads : goal.returns-in-Marking-clause-reads
returns-in-Marking-clause-reads c = rw c.in-Marking.is (c.change-in-Marking.ensures.reads _ c.attribute_edit.ensures.reads)

pub returns-in-Inserting-clause-reads : goal.returns-in-Inserting-clause-reads
returns-in-Inserting-clause-reads c = rw c.in-Inserting.is (c.change-in-Inserting.ensures.reads _ c.insert_edit.ensures.reads)

pub returns-in-Removing-clause-reads : goal.returns-in-Removing-clause-reads
returns-in-Removing-clause-reads c =
    let made = c.change-in-Removing.ensures.reads _ c.remove_edit.ensures.reads in
    rw c.in-Removing.is (subst (λ meant. Gives meant c.change-in-Removing.result) (removal _) made)

pub returns-in-Replacing-clause-reads : goal.returns-in-Replacing-clause-reads
returns-in-Replacing-clause-reads c = rw c.in-Replacing.is (c.change-in-Replacing.ensures.reads _ c.replace_edit.ensures.reads)
