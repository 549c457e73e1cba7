use Rattle.std.proofs.Common.{◌∙◌, Some, ap, sym}
use Rattle.tree_edits.specs.declared.command.Command.TheVariants.{Change}
use Rattle.tree_edits.specs.declared.edit.Edit.TheVariants.{Remove}
use Rattle.command_reader.proofs.Meant.{removal_meant}
use Rattle.command_reader.proofs.said.Said.into_removal.Goals as goal

pub returns-clause-reads : goal.returns-clause-reads
returns-clause-reads c =
    removal_meant c.args.self c.in-Some.node c.requires c.in-Some.is c.in-None.is c.in-None-text.is c.in-None-value.is
    ∙ ap (λ id. Some (Change (Remove id))) (sym c.as_id.ensures)
