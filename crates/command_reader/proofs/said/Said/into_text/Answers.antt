use Rattle.std.proofs.Common.{◌∙◌, Some, ap, sym}
use Rattle.tree_edits.specs.declared.command.Command.TheVariants.{Change}
use Rattle.tree_edits.specs.declared.edit.Edit.TheVariants.{Text}
use Rattle.command_reader.proofs.Meant.{text_meant}
use Rattle.command_reader.proofs.said.Said.into_text.Goals as goal

pub returns-clause-reads : goal.returns-clause-reads
returns-clause-reads c =
    text_meant c.args.self c.in-Some.node c.in-Some-text.text c.requires c.in-Some.is c.in-None.is c.in-Some-text.is c.in-None-value.is
    ∙ ap (λ id. Some (Change (Text id c.in-Some-text.text))) (sym c.as_id.ensures)
