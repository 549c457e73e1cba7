use Rattle.std.proofs.Common.{◌∙◌, None, Some, ap, sym}
use Rattle.std.specs.Prelude.{unwrap_or}
use Rattle.tree_edits.specs.declared.command.Command.TheVariants.{Change}
use Rattle.tree_edits.specs.declared.edit.Edit.TheVariants.{Attr}
use Rattle.command_reader.proofs.Meant.{attribute_meant}
use Rattle.command_reader.proofs.said.Said.into_attribute.Goals as goal

pub returns-clause-reads : goal.returns-clause-reads
returns-clause-reads c =
    attribute_meant c.args.self c.in-Some.node c.in-Some-name.name c.requires c.in-Some.is c.in-Some-name.is c.in-None.is
    ∙ ap (λ id. Some (Change (Attr id c.in-Some-name.name (unwrap_or c.args.self.value None)))) (sym c.as_id.ensures)
    ∙ ap (λ value. Some (Change (Attr c.as_id.result c.in-Some-name.name value))) (sym c.set-value.ensures)
