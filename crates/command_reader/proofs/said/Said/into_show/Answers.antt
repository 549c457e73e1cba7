use Rattle.command_reader.proofs.Meant.{show_meant}
use Rattle.command_reader.proofs.said.Said.into_show.Goals as goal

pub returns-clause-reads : goal.returns-clause-reads
returns-clause-reads c = show_meant c.args.self c.requires c.in-None.is c.in-None-name.is c.in-None-text.is c.in-None-value.is
