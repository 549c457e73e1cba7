use Rattle.std.proofs.Common.{subst, sym, ap}
use Rattle.std.specs.Option.{option_and_then}
use Rattle.serde_json.specs.Errors.{IsMemory}
use Rattle.tree_edits.specs.Commands.{Gives, command_of}
use Rattle.tree_edits.proofs.Reading.{json_of_text, no_json}
use Rattle.tree_edits.proofs.read.read_command.Goals as goal

pub returns-in-Ok-clause-reads : goal.returns-in-Ok-clause-reads
returns-in-Ok-clause-reads c =
    let read = c.in-Ok.ensures.ok in
    let json = json_of_text c.args.line.now _ read.0 read.1 in
    subst (λ j. Gives (option_and_then command_of j) c.command_of.result) (sym json) c.command_of.ensures.reads

pub returns-else-is_memory-clause-reads : goal.returns-else-is_memory-clause-reads
returns-else-is_memory-clause-reads c =
    let other : ¬ IsMemory c.in-Err.error = λ m. let yes = c.is_memory.ensures.1 m in let no = c.if-is_memory.false in cc in
    ap (option_and_then command_of) (no_json c.args.line.now (c.in-Err.ensures.err other))
