use Rattle.std.proofs.Common.{sym, ap, inr}
use Rattle.serde_json.specs.Errors.{IsMemory}
use Rattle.input_files.specs.Files.{tree_of_json}
use Rattle.input_files.proofs.JsonBytes.{json_of_text, no_json}
use Rattle.input_files.proofs.files.value_of.Goals as goal

pub returns-in-Ok-clause-read : goal.returns-in-Ok-clause-read
returns-in-Ok-clause-read c =
    let read = c.in-Ok.ensures.ok in
    json_of_text c.args.bytes.now _ read.0 read.1

pub returns-else-is_memory-clause-refused : goal.returns-else-is_memory-clause-refused
returns-else-is_memory-clause-refused c =
    let other : ¬ IsMemory c.in-Err.error = λ m. let yes = c.is_memory.ensures.1 m in let no = c.if-is_memory.false in cc in
    inr (sym (ap tree_of_json (no_json c.args.bytes.now (c.in-Err.ensures.err other))))
