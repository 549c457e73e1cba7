use Rattle.std.proofs.Common.{◌∙◌, sym, ap}
use Rattle.std.specs.Option.{option_map_or}
use Rattle.serde_json.specs.Errors.{IsMemory}
use Rattle.command_reader.specs.Moves.{move_of}
use Rattle.command_reader.specs.declared.moves.Move.TheVariants.{Other}
use Rattle.command_reader.proofs.MoveKeys.{json_of_text, no_json}
use Rattle.command_reader.proofs.moves.move_in.Goals as goal

pub returns-in-Ok : goal.returns-in-Ok
returns-in-Ok c =
    let read = c.in-Ok.ensures.ok in
    let json = json_of_text c.args.line.now _ read.0 read.1 in
    c.move_of.ensures ∙ sym (ap (λ j. option_map_or move_of j Other) json)

pub returns-else-is_memory : goal.returns-else-is_memory
returns-else-is_memory c =
    let other : ¬ IsMemory c.in-Err.error = λ m. let yes = c.is_memory.ensures.1 m in let no = c.if-is_memory.false in cc in
    sym (ap (λ j. option_map_or move_of j Other) (no_json c.args.line.now (c.in-Err.ensures.err other)))
