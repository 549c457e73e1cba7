use Rattle.std.proofs.Common.{rules, tests, ◌∙◌, Bool, String, Global, string_bytes}
use Rattle.std.proofs.lemmas.Iterator.Consumers.{YieldsList-from_rest}
use Rattle.std.proofs.lemmas.Iterator.Search.{all_from_yields_List}
use Rattle.std.specs.BTreeMap.{keys}
use Rattle.command_reader.specs.Moves.{is_op}
use Rattle.command_reader.proofs.MoveKeys.{no_other_keys}
use Rattle.command_reader.proofs.moves.has_op_alone.Goals as goal

pub returns-in-Object : goal.returns-in-Object
returns-in-Object c =
    let road = YieldsList-from_rest (keys c.in-Object.members) c.keys.ensures.rest in
    let known : String Global → Bool = λ key. is_op (string_bytes key) in
    let all = all_from_yields_List known _ _ c.all.result c.all.ensures.ran road (λ x b q k. search (rules, tests)) in
    rw (c.in-Object.is) (all ∙ no_other_keys c.in-Object.members)
