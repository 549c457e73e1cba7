use Rattle.std.proofs.Common.{◌≡◌, Some, List, ℕ, subst}
use Rattle.std.specs.Prelude.{IfSome}
use Rattle.serde_json.specs.Read.{read}
use Rattle.tree_edits.specs.Commands.{json_in}
use Rattle.tree_reader.proofs.Found.{found_too, given_too, json_of_text}
use Rattle.command_reader.specs.Said.{line_of}
use Rattle.command_reader.specs.declared.said.Said.{Said}
use Rattle.command_reader.proofs.line.said_in.Goals as goal

pub returns-in-Ok : goal.returns-in-Ok
returns-in-Ok c =
    let line = c.args.line.now in
    let text = c.in-Ok.ensures.cases in
    let Read : List ℕ → Said → Type 0 = λ bytes said. read bytes ≡ Some (line_of said) in
    let Json : Said → Type 0 = λ said. json_in line ≡ Some (line_of said) in
    let same : (said : Said) → Read c.in-Ok.text.now said → Json said =
    λ said is. json_of_text line (line_of said) text.1 (subst (λ bytes. Read bytes said) text.0 is) in
    given_too (λ found. IfSome found (Read c.in-Ok.text.now)) (λ found. IfSome found Json) (found_too (Read c.in-Ok.text.now) Json same) c.said_in_text.result c.said_in_text.ensures
