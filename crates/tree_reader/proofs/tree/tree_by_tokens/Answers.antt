use Rattle.std.proofs.Common.{subst}
use Rattle.std.specs.Prelude.{IfSome}
use Rattle.tree_reader.specs.Read.{IsTreeOf, IsTreeOfText}
use Rattle.tree_reader.proofs.Found.{found_too, given_too, json_of_text}
use Rattle.tree_reader.proofs.tree.tree_by_tokens.Goals as goal

pub returns-in-Ok : goal.returns-in-Ok
returns-in-Ok c =
    let bytes = c.args.bytes.now in
    let text = c.in-Ok.ensures.cases in
    given_too (λ found. IfSome found (IsTreeOfText c.in-Ok.text.now)) (λ found. IfSome found (IsTreeOf bytes))
    (found_too (IsTreeOfText c.in-Ok.text.now) (IsTreeOf bytes) (λ tree of_text.
    let same : IsTreeOfText bytes tree = subst (λ t. IsTreeOfText t tree) text.0 of_text in
    record { whole = same.whole; read = json_of_text bytes same.whole text.1 same.read; tree_is = same.tree_is }))
    c.tree_of_text.result c.tree_of_text.ensures
