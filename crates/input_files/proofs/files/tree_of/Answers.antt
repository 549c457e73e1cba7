use Rattle.std.proofs.Common.{◌∙◌, ap, inr, subst, sym}
use Rattle.std.specs.Prelude.{IfSome}
use Rattle.tree_reader.specs.Read.{IsTreeOf}
use Rattle.input_files.specs.Files.{of_tree_file, tree_of_json}
use Rattle.input_files.proofs.files.tree_of.Goals as goal

pub returns-in-Some : goal.returns-in-Some
returns-in-Some c =
    let bytes = c.args.bytes.now in
    let tree : IsTreeOf bytes c.in-Some.tree = subst (λ o. IfSome o (IsTreeOf bytes)) c.in-Some.is c.in_ok-tree.ensures in
    inr (sym (ap tree_of_json tree.read ∙ ap of_tree_file tree.tree_is))
