-- The value is read as the starting tree.
use Rattle.std.proofs.Common.{◌≡◌, ◌∙◌, refl, ap}
use Rattle.std.specs.Prelude.{Result, Ok, Err}
use Rattle.fixed_units.specs.Sums.{list_to}
use Rattle.serde_json.specs.Data.{Data}
use Rattle.tree_json.proofs.OnLiterals.{tree_json_on_literals}
use Rattle.tree_json.specs.Reading.{tree_of}
use Rattle.math_tree.specs.Trees.{TreeValue}
use Rattle.tree_json.specs.declared.fault.TreeFault.{TreeFault}
use Rattle.seeded_edits.specs.Document.{document}
use Rattle.seeded_edits.specs.Start.{start_row, start_tree}

pub document_gives_the_tree : tree_of document ≡ Ok start_tree
unfolding tree_json_on_literals list_to document start_row start_tree
document_gives_the_tree = refl

both : (read : Result TreeValue TreeFault) (tree : TreeValue) (fault : TreeFault) → read ≡ Ok tree → read ≡ Err fault → ⊥
both read tree fault ok err = cc

same : (read : Result TreeValue TreeFault) (one other : TreeValue) → read ≡ Ok one → read ≡ Ok other → other ≡ one
same read one other first second = cc

pub no_fault : (value : Data) (fault : TreeFault) → value ≡ document → tree_of value ≡ Err fault → ⊥
no_fault value fault is read = both (tree_of value) start_tree fault (ap tree_of is ∙ document_gives_the_tree) read

pub the_tree : (value : Data) (tree : TreeValue) → value ≡ document → tree_of value ≡ Ok tree → tree ≡ start_tree
the_tree value tree is read = same (tree_of value) start_tree tree (ap tree_of is ∙ document_gives_the_tree) read
