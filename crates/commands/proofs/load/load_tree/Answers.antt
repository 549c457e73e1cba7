use Rattle.std.proofs.Common.{◌≡◌}
use Rattle.input_files.specs.Files.{tree_limit, tree_in}
use Rattle.input_files.specs.declared.refusal.Refusal.TheVariants.{TreeLong, ReadFault}
use Rattle.commands.proofs.Loading.{tree_read, tree_long, not_read}
use Rattle.commands.proofs.load.load_tree.Goals as goal

pub returns-in-Ok : goal.returns-in-Ok
returns-in-Ok g c =
    tree_read _ _ _ _ _ _ c.in-Ok.ensures.reads c.as_slice.ensures c.tree_of.ensures

pub returns-in-Err : goal.returns-in-Err
returns-in-Err g c =
    let own : ¬ (TreeLong ≡ ReadFault) = λ e. cc in
    not_read tree_in tree_limit _ _ _ _ TreeLong _ c.of_reading.ensures c.in-Err.ensures.reads tree_long own
