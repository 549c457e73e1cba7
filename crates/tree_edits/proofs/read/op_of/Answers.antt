use Rattle.std.proofs.Common.{refl}
use Rattle.tree_edits.specs.Commands.{op_of}
use Rattle.tree_edits.proofs.Known.{off}
use Rattle.tree_edits.proofs.read.op_of.Goals as goal

-- a word that is none of the known ones is found in no row of the table
pub returns-in_default : goal.returns-in_default
unfolding op_of
returns-in_default c = let words = c.in_default in rw (
  off words.not-show,
  off words.not-text,
  off words.not-attr,
  off words.not-insert,
  off words.not-remove,
  off words.not-replace,
) refl
