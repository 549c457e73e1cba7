use Rattle.std.proofs.Common.{refl}
use Rattle.tree_edits.proofs.change.set_value.Goals as goal

pub returns-in-Some : goal.returns-in-Some
returns-in-Some c = rw (c.in-Some.is, c.put.ensures.all) (record { changed = refl; replaced = c.put.ensures.value })

pub returns-in-None : goal.returns-in-None
returns-in-None c =
    rw (c.in-None.is, c.remove.ensures.all, c.as_str.ensures) (record { changed = refl; replaced = rw c.as_str.ensures at c.remove.ensures.value })
