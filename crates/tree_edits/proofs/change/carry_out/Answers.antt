use Rattle.std.proofs.Common.{sym, ap, refl}
use Rattle.tree_edits.specs.declared.change.Replaced.TheVariants.{Value}
use Rattle.tree_edits.proofs.change.carry_out.Goals as goal

pub returns-in-SetValue : goal.returns-in-SetValue
returns-in-SetValue c =
    rw c.in-SetValue.is (record { element = c.set_value.ensures.changed; replaced = ap Value c.set_value.ensures.replaced })
