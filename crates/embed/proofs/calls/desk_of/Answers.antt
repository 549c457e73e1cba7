use Rattle.std.proofs.Common.{subst, sym}
use Rattle.embed.specs.Desks.{DeskValue, IsOpened}
use Rattle.embed.proofs.calls.desk_of.Goals as goal

-- a box has the desk that it was made of
pub returns-clause-opened : goal.returns-clause-opened
returns-clause-opened c =
    subst (λ (desk : DeskValue). IsOpened c.args.metrics.now c.args.tree.now desk) (sym c.in_ok-boxed.ensures) c.in_ok-desk.ensures.opened
