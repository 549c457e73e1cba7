use Rattle.std.proofs.Common.{sym, subst}
use Rattle.font_metrics.specs.Metrics.{MetricsValue}
use Rattle.embed.specs.Desks.{DeskValue, IsStarted}
use Rattle.embed.proofs.starting.desk_over.Goals as goal

-- a copy has the values of the metrics, and a box the desk that it was made of
pub returns-clause-started : goal.returns-clause-started
returns-clause-started c =
    subst (λ (desk : DeskValue). IsStarted c.args.metrics.now c.args.tree.now desk) (sym c.in_ok-boxed.ensures)
    (subst (λ (m : MetricsValue). IsStarted m c.args.tree.now c.in_ok-desk.desk) c.in_ok-copy.ensures c.in_ok-desk.ensures.started)
