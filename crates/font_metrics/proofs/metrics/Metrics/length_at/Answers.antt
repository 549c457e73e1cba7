use Rattle.std.proofs.Common.{arith, lit<, subst, sym, ◌^◌}
use Rattle.fixed_units.specs.Numbers.{IsWithin}
use Rattle.fixed_units.proofs.Within.{natural_in, widened}
use Rattle.font_metrics.proofs.Scaling.{within64}
use Rattle.font_metrics.proofs.metrics.Metrics.length_at.Goals as goal

pub returns-clause-within : goal.returns-clause-within
returns-clause-within c =
    let within = widened (2 ^ 16) (natural_in c.args.units) (omega (arith, c.ranges.units.fits)) in
    let narrow = c.scale.ensures.narrow (within64 (subst (IsWithin (2 ^ 16)) (sym c.from.ensures) within) (lit< tt)) in
    within64 narrow (lit< tt)
