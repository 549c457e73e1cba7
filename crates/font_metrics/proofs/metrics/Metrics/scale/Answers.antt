use Rattle.std.proofs.Common.{rules, subst, sym, ◌^◌}
use Rattle.fixed_units.specs.Numbers.{IsWithin}
use Rattle.fixed_units.proofs.Within.{product_in}
use Rattle.font_metrics.specs.Metrics.{scale_of}
use Rattle.font_metrics.specs.Taken.{IsTaken}
use Rattle.font_metrics.proofs.Scaling.{scale_in, size_in}
use Rattle.font_metrics.proofs.Finish.{whole_taken}
use Rattle.font_metrics.proofs.metrics.Metrics.scale.Goals as goal

pub scaled-requires-clause-upem_low : goal.scaled-requires-clause-upem_low
scaled-requires-clause-upem_low c = (whole_taken c.self.inside c.self.invariant).upem_low

pub returns-clause-value : goal.returns-clause-value
unfolding scale_of
returns-clause-value c = search rules

pub returns-clause-within : goal.returns-clause-within
returns-clause-within c =
    let taken = subst IsTaken c.self.view_is (whole_taken c.self.inside c.self.invariant) in
    let size = size_in c.args.size c.requires.size_low c.requires.size_high in
    subst (IsWithin (2 ^ 36)) (sym (returns-clause-value c))
    (scale_in c.args.self.now (2 ^ 36) c.args.value c.args.size taken.upem_low (product_in c.requires.value_in size))

pub returns-clause-narrow : goal.returns-clause-narrow
returns-clause-narrow c =
    let taken = subst IsTaken c.self.view_is (whole_taken c.self.inside c.self.invariant) in
    let size = size_in c.args.size c.requires.size_low c.requires.size_high in
    λ h. subst (IsWithin (2 ^ 32)) (sym (returns-clause-value c))
    (scale_in c.args.self.now (2 ^ 32) c.args.value c.args.size taken.upem_low (product_in h size))
