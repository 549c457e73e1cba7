use Rattle.std.proofs.Common.{pos, ◌≤ℤ◌, sym, subst, arith}
use Rattle.fixed_units.proofs.Signed.{signed}
use Rattle.style_scope.proofs.Scales.{initial_size}
use Rattle.style_scope.proofs.scope.root_style.Goals as goal

pub by_attributes-requires-clause-size : goal.by_attributes-requires-clause-size
by_attributes-requires-clause-size c =
    subst (λ z. z ≤ℤ pos 1048576) (sym (initial_size c.args.metrics.now)) (omega (arith, signed))
