use Rattle.std.proofs.Common.{◌≡◌, Some, arith, ap}
use Rattle.std.proofs.lemmas.Int.{to_z-of_z}
use Rattle.fixed_units.specs.declared.boxes.MathBox.{MathBox}
use Rattle.scripts.specs.declared.limits.Placed.{Placed}
use Rattle.scripts.specs.Limits.{over_limit_of, placed_if}
use Rattle.scripts.proofs.limits.over_if.Goals as goal

pub returns-in-Some-clause-value : goal.returns-in-Some-clause-value
returns-in-Some-clause-value c =
    let place : MathBox → Placed = λ part. over_limit_of c.args.metrics.now c.args.base.now part c.args.case c.args.accent c.args.size in
    let same : placed_if place c.args.over ≡ Some (place c.in-Some.part) = ap (placed_if place) c.in-Some.is in
    grind (arith, to_z-of_z)
