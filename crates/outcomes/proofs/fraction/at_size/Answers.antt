use Rattle.std.proofs.Common.{◌≡◌, subst, sym, pos, ◌≤ℤ◌, arith}
use Rattle.std.proofs.lemmas.Int.{to_z-of_z}
use Rattle.fixed_units.proofs.Signed.{signed}
use Rattle.font_metrics.specs.Metrics.{ex_of}
use Rattle.font_metrics.proofs.Bounds.{scale_not_negative}
use Rattle.outcomes.proofs.fraction.at_size.Goals as goal

-- an ex isn't negative
pub resolve-requires-clause-ex_low : goal.resolve-requires-clause-ex_low
resolve-requires-clause-ex_low c =
    let size_fits = c.ranges.size in
    let value : c.ex.result ≡ ex_of c.args.metrics.now c.args.size = simp to_z-of_z at c.ex.ensures.value in
    let low : pos 0 ≤ℤ c.ex.result =
    subst (λ z. pos 0 ≤ℤ z) (sym value)
    (scale_not_negative c.args.metrics.now (pos c.args.metrics.now.x_height) c.args.size c.is_taken.ensures (omega (arith, signed)) c.requires.size_low) in
    omega (arith, signed)
