use Rattle.std.proofs.Common.{◌^◌, ◌*◌, arith, lit<, lit≤}
use Rattle.std.proofs.lemmas.Int.{to_z-of_z}
use Rattle.fixed_units.specs.Numbers.{IsWithin, halved}
use Rattle.fixed_units.proofs.Within.{natural_in, sum_in, difference_in, fits_i64}
use Rattle.fractions.specs.Placing.{lower_of, with_rule_of}
use Rattle.fractions.proofs.Bounds.{halved_in}
use Rattle.fractions.proofs.placing.with_rule.Goals as goal

pub returns : goal.returns
unfolding with_rule_of lower_of
returns c =
    let half : IsWithin (10 ^ 9 * 2 ^ 31) (halved c.args.thickness) = halved_in (10 ^ 9 * 2 ^ 31) c.requires.thickness_in (lit≤ tt) in
    let lower = difference_in c.requires.axis_in half in
    let upper = sum_in lower c.requires.thickness_in in
    let f = fits_i64 lower (lit< tt) in
    let g = fits_i64 upper (lit< tt) in
    let h = fits_i64 (difference_in (natural_in 0) lower) (lit< tt) in
    let i = fits_i64 (difference_in (natural_in 0) upper) (lit< tt) in
    let j = fits_i64 (difference_in c.requires.width_in (natural_in 2048)) (lit< tt) in
    grind (arith, to_z-of_z)
