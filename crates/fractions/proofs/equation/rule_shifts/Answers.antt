use Rattle.std.proofs.Common.{◌*◌, ◌^◌, arith, lit<, lit≤, sym, subst}
use Rattle.std.proofs.lemmas.Int.{to_z-of_z}
use Rattle.fixed_units.specs.Numbers.{IsWithin, halved}
use Rattle.fixed_units.proofs.Within.{sum_in, difference_in, fits_i64}
use Rattle.fractions.specs.Equation.{rule_shifts_of, AreShiftsWithin}
use Rattle.fractions.proofs.Bounds.{halved_in, rule_shifts_in}
use Rattle.fractions.proofs.equation.rule_shifts.Goals as goal

pub clear_shift-requires-clause-edge_in : goal.clear_shift-requires-clause-edge_in
clear_shift-requires-clause-edge_in c =
    let edge = sum_in c.requires.font_in.axis (halved_in (10 ^ 9 * 2 ^ 31) c.requires.thickness_in (lit≤ tt)) in
    let f = fits_i64 edge (lit< tt) in
    grind (arith, to_z-of_z)

pub clear_shift-requires-2-clause-edge_in : goal.clear_shift-requires-2-clause-edge_in
clear_shift-requires-2-clause-edge_in c =
    let edge = difference_in (halved_in (10 ^ 9 * 2 ^ 31) c.requires.thickness_in (lit≤ tt)) c.requires.font_in.axis in
    let f = fits_i64 edge (lit< tt) in
    grind (arith, to_z-of_z)

pub returns-clause-value : goal.returns-clause-value
unfolding rule_shifts_of
returns-clause-value c =
    let reach : IsWithin (10 ^ 9 * 2 ^ 31) (halved c.args.thickness) = halved_in (10 ^ 9 * 2 ^ 31) c.requires.thickness_in (lit≤ tt) in
    let f = fits_i64 (sum_in c.requires.font_in.axis reach) (lit< tt) in
    let g = fits_i64 (difference_in reach c.requires.font_in.axis) (lit< tt) in
    grind (arith, to_z-of_z)

pub returns-clause-within : goal.returns-clause-within
returns-clause-within c =
    subst (AreShiftsWithin (2 ^ 61)) (sym (returns-clause-value c))
    (rule_shifts_in _ _ _ _ c.requires.font_in c.requires.top_fits c.requires.bottom_fits c.requires.thickness_in)
