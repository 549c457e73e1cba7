use Rattle.std.proofs.Common.{◌^◌, arith, sym, subst}
use Rattle.std.proofs.lemmas.Int.{to_z-of_z}
use Rattle.fixed_units.specs.Numbers.{IsWithin}
use Rattle.fractions.specs.declared.parts.Fraction.{Fraction}
use Rattle.fractions.proofs.Bounds.{placed_width_in}
use Rattle.fractions.proofs.placing.fraction.Goals as goal

pub with_rule-requires-clause-width_in : goal.with_rule-requires-clause-width_in
with_rule-requires-clause-width_in c =
    subst (λ (parts : Fraction). IsWithin (2 ^ 32) parts.frame.width) (sym c.placed-parts.ensures)
    (placed_width_in _ _ _ c.requires.top_fits c.requires.bottom_fits)

pub returns-then-thickness-gt0 : goal.returns-then-thickness-gt0
returns-then-thickness-gt0 c = grind (arith, to_z-of_z)

pub returns-else-thickness-gt0 : goal.returns-else-thickness-gt0
returns-else-thickness-gt0 c = grind (arith, to_z-of_z)
