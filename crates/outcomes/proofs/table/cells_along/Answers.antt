use Rattle.std.proofs.Common.{rules, ◌∙◌, subst, sym, lit≤, ◌^◌, w64, FitsSigned}
use Rattle.std.proofs.lemmas.Int.{to_z-of_z}
use Rattle.fixed_units.specs.Boxes.{farthest}
use Rattle.fixed_units.specs.Numbers.{IsWithin}
use Rattle.fixed_units.proofs.Within.{widened}
use Rattle.layout_model.proofs.Ranges.{number_within}
use Rattle.outcomes.proofs.table.cells_along.Goals as goal

pub along-requires-clause-width : goal.along-requires-clause-width
along-requires-clause-width g c =
    let width = c.args.row.now.frame.width in
    let fits : FitsSigned w64 width = search rules in
    widened (2 ^ 50) (subst (IsWithin farthest) (to_z-of_z w64 width fits) (number_within _ (sym c.is_stored.ensures ∙ c.if-not-is_stored.false))) (lit≤ tt)
