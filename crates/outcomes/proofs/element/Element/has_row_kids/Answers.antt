use Rattle.std.proofs.Common.{subst, length, arith}
use Rattle.fixed_units.proofs.Sums.{length-list_to}
use Rattle.layout_model.specs.Elements.{Element, row_kid}
use Rattle.outcomes.specs.Elements.{IsWhole}
use Rattle.outcomes.proofs.Kids.{kids_stored}
use Rattle.outcomes.proofs.element.Element.has_row_kids.Goals as goal

pub returns-clause-few : goal.returns-clause-few
returns-clause-few g c =
    let e = c.args.self.now in
    let whole : IsWhole e c.self.inside.size = subst (λ (e : Element). IsWhole e c.self.inside.size) c.self.view_is c.self.invariant in
    omega (arith, length-list_to (length e.seen.kids) (row_kid e), whole.each, whole.few)

pub returns-clause-stored : goal.returns-clause-stored
returns-clause-stored g c =
    kids_stored c.args.self.now c.self.inside.size (subst (λ (e : Element). IsWhole e c.self.inside.size) c.self.view_is c.self.invariant)
