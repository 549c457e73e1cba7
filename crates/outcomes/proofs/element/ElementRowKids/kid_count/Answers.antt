use Rattle.std.proofs.Common.{ap, length, arith}
use Rattle.std.proofs.lemmas.List.{length-map}
use Rattle.fixed_units.proofs.Sums.{length-list_to}
use Rattle.layout_model.specs.Elements.{Element, row_kid}
use Rattle.outcomes.proofs.Kids.{now_of}
use Rattle.outcomes.proofs.element.ElementRowKids.kid_count.Goals as goal

pub returns : goal.returns
returns g c =
    let e = c.args.self.now in
    let each = c.self.invariant.each in
    let shown = ap (λ (e : Element). length e.seen.kids) c.self.view_is in
    omega (arith, length-list_to (length e.seen.kids) (row_kid e), each, shown, length-map c.self.inside.kids.items now_of, c.len.ensures)
