use Rattle.std.proofs.Common.{◌∙◌, ◌<◌, sym, length, arith}
use Rattle.fixed_units.proofs.Sums.{length-list_to}
use Rattle.layout_model.specs.Elements.{row_kid}
use Rattle.outcomes.proofs.Kids.{row_kid_is}
use Rattle.outcomes.proofs.element.ElementRowKids.kid_at.Goals as goal

pub row_kid-requires : goal.row_kid-requires
row_kid-requires g c =
    let e = c.args.self.now in
    omega (arith, c.requires, length-list_to (length e.seen.kids) (row_kid e))

pub returns : goal.returns
returns g c =
    let e = c.args.self.now in
    let within : c.args.place < length e.seen.kids = omega (arith, c.requires, length-list_to (length e.seen.kids) (row_kid e)) in
    c.row_kid.ensures.value ∙ sym (row_kid_is e c.args.place within)
