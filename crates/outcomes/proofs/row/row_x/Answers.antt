use Rattle.std.proofs.Common.{◌∙◌, subst, sym, ◌+◌, ◌^◌}
use Rattle.fixed_units.specs.Numbers.{IsWithin}
use Rattle.outcomes.proofs.Casts.{comes_back, fits_back}
use Rattle.outcomes.proofs.MirroredRows.{row_x_is, within_row}
use Rattle.outcomes.proofs.row.row_x.Goals as goal

pub overflow_cast-result : goal.overflow_cast-result
overflow_cast-result g c =
    fits_back c.mirrored.result
    (within_row c.args.e.now c.args.row.now c.args.index c.context.result.now c.frame.result c.offset_at-x.result c.from-part.result c.mirrored.result
    c.requires.width c.offset_at-x.ensures.within c.frame.ensures.stored c.frame.ensures.value c.offset_at-x.ensures.value c.context.ensures.value
    c.if-not-context.false c.from-part.ensures c.mirrored.ensures)

pub returns-clause-value : goal.returns-clause-value
returns-clause-value g c =
    comes_back c.mirrored.result
    (within_row c.args.e.now c.args.row.now c.args.index c.context.result.now c.frame.result c.offset_at-x.result c.from-part.result c.mirrored.result
    c.requires.width c.offset_at-x.ensures.within c.frame.ensures.stored c.frame.ensures.value c.offset_at-x.ensures.value c.context.ensures.value
    c.if-not-context.false c.from-part.ensures c.mirrored.ensures)
    ∙ row_x_is c.args.e.now c.args.row.now c.args.index c.context.result.now c.frame.result c.offset_at-x.result c.from-part.result c.mirrored.result
    c.requires.width c.offset_at-x.ensures.within c.frame.ensures.stored c.frame.ensures.value c.offset_at-x.ensures.value c.context.ensures.value
    c.if-not-context.false c.from-part.ensures c.mirrored.ensures

pub returns-clause-within : goal.returns-clause-within
returns-clause-within g c =
    let within = within_row c.args.e.now c.args.row.now c.args.index c.context.result.now c.frame.result c.offset_at-x.result c.from-part.result c.mirrored.result
    c.requires.width c.offset_at-x.ensures.within c.frame.ensures.stored c.frame.ensures.value c.offset_at-x.ensures.value c.context.ensures.value
    c.if-not-context.false c.from-part.ensures c.mirrored.ensures in
    subst (IsWithin (2 ^ 61 + 2 ^ 52)) (sym (comes_back c.mirrored.result within)) within
