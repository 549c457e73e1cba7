use Rattle.std.proofs.Common.{◌≡◌, ◌∙◌, ap, ◌*◌, ◌+◌, arith, lit<, ◌-ℤ◌}
use Rattle.std.proofs.lemmas.Int.{to_z-of_z}
use Rattle.fixed_units.specs.Numbers.{halved}
use Rattle.fixed_units.proofs.Signed.{signed}
use Rattle.fixed_units.proofs.Within.{difference_in, half_in, fits_i64}
use Rattle.math_tables.specs.Placing.{width_at}
use Rattle.math_tables.proofs.placing.slot_x.Goals as goal

pub returns-clause-value : goal.returns-clause-value
returns-clause-value c =
    let slots = c.args.slots.now in
    let place = c.args.place in
    let x = c.number_at.ensures in
    let width = c.number_at-2.ensures in
    let room = difference_in width.within c.requires.cell_fits.width in
    let f = fits_i64 room (lit< tt) in
    let g = fits_i64 x.within (lit< tt) in
    let i = fits_i64 width.within (lit< tt) in
    let half : c.half.result ≡ halved (width_at slots (2 * place + 1) -ℤ c.args.cell.now.width) =
    c.half.ensures.value ∙ ap halved (grind (arith, to_z-of_z)) in
    let reach = half_in room in
    omega (arith, signed)
