use Rattle.std.proofs.Common.{◌≡◌, ◌∙◌, sym, ap, get_or, arith, w64, to_z, of_z, pos, ◌+ℤ◌, ◌-ℤ◌, lit<}
use Rattle.std.proofs.lemmas.Int.{to_z-of_z}
use Rattle.fixed_units.specs.Boxes.{empty_box}
use Rattle.fixed_units.specs.Numbers.{halved}
use Rattle.fixed_units.proofs.Signed.{signed}
use Rattle.fixed_units.proofs.Sums.{list_to-zero, list_to-add_one}
use Rattle.fixed_units.proofs.Within.{difference_in, half_in, fits_i64}
use Rattle.math_tables.specs.Placing.{cell_x_of}
use Rattle.math_tables.proofs.Places.{start_of-zero, start_of-add_one, start_of_in, cell_x_of-is, cell_in}
use Rattle.math_tables.proofs.placing.cell_offsets.Goals as goal

pub loop-place-init : goal.loop-place-init
loop-place-init c = record {
  offsets = c.make-offsets.ensures ∙ sym (list_to-zero (cell_x_of c.args.cells.now c.args.widths.now));
  start = sym (start_of-zero c.args.widths.now);
}

pub overflow_add-start : goal.overflow_add-start
overflow_add-start c =
    let before = start_of_in c.args.widths.now c.loop-place.place c.requires.widths_fit in
    let width = c.width_at-width.ensures.within in
    let cell = (cell_in c.args.cells.now c.loop-place.place c.loop-place-test.true c.requires.cells_fit).width in
    let low = c.half.ensures.low in
    let high = c.half.ensures.high in
    omega (arith, signed)

pub overflow_add-start-in-loop-place : goal.overflow_add-start-in-loop-place
overflow_add-start-in-loop-place c =
    let before = start_of_in c.args.widths.now c.loop-place.place c.requires.widths_fit in
    let width = c.width_at-width.ensures.within in
    omega (arith, signed)

pub loop-place-preserved : goal.loop-place-preserved
loop-place-preserved c =
    let cells = c.args.cells.now in
    let widths = c.args.widths.now in
    let i = c.loop-place.place in
    let before = start_of_in widths i c.requires.widths_fit in
    let width = c.width_at-width.ensures.within in
    let same = c.width_at-width.ensures.value in
    let cell = (cell_in cells i c.loop-place-test.true c.requires.cells_fit).width in
    let room = difference_in width cell in
    let f = fits_i64 room (lit< tt) in
    let half : c.half.result ≡ halved (get_or widths i (pos 0) -ℤ (get_or cells i empty_box).width) =
    c.half.ensures.value ∙ ap halved (grind (arith, to_z-of_z)) in
    let reach = half_in room in
    let at : to_z w64 (of_z w64 (to_z w64 c.loop-place.start-bits +ℤ to_z w64 (of_z w64 c.half.result))) ≡ cell_x_of cells widths i =
    omega (arith, signed, cell_x_of-is cells widths i) in
    record {
      offsets = let pushed = (c.in_ok-push.ensures {u = tt}).ok in let more = list_to-add_one i (cell_x_of cells widths) in cc;
      start = omega (arith, signed, start_of-add_one widths i);
    }
