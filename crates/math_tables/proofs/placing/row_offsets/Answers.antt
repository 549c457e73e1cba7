use Rattle.std.proofs.Common.{◌≡◌, ◌∙◌, sym, get_or, length, arith, lit<, w64, to_z, of_z, ◌+ℤ◌, ◌-ℤ◌}
use Rattle.std.proofs.lemmas.Int.{to_z-of_z}
use Rattle.fixed_units.specs.Boxes.{empty_box}
use Rattle.fixed_units.specs.Sums.{list_to}
use Rattle.fixed_units.proofs.Signed.{signed}
use Rattle.fixed_units.proofs.Sums.{list_to-zero, list_to-add_one}
use Rattle.fixed_units.proofs.Within.{fits_i64}
use Rattle.math_tables.specs.Placing.{baseline_of}
use Rattle.math_tables.proofs.Places.{top_of-zero, top_of-add_one, top_of_in, height_in, baseline_of-is, row_in}
use Rattle.math_tables.proofs.placing.row_offsets.Goals as goal

pub loop-row-init : goal.loop-row-init
loop-row-init c = record {
  offsets = c.make-offsets.ensures ∙ sym (list_to-zero _);
  top = sym (top_of-zero c.args.rows.now);
}

pub overflow_add-top : goal.overflow_add-top
overflow_add-top c =
    let before = top_of_in c.args.rows.now c.loop-row.row-index (omega arith) c.requires.within in
    let row = (row_in c.args.rows.now c.loop-row.row-index c.loop-row-test.true c.requires.within).ascent in
    omega (arith, signed)

pub overflow_sub-top : goal.overflow_sub-top
overflow_sub-top c =
    let before = top_of_in c.args.rows.now c.loop-row.row-index (omega arith) c.requires.within in
    let row = (row_in c.args.rows.now c.loop-row.row-index c.loop-row-test.true c.requires.within).ascent in
    let ascent = c.requires.ascent_in in
    omega (arith, signed)

pub overflow_add-top-in-loop-row : goal.overflow_add-top-in-loop-row
overflow_add-top-in-loop-row c =
    let before = top_of_in c.args.rows.now c.loop-row.row-index (omega arith) c.requires.within in
    let row = height_in c.args.rows.now c.loop-row.row-index c.loop-row-test.true c.requires.within in
    omega (arith, signed, c.height-top.ensures)

pub loop-row-preserved : goal.loop-row-preserved
loop-row-preserved c =
    let rows = c.args.rows.now in
    let i = c.loop-row.row-index in
    let below = to_z w64 (of_z w64 c.args.ascent) in
    let before = top_of_in rows i (omega arith) c.requires.within in
    let height = height_in rows i c.loop-row-test.true c.requires.within in
    let row = (row_in rows i c.loop-row-test.true c.requires.within).ascent in
    let ascent = c.requires.ascent_in in
    let at : to_z w64 (of_z w64 (to_z w64 (of_z w64 (to_z w64 c.loop-row.top-bits +ℤ to_z w64 (of_z w64 (get_or rows i empty_box).ascent))) -ℤ below))
    ≡ baseline_of below rows i = omega (arith, signed, baseline_of-is below rows i) in
    record {
      offsets = let pushed = (c.in_ok-push.ensures {u = tt}).ok in let more = list_to-add_one i (baseline_of below rows) in cc;
      top = omega (arith, signed, c.height-top.ensures, top_of-add_one rows i);
    }

pub returns : goal.returns
returns c =
    let rows = c.args.rows.now in
    let i = c.loop-row.row-index in
    let f = fits_i64 c.requires.ascent_in (lit< tt) in
    let ascent : to_z w64 (of_z w64 c.args.ascent) ≡ c.args.ascent = grind (arith, to_z-of_z) in
    let all : i ≡ length rows = omega arith in
    c.loop-row.invariant.offsets ∙ (λ k. list_to (all k) (baseline_of (ascent k) rows))
