use Rattle.std.proofs.Common.{sym, ◌+◌, arith}
use Rattle.std.proofs.lemmas.List.Elements.{All-get_or}
use Rattle.fixed_units.proofs.Signed.{signed}
use Rattle.span_tables.specs.Heights.{IsRow, no_height}
use Rattle.span_tables.proofs.Deepening.{height_over-zero, height_over-add_one, height_over_in}
use Rattle.span_tables.proofs.heights.height_over.Goals as goal

pub loop-place-init : goal.loop-place-init
loop-place-init c = sym (height_over-zero c.args.heights.now c.args.first)

pub overflow_add-total-in-loop-place : goal.overflow_add-total-in-loop-place
overflow_add-total-in-loop-place c =
    let so_far = height_over_in c.args.heights.now c.args.first c.loop-place.place c.requires.rows (omega arith) in
    let here = All-get_or IsRow c.args.heights.now (c.args.first + c.loop-place.place) no_height (omega arith) c.requires.rows in
    let ascent = here.ascent in
    omega (arith, signed)

pub loop-place-preserved : goal.loop-place-preserved
loop-place-preserved c =
    let so_far = height_over_in c.args.heights.now c.args.first c.loop-place.place c.requires.rows (omega arith) in
    let here = All-get_or IsRow c.args.heights.now (c.args.first + c.loop-place.place) no_height (omega arith) c.requires.rows in
    let ascent = here.ascent in
    omega (arith, signed, height_over-add_one c.args.heights.now c.args.first c.loop-place.place)

pub returns-clause-within : goal.returns-clause-within
returns-clause-within c =
    let all = height_over_in c.args.heights.now c.args.first c.loop-place.place c.requires.rows (omega arith) in
    record { low = omega (arith, signed); high = omega (arith, signed) }
