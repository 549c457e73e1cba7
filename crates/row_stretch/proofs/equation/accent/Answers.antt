use Rattle.std.proofs.Common.{◌≡◌, ◌≢◌, ◌∙◌, length, pos, arith, ap}
use Rattle.std.proofs.lemmas.Int.{to_z-of_z}
use Rattle.fixed_units.specs.Numbers.{halved}
use Rattle.fixed_units.proofs.Signed.{signed}
use Rattle.row_stretch.specs.declared.parts.RowKid.{RowKid}
use Rattle.row_stretch.specs.Equation.{ahead_of, room_of}
use Rattle.row_stretch.proofs.Rows.{accent_of-one, accent_of-other, kid_stored, ahead_at_in}
use Rattle.row_stretch.proofs.equation.accent.Goals as goal

pub overflow_add-result : goal.overflow_add-result
overflow_add-result g c =
    let kids = g.K.RowKids.kids c.args.kids.now in
    let start = ahead_at_in c.args.spaces kids 0 (omega arith) c.requires.fit in
    let kid = (kid_stored kids 0 (omega arith) c.requires.fit).frame.accent in
    let first = c.kid_at-kid.ensures in
    let ahead = c.ahead.ensures ∙ ap (ahead_of c.args.spaces (pos 0)) first in
    omega (arith, signed, ahead, ap (λ (k : RowKid). k.frame.accent) first)

pub returns-then-kid_count-eq1 : goal.returns-then-kid_count-eq1
returns-then-kid_count-eq1 g c =
    let kids = g.K.RowKids.kids c.args.kids.now in
    let start = ahead_at_in c.args.spaces kids 0 (omega arith) c.requires.fit in
    let kid = (kid_stored kids 0 (omega arith) c.requires.fit).frame.accent in
    let first = c.kid_at-kid.ensures in
    let ahead = c.ahead.ensures ∙ ap (ahead_of c.args.spaces (pos 0)) first in
    omega (arith, signed, ahead, ap (λ (k : RowKid). k.frame.accent) first, accent_of-one c.args.spaces kids (omega arith))

pub returns-else-kid_count-eq1 : goal.returns-else-kid_count-eq1
returns-else-kid_count-eq1 g c =
    let kids = g.K.RowKids.kids c.args.kids.now in
    let other : length kids ≢ 1 = λ one. c.if-kid_count-eq1.false (omega (arith, c.kid_count.ensures, one)) in
    let e = accent_of-other c.args.spaces kids other in
    let range = c.ranges.width in
    let half = simp to_z-of_z at c.half.ensures in
    let width : halved c.args.width ≡ halved (room_of c.args.spaces kids (length kids)) = ap halved c.requires.width_is in
    grind (arith, to_z-of_z)
