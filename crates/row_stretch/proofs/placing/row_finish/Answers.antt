use Rattle.std.proofs.Common.{rules, ◌≡◌, List, ◌∙◌, refl, sym, subst, ap, ◌<◌, add-one, length, map, take, arith, w64, to_z, of_z, ℕ, ◌+ℤ◌}
use Rattle.std.proofs.Math.Seq.{take-length}
use Rattle.fixed_units.specs.Boxes.{all_joined}
use Rattle.fixed_units.specs.Sums.{list_to}
use Rattle.fixed_units.proofs.Signed.{signed}
use Rattle.fixed_units.proofs.Sums.{list_to-zero, list_to-add_one}
use Rattle.row_stretch.specs.declared.parts.RowKid.{RowKid}
use Rattle.row_stretch.specs.Equation.{IsKidStored, ahead_of, ahead_at, advance_at, advance_of, frame_of_kid, italic_before, offset_of, room_of, with_kid}
use Rattle.row_stretch.proofs.Rows.{room_of-zero, room_of-add_one, offset_of-is, italic_before-add_one, joined-suc, kid_stored, ahead_at_in, advance_at_in, room_of_in}
use Rattle.row_stretch.proofs.placing.row_finish.Goals as goal
use Rattle.row_stretch.proofs.placing.row_finish.Goals.{After-advance-at, After-ahead-at, After-kid_at-kid}

-- the place is one of a child
within : (g : _) (c : After-kid_at-kid g) → c.loop-place.place < length (g.K.RowKids.kids c.args.kids.now)
within g c = omega (arith, c.loop-place-test.true, c.kid_count-count.ensures)

-- what the code puts ahead of a child
ahead_is : (g : _) (c : After-ahead-at g) → c.ahead-at.result ≡ ahead_at c.args.spaces (g.K.RowKids.kids c.args.kids.now) c.loop-place.place
ahead_is g c =
    c.ahead-at.ensures
    ∙ (λ i. ahead_of c.args.spaces (c.loop-place.invariant.italic i) (c.kid_at-kid.ensures i))

-- and from its start to where it ends
advance_is : (g : _) (c : After-advance-at g) → c.advance-at.result ≡ advance_at c.args.spaces (g.K.RowKids.kids c.args.kids.now) c.loop-place.place
advance_is g c = c.advance-at.ensures ∙ ap (advance_of c.args.spaces) c.kid_at-kid.ensures

pub loop-place-init : goal.loop-place-init
loop-place-init g c =
    let made = c.in_ok-offsets.ensures {u = tt} in
    record {
      offsets = made.items ∙ sym (list_to-zero _);
      len = made.len;
      room = made.exact;
      at = sym (room_of-zero _ _);
      italic = refl;
      all = refl;
    }

pub overflow_add-at : goal.overflow_add-at
overflow_add-at g c =
    let kids = g.K.RowKids.kids c.args.kids.now in
    let e = ahead_is g (goal.at.overflow_add-at g c).After-ahead-at in
    let l = within g (goal.at.overflow_add-at g c).After-kid_at-kid in
    let ahead = ahead_at_in c.args.spaces kids _ l c.requires.fit in
    let room = room_of_in c.args.spaces kids c.loop-place.place (omega (arith, l)) c.requires.fit in
    omega (arith, signed)

pub push_reserved-requires : goal.push_reserved-requires
push_reserved-requires g c = omega (arith, c.loop-place-test.true, c.loop-place.invariant.len, c.loop-place.invariant.room)

pub advance-at-requires : goal.advance-at-requires
advance-at-requires g c =
    subst IsKidStored (sym c.kid_at-kid.ensures) (kid_stored _ _ (within g (goal.at.advance-at-requires g c).After-kid_at-kid) c.requires.fit)

pub overflow_add-at-in-loop-place : goal.overflow_add-at-in-loop-place
overflow_add-at-in-loop-place g c =
    let kids = g.K.RowKids.kids c.args.kids.now in
    let at = goal.at.overflow_add-at-in-loop-place g c in
    let e = ahead_is g at.After-ahead-at in
    let f = advance_is g at.After-advance-at in
    let l = within g at.After-kid_at-kid in
    let ahead = ahead_at_in c.args.spaces kids _ l c.requires.fit in
    let advance = advance_at_in c.args.spaces kids _ l c.requires.fit in
    let room = room_of_in c.args.spaces kids c.loop-place.place (omega (arith, l)) c.requires.fit in
    omega (arith, signed)

pub loop-place-preserved : goal.loop-place-preserved
loop-place-preserved g c =
    let kids = g.K.RowKids.kids c.args.kids.now in
    let s = c.args.spaces in
    let i = c.loop-place.place in
    let steps = goal.at.loop-place-preserved g c in
    let e = ahead_is g steps.After-ahead-at in
    let f = advance_is g steps.After-advance-at in
    let l = within g steps.After-kid_at-kid in
    let ahead = ahead_at_in s kids i l c.requires.fit in
    let advance = advance_at_in s kids i l c.requires.fit in
    let room = room_of_in s kids i (omega (arith, l)) c.requires.fit in
    let at : to_z w64 (of_z w64 (to_z w64 c.loop-place.at-bits +ℤ to_z w64 (of_z w64 c.ahead-at.result))) ≡ offset_of s kids i =
    omega (arith, signed, offset_of-is s kids i) in
    let italic = (kid_stored kids i l c.requires.fit).frame.italic in
    record {
      offsets = let pushed = c.push_reserved.ensures.items in let more = list_to-add_one i (offset_of s kids) in cc;
      len = omega (arith, c.push_reserved.ensures.len, c.loop-place.invariant.len);
      room = c.push_reserved.ensures.capacity ∙ c.loop-place.invariant.room;
      at = omega (arith, signed, room_of-add_one s kids i);
      italic =
          let same = ap (λ (k : RowKid). k.frame.italic) c.kid_at-kid.ensures in
          omega (arith, signed, same, italic, italic_before-add_one kids i);
      all =
          c.with_kid-all.ensures
          ∙ (λ k. with_kid (c.loop-place.invariant.all k) i (c.kid_at-kid.ensures k))
          ∙ sym (joined-suc kids i l)
          ∙ ap (λ (n : ℕ). all_joined (map frame_of_kid (take n kids))) (sym (add-one i));
    }

pub returns : goal.returns
returns g c =
    let kids = g.K.RowKids.kids c.args.kids.now in
    let s = c.args.spaces in
    let end : c.loop-place.place ≡ length kids = omega (arith, c.loop-place.auto.place-end, c.loop-place-test.false, c.kid_count-count.ensures) in
    let at = c.loop-place.invariant.at ∙ ap (room_of s kids) end in
    let italic = c.loop-place.invariant.italic ∙ ap (italic_before kids) end in
    let all : c.loop-place.all ≡ all_joined (map frame_of_kid kids) =
    c.loop-place.invariant.all ∙ ap (λ (n : ℕ). all_joined (map frame_of_kid (take n kids))) end ∙ ap (λ (l : List RowKid). all_joined (map frame_of_kid l)) (take-length kids) in
    let offsets : c.loop-place.offsets.items ≡ list_to (length kids) (offset_of s kids) =
    c.loop-place.invariant.offsets ∙ ap (λ (n : ℕ). list_to n (offset_of s kids)) end in
    let accent = c.accent-accent.ensures in
    search rules
