use Rattle.std.proofs.Common.{◌∙◌, sym, ap, arith, ◌<◌, ◌++◌, length, map, get_or, Ok, Err, Result, OnOk, w64, to_z, of_z, ℤ, pos, ◌+ℤ◌}
use Rattle.std.specs.List.{list_all}
use Rattle.layout_model.specs.Laid.{levels}
use Rattle.layout_model.specs.Range.{mark_fits}
use Rattle.layout_model.specs.declared.laid.Laid.TheViews.{out-Laid, size-Laid}
use Rattle.layout_model.specs.declared.outcome.Offset.{Offset}
use Rattle.placement.specs.Placing.{kids_at, marks_at, placed}
use Rattle.placement.proofs.Near.{added_back, back_at, fewer_levels, kid_near, kid_stored, marks_stored, offset_at, smaller, sum_fits}
use Rattle.placement.proofs.Showing.{element_shown, kids_all, kids_more, silent_shown}
use Rattle.placement.proofs.placing.+place.Goals as goal

-- an outcome that is handed on
on_ok : {T E P Q : Type 0} (r : Result T E) → (P → Q) → OnOk r P → OnOk r Q
on_ok (Ok x) f p = f p
on_ok (Err e) f p = tt

-- what stands in a list of offsets past its end
abbrev no_offset : Offset
no_offset = record { kid = 0; x = pos 0; y = pos 0 }

pub place_element-returns-then-is_silent : goal.place_element-returns-then-is_silent
place_element-returns-then-is_silent t c =
    silent_shown c.args.laid.now c.args.x c.args.y c.args.items.now (sym c.is_silent.ensures ∙ c.if-is_silent.true)

pub place_element-place_marks-requires-clause-stored : goal.place_element-place_marks-requires-clause-stored
place_element-place_marks-requires-clause-stored t c =
    ap (list_all mark_fits) c.as_slice.ensures ∙ marks_stored c.args.laid.now c.requires.stored

pub place_element-returns : goal.place_element-returns
place_element-returns t c =
    let l = c.args.laid.now in
    let x = to_z w64 (of_z w64 c.args.x) in
    let y = to_z w64 (of_z w64 c.args.y) in
    let marked = c.in_ok-place_marks.ensures {u = tt} in
    on_ok c.place_kids.result
    (λ all. element_shown l x y c.args.items.now c.add_box.new.self c.place_marks.new.items c.place_kids.new.items
    (sym c.is_silent.ensures ∙ c.if-is_silent.false) (c.in_ok-add_box.ensures {u = tt}).ok
    (marked ∙ ap (λ marks. c.add_box.new.self ++ marks_at x y marks) c.as_slice.ensures) all
    ∙ ap (λ (z : ℤ). c.args.items.now ++ placed l z y) (back_at (levels l) c.args.x c.requires.right)
    ∙ ap (λ (z : ℤ). c.args.items.now ++ placed l c.args.x z) (back_at (levels l) c.args.y c.requires.down))
    c.place_kids.ensures

pub place_kids-overflow_add-x : goal.place_kids-overflow_add-x
place_kids-overflow_add-x t c =
    let l = c.args.laid.now in
    let at = offset_at l c.as_slice-offsets.result.now c.loop-index.index _ c.requires.stored c.as_slice-offsets.ensures (omega (arith, c.min-index-end.ensures)) in
    sum_fits (levels l) c.args.x _ c.requires.right at.right

pub place_kids-overflow_add-y : goal.place_kids-overflow_add-y
place_kids-overflow_add-y t c =
    let l = c.args.laid.now in
    let at = offset_at l c.as_slice-offsets.result.now c.loop-index.index _ c.requires.stored c.as_slice-offsets.ensures (omega (arith, c.min-index-end.ensures)) in
    sum_fits (levels l) c.args.y _ c.requires.down at.down

pub place_kids-place_element-requires : goal.place_kids-place_element-requires
place_kids-place_element-requires t c =
    let l = c.args.laid.now in
    let kids = c.as_slice-kids.result.now in
    let i = c.loop-index.index in
    let kid = c.index-kids-index.result in
    let among : i < length kids = omega (arith, c.min-index-end.ensures) in
    let at = offset_at l c.as_slice-offsets.result.now i _ c.requires.stored c.as_slice-offsets.ensures (omega (arith, c.min-index-end.ensures)) in
    let fewer = fewer_levels l kids i kid c.as_slice-kids.ensures among c.index-kids-index.is in
    let falls : size-Laid kid < size-Laid l = smaller l kids i kid c.as_slice-kids.ensures among c.index-kids-index.is in (
      omega arith,
      (
        omega (arith, fewer, c.requires.levels),
        (
          kid_near (levels l) (levels kid) c.args.x _ fewer c.requires.levels c.requires.right at.right,
          (
            kid_near (levels l) (levels kid) c.args.y _ fewer c.requires.levels c.requires.down at.down,
            kid_stored l kids i kid c.requires.stored c.as_slice-kids.ensures among c.index-kids-index.is,
          ),
        ),
      ),
    )

pub place_kids-loop-index-preserved : goal.place_kids-loop-index-preserved
place_kids-loop-index-preserved t c =
    let l = c.args.laid.now in
    let offsets = c.as_slice-offsets.result.now in
    let kids = c.as_slice-kids.result.now in
    let i = c.loop-index.index in
    let kid = c.index-kids-index.result in
    let x = to_z w64 (of_z w64 c.args.x) in
    let y = to_z w64 (of_z w64 c.args.y) in
    let first : i < length offsets = omega (arith, c.min-index-end.ensures) in
    let second : i < length kids = omega (arith, c.min-index-end.ensures) in
    let o = get_or offsets i no_offset in
    let at = offset_at l offsets i no_offset c.requires.stored c.as_slice-offsets.ensures first in
    kids_more x y offsets kids i no_offset kid c.loop-index.items _ _ first second c.index-kids-index.is c.loop-index.invariant
    (c.in_ok-place_element.ensures {u = tt}
    ∙ ap (λ (z : ℤ). c.loop-index.items ++ placed kid z (to_z w64 (of_z w64 (y +ℤ to_z w64 (of_z w64 o.y))))) (added_back (levels l) c.args.x o.x c.requires.right at.right)
    ∙ ap (λ (z : ℤ). c.loop-index.items ++ placed kid (x +ℤ o.x) z) (added_back (levels l) c.args.y o.y c.requires.down at.down))

pub place_kids-returns : goal.place_kids-returns
place_kids-returns t c =
    let l = c.args.laid.now in
    let y = to_z w64 (of_z w64 c.args.y) in
    kids_all _ _ c.as_slice-offsets.result.now c.as_slice-kids.result.now c.loop-index.index c.loop-index.items _ (omega (arith, c.min-index-end.ensures)) c.loop-index.invariant
    ∙ ap (λ (z : ℤ). c.args.items.now ++ kids_at z y (out-Laid l).outcome.offsets (map placed (out-Laid l).kids)) (back_at (levels l) c.args.x c.requires.right)
    ∙ ap (λ (z : ℤ). c.args.items.now ++ kids_at c.args.x z (out-Laid l).outcome.offsets (map placed (out-Laid l).kids)) (back_at (levels l) c.args.y c.requires.down)
