use Rattle.std.proofs.Common.{◌≡◌, ◌∙◌, refl, sym, ap, subst, arith, ◌<◌, ◌≤◌, [], ◌∷◌, ◌++◌, length, map, Ok, Err, Result, OnOk, w64, to_z, of_z, ℤ, ◌+ℤ◌}
use Rattle.std.proofs.lemmas.Bool.Decides.{nat_tests}
use Rattle.std.proofs.lemmas.List.{length-map}
use Rattle.fixed_units.specs.declared.boxes.MathBox.{MathBox}
use Rattle.math_tree.specs.declared.node.Head.{Head}
use Rattle.math_tree.specs.declared.node.Node.TheViews.{size-Node}
use Rattle.layout_model.specs.Laid.{levels}
use Rattle.layout_model.specs.declared.laid.Laid.TheViews.{out-Laid}
use Rattle.kept_results.proofs.Agreement.{agrees_child}
use Rattle.kept_results.proofs.Backed.{are_backed, backed_child}
use Rattle.kept_laid.specs.Laid.{AreKids, laid_kid}
use Rattle.kept_laid.proofs.BoxReading.{smaller}
use Rattle.kept_laid.proofs.Kids.{few_in, kid_at}
use Rattle.box_writer.specs.Items.{box_of}
use Rattle.placement.specs.Placing.{is_silent, placed}
use Rattle.placement.proofs.Lent.{kid_more, kids_shown, no_kid_left, no_offset_left, offset_begins, offset_read}
use Rattle.placement.proofs.Reading.{head_is, keeps_outcome, kids_of, kids_start, laid_at, marks_are}
use Rattle.placement.proofs.Near.{added_back, back_at, fewer_levels, kid_near, kid_stored, sum_fits}
use Rattle.placement.proofs.Showing.{element_shown, silent_shown}
use Rattle.placement.proofs.kept.+kept.Goals as goal

-- an outcome that is handed on
on_ok : {T E P Q : Type 0} (r : Result T E) → (P → Q) → OnOk r P → OnOk r Q
on_ok (Ok x) f p = f p
on_ok (Err e) f p = tt

pub place_element-returns-then-is_silent : goal.place_element-returns-then-is_silent
place_element-returns-then-is_silent t c =
    let e = c.args.element.now in
    let head = head_is c.args.metrics.now e.node.now e.context.now in
    silent_shown (laid_kid c.args.metrics.now e) c.args.x c.args.y c.args.items.now
    (ap (λ (h : Head). is_silent h.kind) head ∙ sym c.is_silent.ensures ∙ c.if-is_silent.true)

pub place_element-parts-parts-requires : goal.place_element-parts-parts-requires
place_element-parts-parts-requires t c =
    let e = c.args.element.now in
    let all = are_backed c.args.metrics.now c.args.store.now.runs e.node.now e.memo.now c.requires.backed in
    all c.kept_entry-entry.result.now c.kept_entry-entry.ensures.has

pub place_element-place_kept_marks-requires-clause-stored : goal.place_element-place_kept_marks-requires-clause-stored
place_element-place_kept_marks-requires-clause-stored t c =
    let m = c.args.metrics.now in
    let e = c.args.element.now in
    let entry = c.kept_entry-entry.result.now in
    let found = c.kept_entry-entry.ensures in
    let runs = c.args.store.now.runs in
    let l = laid_kid m e in
    let has = keeps_outcome m e.node.now e.context.now e.memo.now entry c.requires.agrees found.has found.in_context runs c.requires.backed in
    marks_are l runs entry.run.0 c.parts-parts.result has (c.parts-parts.ensures (out-Laid l).outcome has) c.requires.stored

pub place_element-returns : goal.place_element-returns
place_element-returns t c =
    let m = c.args.metrics.now in
    let e = c.args.element.now in
    let l = laid_kid m e in
    let x = to_z w64 (of_z w64 c.args.x) in
    let y = to_z w64 (of_z w64 c.args.y) in
    let entry = c.kept_entry-entry.result.now in
    let found = c.kept_entry-entry.ensures in
    let head = head_is m e.node.now e.context.now in
    let has = keeps_outcome m e.node.now e.context.now e.memo.now entry c.requires.agrees found.has found.in_context c.args.store.now.runs c.requires.backed in
    let are = c.parts-parts.ensures (out-Laid l).outcome has in
    let boxed = (c.in_ok-add_box.ensures {u = tt}).ok
    ∙ ap (λ (h : Head). c.args.items.now ++ box_of h x y c.parts-parts.result.frame ∷ []) (sym head)
    ∙ ap (λ (f : MathBox). c.args.items.now ++ box_of (out-Laid l).head x y f ∷ []) are.frame in
    let marked = c.in_ok-place_kept_marks.ensures {u = tt} (out-Laid l).outcome.marks are.marks in
    on_ok c.place_kids.result
    (λ all. element_shown l x y c.args.items.now c.add_box.new.self c.place_kept_marks.new.items c.place_kids.new.items
    (ap (λ (h : Head). is_silent h.kind) head ∙ sym c.is_silent.ensures ∙ c.if-is_silent.false) boxed marked all
    ∙ ap (λ (z : ℤ). c.args.items.now ++ placed l z y) (back_at (levels l) c.args.x c.requires.right)
    ∙ ap (λ (z : ℤ). c.args.items.now ++ placed l c.args.x z) (back_at (levels l) c.args.y c.requires.down))
    c.place_kids.ensures

-- ---- its children

pub place_kids-parts-requires : goal.place_kids-parts-requires
place_kids-parts-requires t c =
    let e = c.args.element.now in
    let all = are_backed c.args.metrics.now c.args.store.now.runs e.node.now e.memo.now c.requires.backed in
    all c.args.entry.now c.requires.has

pub place_kids-returns-then-is_empty : goal.place_kids-returns-then-is_empty
place_kids-returns-then-is_empty t c =
    let m = c.args.metrics.now in
    let e = c.args.element.now in
    let l = laid_kid m e in
    let entry = c.args.entry.now in
    let runs = c.args.store.now.runs in
    let none : length c.parts.result.offsets.now ≡ 0 = grind (arith, nat_tests) in
    let has = keeps_outcome m e.node.now e.context.now e.memo.now entry c.requires.agrees c.requires.has c.requires.in_context runs c.requires.backed in
    let start = kids_start l runs entry.run.0 c.parts.result has (c.parts.ensures (out-Laid l).outcome has) c.requires.stored c.args.x c.args.y (out-Laid l).kids c.args.items.now refl in
    no_offset_left c.args.x c.args.y l c.args.items.now _ _ _ _ start none

pub place_kids-loop-kid-init : goal.place_kids-loop-kid-init
place_kids-loop-kid-init t c =
    let m = c.args.metrics.now in
    let e = c.args.element.now in
    let l = laid_kid m e in
    let entry = c.args.entry.now in
    let runs = c.args.store.now.runs in
    let kids = c.as_slice-kid-items.result.now in
    let has = keeps_outcome m e.node.now e.context.now e.memo.now entry c.requires.agrees c.requires.has c.requires.in_context runs c.requires.backed in
    let laid = kids_of m e.node.now e.context.now e.memo.now entry c.requires.agrees c.requires.has c.requires.in_context (map (laid_kid m) kids)
    (ap (map (laid_kid m)) c.as_slice-kid-items.ensures.value ∙ (c.in_ok-kids.ensures {u = tt}).laid m c.requires.agrees) in
    kids_start l runs entry.run.0 c.parts.result has (c.parts.ensures (out-Laid l).outcome has) c.requires.stored _ _ (map (laid_kid m) kids) c.args.items.now laid

pub place_kids-first_offset-requires : goal.place_kids-first_offset-requires
place_kids-first_offset-requires t c =
    let some : 0 < length c.loop-kid.rest.now = grind (arith, nat_tests) in
    offset_begins _ _ (laid_kid c.args.metrics.now c.args.element.now) _ _ _ _ _ c.loop-kid.invariant some

pub place_kids-overflow_add-x : goal.place_kids-overflow_add-x
place_kids-overflow_add-x t c =
    let l = laid_kid c.args.metrics.now c.args.element.now in
    let some : 0 < length c.loop-kid.rest.now = grind (arith, nat_tests) in
    let at = offset_read _ _ l _ _ _ _ _ c.loop-kid.invariant some _ _ c.first_offset.ensures in
    sum_fits (levels l) c.args.x _ c.requires.right at.right

pub place_kids-overflow_add-y : goal.place_kids-overflow_add-y
place_kids-overflow_add-y t c =
    let l = laid_kid c.args.metrics.now c.args.element.now in
    let some : 0 < length c.loop-kid.rest.now = grind (arith, nat_tests) in
    let at = offset_read _ _ l _ _ _ _ _ c.loop-kid.invariant some _ _ c.first_offset.ensures in
    sum_fits (levels l) c.args.y _ c.requires.down at.down

pub place_kids-place_element-requires : goal.place_kids-place_element-requires
place_kids-place_element-requires t c =
    let m = c.args.metrics.now in
    let e = c.args.element.now in
    let node = e.node.now in
    let memo = e.memo.now in
    let runs = c.args.store.now.runs in
    let l = laid_kid m e in
    let kids = c.as_slice-kid-items.result.now in
    let i = c.loop-kid.kid-index in
    let kid = c.kid-item.result in
    let all = map (laid_kid m) kids in
    let laid = kids_of m node e.context.now memo c.args.entry.now c.requires.agrees c.requires.has c.requires.in_context all
    (ap (map (laid_kid m)) c.as_slice-kid-items.ensures.value ∙ (c.in_ok-kids.ensures {u = tt}).laid m c.requires.agrees) in
    let some : 0 < length c.loop-kid.rest.now = grind (arith, nat_tests) in
    let at = offset_read _ _ l _ _ _ _ _ c.loop-kid.invariant some _ _ c.first_offset.ensures in
    let among = c.loop-kid-test.true in
    let within : i < length all = omega (arith, among, length-map kids (laid_kid m)) in
    let laid_is = laid_at m kids i kid among c.kid-item.is in
    let fewer = fewer_levels l all i (laid_kid m kid) laid within laid_is in
    let kept = subst (AreKids node memo) (sym c.as_slice-kid-items.ensures.value) (c.in_ok-kids.ensures {u = tt}).kept in
    let is = kid_at node memo kids i kid kept among c.kid-item.is in
    let falls : size-Node kid.node.now < size-Node node = smaller node kid.node.now is.place is.node_at in (
      omega arith,
      (
        agrees_child m node memo is.place kid.node.now kid.memo.now c.requires.agrees is.node_at is.memo_at,
        (
          backed_child m runs node memo is.place kid.node.now kid.memo.now c.requires.backed is.node_at is.memo_at,
          (
            omega (arith, few_in node kid.node.now is.place is.node_at, c.requires.few),
            (
              is.kept,
              (
                omega (arith, fewer, c.requires.levels),
                (
                  kid_near (levels l) (levels (laid_kid m kid)) c.args.x _ fewer c.requires.levels c.requires.right at.right,
                  (
                    kid_near (levels l) (levels (laid_kid m kid)) c.args.y _ fewer c.requires.levels c.requires.down at.down,
                    kid_stored l all i (laid_kid m kid) c.requires.stored laid within laid_is,
                  ),
                ),
              ),
            ),
          ),
        ),
      ),
    )

pub place_kids-loop-kid-preserved : goal.place_kids-loop-kid-preserved
place_kids-loop-kid-preserved t c =
    let m = c.args.metrics.now in
    let l = laid_kid m c.args.element.now in
    let kids = c.as_slice-kid-items.result.now in
    let i = c.loop-kid.kid-index in
    let kid = c.kid-item.result in
    let x = to_z w64 (of_z w64 c.args.x) in
    let y = to_z w64 (of_z w64 c.args.y) in
    let o = c.first_offset.result.0 in
    let some : 0 < length c.loop-kid.rest.now = grind (arith, nat_tests) in
    let at = offset_read _ _ l _ _ _ _ _ c.loop-kid.invariant some _ _ c.first_offset.ensures in
    let within : i < length (map (laid_kid m) kids) = omega (arith, c.loop-kid-test.true, length-map kids (laid_kid m)) in
    kid_more _ _ l _ _ _ _ _ c.loop-kid.invariant some _ _ c.first_offset.ensures (laid_kid m kid) _ within (laid_at m kids i kid c.loop-kid-test.true c.kid-item.is)
    (c.in_ok-place_element.ensures {u = tt}
    ∙ ap (λ (z : ℤ). c.loop-kid.items ++ placed (laid_kid m kid) z (to_z w64 (of_z w64 (y +ℤ to_z w64 (of_z w64 o.y))))) (added_back (levels l) c.args.x o.x c.requires.right at.right)
    ∙ ap (λ (z : ℤ). c.loop-kid.items ++ placed (laid_kid m kid) (x +ℤ o.x) z) (added_back (levels l) c.args.y o.y c.requires.down at.down))

pub place_kids-returns-then-is_empty-2 : goal.place_kids-returns-then-is_empty-2
place_kids-returns-then-is_empty-2 t c =
    let l = laid_kid c.args.metrics.now c.args.element.now in
    let y = to_z w64 (of_z w64 c.args.y) in
    let none : length c.loop-kid.rest.now ≡ 0 = grind (arith, nat_tests) in
    no_offset_left _ _ l _ _ _ _ _ c.loop-kid.invariant none
    ∙ ap (λ (z : ℤ). c.args.items.now ++ kids_shown z y l) (back_at (levels l) c.args.x c.requires.right)
    ∙ ap (λ (z : ℤ). c.args.items.now ++ kids_shown c.args.x z l) (back_at (levels l) c.args.y c.requires.down)

pub place_kids-returns : goal.place_kids-returns
place_kids-returns t c =
    let m = c.args.metrics.now in
    let l = laid_kid m c.args.element.now in
    let y = to_z w64 (of_z w64 c.args.y) in
    let kids = c.as_slice-kid-items.result.now in
    let none : length (map (laid_kid m) kids) ≤ c.loop-kid.kid-index = omega (arith, length-map kids (laid_kid m)) in
    no_kid_left _ _ l _ _ _ _ _ c.loop-kid.invariant none
    ∙ ap (λ (z : ℤ). c.args.items.now ++ kids_shown z y l) (back_at (levels l) c.args.x c.requires.right)
    ∙ ap (λ (z : ℤ). c.args.items.now ++ kids_shown c.args.x z l) (back_at (levels l) c.args.y c.requires.down)
