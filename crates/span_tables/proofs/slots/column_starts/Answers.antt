use Rattle.std.proofs.Common.{◌≡◌, ◌∙◌, ◌+◌, sym, ap, subst, List, [], ◌∷◌, ◌++◌, ℕ, ℤ, pos, ◌+ℤ◌, w64, to_z, of_z, arith, get_or, length}
use Rattle.std.specs.List.{All}
use Rattle.fixed_units.proofs.Signed.{signed}
use Rattle.fixed_units.proofs.Sums.{list_to-zero, list_to-add_one}
use Rattle.span_tables.specs.Widths.{IsColumn, width_over}
use Rattle.span_tables.proofs.Shares.{width_over-zero, width_over-add_one, width_over_in, column_within}
use Rattle.span_tables.proofs.slots.column_starts.Goals as goal

pub loop-width-init : goal.loop-width-init
loop-width-init c =
    let start = width_over c.as_slice-width-items.result.now 0 in
    record {
      starts = (c.in_ok-push.ensures {u = tt}).ok ∙ ap (λ (starts : List ℤ). starts ++ pos 0 ∷ []) c.make-starts.ensures
          ∙ ap (λ (x : ℤ). x ∷ []) (sym (width_over-zero c.as_slice-width-items.result.now 0))
          ∙ sym (list_to-add_one 0 start ∙ ap (λ (starts : List ℤ). starts ++ start 0 ∷ []) (list_to-zero start));
      start = sym (width_over-zero c.as_slice-width-items.result.now 0);
    }

pub overflow_add-start : goal.overflow_add-start
overflow_add-start c =
    let widths = c.as_slice-width-items.result.now in
    let i = c.loop-width.width-index in
    let all = subst (All IsColumn) (sym c.as_slice-width-items.ensures) c.requires.columns in
    let long = ap length c.as_slice-width-items.ensures in
    let so_far = width_over_in widths 0 i all (omega arith) in
    let here = column_within widths i all c.loop-width-test.true in
    omega (arith, signed)

pub loop-width-preserved : goal.loop-width-preserved
loop-width-preserved c =
    let widths = c.as_slice-width-items.result.now in
    let i = c.loop-width.width-index in
    let all = subst (All IsColumn) (sym c.as_slice-width-items.ensures) c.requires.columns in
    let long = ap length c.as_slice-width-items.ensures in
    let so_far = width_over_in widths 0 i all (omega arith) in
    let here = column_within widths i all c.loop-width-test.true in
    let start : 0 + i ≡ i = omega arith in
    let same = ap (λ (n : ℕ). get_or widths n (pos 0)) start in
    let more = width_over-add_one widths 0 i in
    let at : to_z w64 (of_z w64 (to_z w64 c.loop-width.start-bits +ℤ to_z w64 (of_z w64 (get_or widths i (pos 0))))) ≡ width_over widths 0 (i + 1) =
    omega (arith, signed) in
    record {
      starts = (c.in_ok-push-2.ensures {u = tt}).ok ∙ ap (λ (x : ℤ). c.loop-width.starts ++ x ∷ []) at
          ∙ ap (λ (starts : List ℤ). starts ++ width_over widths 0 (i + 1) ∷ []) c.loop-width.invariant.starts
          ∙ sym (list_to-add_one (i + 1) (width_over widths 0));
      start = at;
    }
