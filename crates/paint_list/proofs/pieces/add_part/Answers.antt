use Rattle.std.proofs.Common.{◌≡◌, ◌∙◌, sym, ap, subst, refl, ◌*◌, ◌^◌, ◌≤◌, ◌+ℤ◌, [], ◌∷◌, ◌++◌, replicate, append-nil, append_assoc, arith, rules, w64, to_z, of_z, lit<}
use Rattle.std.proofs.lemmas.List.{replicate_more}
use Rattle.fixed_units.specs.Numbers.{IsWithin}
use Rattle.fixed_units.proofs.Within.{fits_i64, sum_in, widened}
use Rattle.font_metrics.proofs.Scaling.{back64}
use Rattle.paint_list.specs.Paints.{most_paints}
use Rattle.paint_list.specs.Pieces.{piece_at, step_of, times}
use Rattle.paint_list.specs.Running.{laid_from, start_after}
use Rattle.paint_list.proofs.Running.{after-more, laid-more, same_within}
use Rattle.paint_list.proofs.pieces.add_part.Goals as goal

pub loop-init : goal.loop-init
unfolding laid_from start_after
loop-init c = record { paints = sym (append-nil c.args.paints.now); next = refl }

pub piece_at-requires-clause-start : goal.piece_at-requires-clause-start
piece_at-requires-clause-start c =
    let m = c.args.metrics.now in
    let built = c.args.built.now in
    let part = c.args.part.now in
    let start : to_z w64 (of_z w64 c.args.start) ≡ c.args.start = search rules in
    let count : to_z w64 (of_z w64 built.count) ≡ built.count = search rules in
    let few : times (to_z w64 (of_z w64 built.count)) part ≤ most_paints = subst (λ n. times n part ≤ most_paints) (sym count) c.requires.few in
    let step : IsWithin (2 ^ 34) (step_of m built part) = subst (IsWithin (2 ^ 34)) c.step_of-step.ensures.value c.step_of-step.ensures.near in
    let from : IsWithin (2 ^ 25 * 2 ^ 34) (to_z w64 (of_z w64 c.args.start)) = subst (IsWithin (2 ^ 59)) (sym start) c.requires.start in
    let there = same_within m built (to_z w64 (of_z w64 c.args.start)) (2 ^ 25) c.loop.counter part step from in
    subst (IsWithin (2 ^ 60)) (sym c.loop.invariant.next) (widened (2 ^ 60) there (omega (arith, few)))

pub overflow_add-next : goal.overflow_add-next
overflow_add-next c =
    let m = c.args.metrics.now in
    let built = c.args.built.now in
    let part = c.args.part.now in
    let start : to_z w64 (of_z w64 c.args.start) ≡ c.args.start = search rules in
    let count : to_z w64 (of_z w64 built.count) ≡ built.count = search rules in
    let few : times (to_z w64 (of_z w64 built.count)) part ≤ most_paints = subst (λ n. times n part ≤ most_paints) (sym count) c.requires.few in
    let step : IsWithin (2 ^ 34) (step_of m built part) = subst (IsWithin (2 ^ 34)) c.step_of-step.ensures.value c.step_of-step.ensures.near in
    let from : IsWithin (2 ^ 25 * 2 ^ 34) (to_z w64 (of_z w64 c.args.start)) = subst (IsWithin (2 ^ 59)) (sym start) c.requires.start in
    let there = same_within m built (to_z w64 (of_z w64 c.args.start)) (2 ^ 25) c.loop.counter part step from in
    let next : IsWithin (2 ^ 60) (to_z w64 c.loop.next-bits) = subst (IsWithin (2 ^ 60)) (sym c.loop.invariant.next) (widened (2 ^ 60) there (omega (arith, few))) in
    let back : IsWithin (2 ^ 34) (to_z w64 (of_z w64 c.step_of-step.result)) =
    subst (IsWithin (2 ^ 34)) (sym (back64 c.step_of-step.ensures.near (lit< tt))) c.step_of-step.ensures.near in
    fits_i64 (sum_in next back) (lit< tt)

pub loop-preserved : goal.loop-preserved
loop-preserved c =
    let m = c.args.metrics.now in
    let built = c.args.built.now in
    let part = c.args.part.now in
    let s = to_z w64 (of_z w64 c.args.start) in
    let n = c.loop.counter in
    let before = replicate n part in
    let more = replicate_more n part in
    let start : s ≡ c.args.start = search rules in
    let count : to_z w64 (of_z w64 built.count) ≡ built.count = search rules in
    let few : times (to_z w64 (of_z w64 built.count)) part ≤ most_paints = subst (λ n. times n part ≤ most_paints) (sym count) c.requires.few in
    let step : IsWithin (2 ^ 34) (step_of m built part) = subst (IsWithin (2 ^ 34)) c.step_of-step.ensures.value c.step_of-step.ensures.near in
    let from : IsWithin (2 ^ 25 * 2 ^ 34) s = subst (IsWithin (2 ^ 59)) (sym start) c.requires.start in
    let there = widened (2 ^ 60) (same_within m built s (2 ^ 25) n part step from) (omega (arith, few)) in
    let led : to_z w64 (of_z w64 c.step_of-step.result) ≡ step_of m built part = back64 c.step_of-step.ensures.near (lit< tt) ∙ c.step_of-step.ensures.value in
    record {
      paints = (c.in_ok-push.ensures {u = tt}).ok
          ∙ (λ i. c.loop.invariant.paints i ++ (c.piece_at.ensures ∙ ap (piece_at m built part) c.loop.invariant.next) i ∷ [])
          ∙ append_assoc c.args.paints.now (laid_from m built s before) (piece_at m built part (start_after m built s before) ∷ [])
          ∙ ap (λ l. c.args.paints.now ++ l) (sym (laid-more m built s before part) ∙ ap (laid_from m built s) more);
      next = (λ i. to_z w64 (of_z w64 (c.loop.invariant.next i +ℤ led i)))
          ∙ back64 (sum_in there step) (lit< tt)
          ∙ sym (after-more m built s before part) ∙ ap (start_after m built s) more;
    }
