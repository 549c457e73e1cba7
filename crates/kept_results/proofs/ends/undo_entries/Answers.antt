use Rattle.std.proofs.Common.{◌≡◌, ◌∙◌, sym, ap, subst, ℕ, ◌+◌, ◌-◌, ◌<◌, arith, List, get_or, set, Some}
use Rattle.std.proofs.lemmas.Option.{get_or_from_slice_get, same_Some}
use Rattle.kept_results.specs.Ends.{all_undone, restored, settled}
use Rattle.kept_results.specs.declared.memo.Entry.{Entry}
use Rattle.kept_results.proofs.Dropping.{Dropped, made_out, remade_in, remade_out, remove_set, standing_in}
use Rattle.kept_results.specs.Kept.{is_fresh_from}
use Rattle.kept_results.proofs.Lists.{set_here, set_same, set_twice}
use Rattle.kept_results.proofs.Tidying.{settled_same}
use Rattle.kept_results.proofs.ends.undo_entries.Goals.{in-Made, in-Standing, in-Remade+in-None, in-Remade+in-Some}
use Rattle.kept_results.proofs.ends.undo_entries.Goals as goal

pub loop-step-preserved : goal.loop-step-preserved
loop-step-preserved c =
    let x = c.at_mut.result.now in
    let before = c.args.entries.now in
    let count = c.len-count.result in
    let step = c.loop-step.step in
    let at : ℕ = count - 1 - step in
    let test : step < count = c.loop-step-test.true in
    let e : at + 1 ≡ count - step = omega arith in
    let next : at ≡ count - (step + 1) = omega arith in
    let now = c.loop-step.entries in
    let is : x ≡ get_or now at x = sym (get_or_from_slice_get now at x x c.at_mut.ensures.value) in
    let origin = c.take_origin.ensures.origin in
    let old = c.loop-step.invariant in
    let mid : set now at c.take_origin.new.entry ≡ set now at (settled x) = ap (set now at) c.take_origin.ensures.entry in
    subst (λ (n : ℕ). Dropped all_undone before c.match-take_origin.entries n) next
    (elim c.match-take_origin.branch [
      | in-Standing w ↦
          let stood = sym origin ∙ w.in-Standing.is in
          let same : settled x ≡ x = settled_same x (ap is_fresh_from stood) in
          subst (λ (l : List Entry). Dropped all_undone before l at)
          (sym (w.entries-is ∙ mid ∙ ap (set now at) same ∙ set_same now at x c.at_mut.ensures.value))
          (standing_in before now (count - step) at e x is old stood)
      | in-Made w ↦ subst (λ (l : List Entry). Dropped all_undone before l at)
          (sym (w.entries-is ∙ w.drop_at.ensures ∙ remove_set now at c.take_origin.new.entry))
          (made_out before now (count - step) at e x is old (sym origin ∙ w.in-Made.is))
      | in-Remade+in-Some w ↦
          let y = w.at_mut-in-Some.result.now in
          let one = w.in-Some.before in
          let there : y ≡ settled x =
          same_Some y (settled x) (sym w.at_mut-in-Some.ensures.value ∙ set_here now at c.take_origin.new.entry x c.at_mut.ensures.value ∙ ap Some c.take_origin.ensures.entry) in
          subst (λ (l : List Entry). Dropped all_undone before l at)
          (sym (w.entries-is ∙ set_twice now at c.take_origin.new.entry w.restore.new.entry ∙ ap (set now at) (w.restore.ensures ∙ ap (λ (z : Entry). restored z one) there)))
          (remade_in before now (count - step) at e x is w.in-Remade.was one old (sym origin ∙ w.in-Remade.is) (sym w.first_of.ensures ∙ w.in-Some.is))
      | in-Remade+in-None w ↦ subst (λ (l : List Entry). Dropped all_undone before l at)
          (sym (w.entries-is ∙ w.drop_at-in-None.ensures ∙ remove_set now at c.take_origin.new.entry))
          (remade_out before now (count - step) at e x is w.in-Remade.was old (sym origin ∙ w.in-Remade.is) (sym w.first_of.ensures ∙ w.in-None.is))
    ])
