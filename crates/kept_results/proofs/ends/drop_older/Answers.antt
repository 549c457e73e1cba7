use Rattle.std.proofs.Common.{◌≡◌, ◌∙◌, sym, ap, subst, ℕ, ◌+◌, ◌-◌, ◌<◌, arith, List, get_or, set}
use Rattle.std.proofs.lemmas.Option.{get_or_from_slice_get}
use Rattle.kept_results.specs.Ends.{settled, settled_all}
use Rattle.kept_results.specs.declared.memo.Entry.{Entry}
use Rattle.kept_results.proofs.Dropping.{Dropped, live_in, older_out}
use Rattle.kept_results.proofs.ends.drop_older.Goals.{then-is_live, else-is_live}
use Rattle.kept_results.proofs.ends.drop_older.Goals as goal

pub loop-step-preserved : goal.loop-step-preserved
loop-step-preserved c =
    let x = c.index-as_slice-at.result in
    let marked = c.args.marked in
    let before = c.args.entries.now in
    let count = c.len-count.result in
    let step = c.loop-step.step in
    let at : ℕ = count - 1 - step in
    let test : step < count = c.loop-step-test.true in
    let e : at + 1 ≡ count - step = omega arith in
    let next : at ≡ count - (step + 1) = omega arith in
    let is = c.index-as_slice-at.is ∙ ap (λ (l : List Entry). get_or l at x) c.as_slice.ensures in
    let now = c.loop-step.entries in
    subst (λ (n : ℕ). Dropped (settled_all marked) before c.if-is_live.entries n) next
    (elim c.if-is_live.branch [
      | then-is_live w ↦
          let same : x ≡ w.at_mut.result.now = is ∙ get_or_from_slice_get now at w.at_mut.result.now x w.at_mut.ensures.value in
          subst (λ (l : List Entry). Dropped (settled_all marked) before l at) (sym (w.entries-is ∙ ap (set now at) (w.settle.ensures ∙ ap settled (sym same))))
          (live_in before now (count - step) at e x is marked c.loop-step.invariant (sym c.is_live.ensures ∙ w.if-is_live.true))
      | else-is_live w ↦ subst (λ (l : List Entry). Dropped (settled_all marked) before l at) (sym (w.entries-is ∙ w.drop_at.ensures))
          (older_out before now (count - step) at e x is marked c.loop-step.invariant (sym c.is_live.ensures ∙ w.if-is_live.false))
    ])
