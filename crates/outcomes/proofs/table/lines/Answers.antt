use Rattle.std.proofs.Common.{◌≡◌, ◌∙◌, sym, ap, ℕ, ℤ, pos, rules, w64, to_z, of_z, FitsSigned}
use Rattle.std.proofs.lemmas.Int.{to_z-of_z}
use Rattle.fixed_units.proofs.Sums.{list_to-zero}
use Rattle.layout_model.specs.Elements.{offset}
use Rattle.layout_model.specs.Equations.{row_at}
use Rattle.outcomes.proofs.Lists.{pushed_next}
use Rattle.outcomes.proofs.table.lines.Goals as goal

pub loop-index-init : goal.loop-index-init
loop-index-init c = c.make-places.ensures ∙ sym (list_to-zero _)

pub loop-index-preserved : goal.loop-index-preserved
loop-index-preserved c =
    let i = c.loop-index.index in
    let f : FitsSigned w64 c.line.result = search rules in
    let y : to_z w64 (of_z w64 c.line.result) ≡ row_at c.args.below.now i = to_z-of_z w64 c.line.result f ∙ c.line.ensures in
    pushed_next i (λ (index : ℕ). offset index (pos 0) (row_at c.args.below.now index)) c.loop-index.places _ _ (c.in_ok-push.ensures {u = tt}).ok c.loop-index.invariant
    (ap (λ (z : ℤ). offset i (pos 0) z) y)
