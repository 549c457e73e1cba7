use Rattle.std.proofs.Common.{rules, ◌∙◌, sym, ap, ℕ, w64, FitsSigned}
use Rattle.std.proofs.lemmas.Int.{to_z-of_z}
use Rattle.fixed_units.proofs.Sums.{list_to-zero}
use Rattle.scripts.specs.declared.parts.Spot.{Spot}
use Rattle.layout_model.specs.Elements.{placed_in}
use Rattle.layout_model.specs.Equations.{offset_in}
use Rattle.outcomes.specs.Reach.{offset_reached}
use Rattle.outcomes.proofs.Lists.{pushed_next}
use Rattle.outcomes.proofs.pairs.offsets_in.Goals as goal

pub loop-kid-init : goal.loop-kid-init
loop-kid-init g c = c.make-offsets.ensures ∙ sym (list_to-zero _)

pub loop-kid-preserved : goal.loop-kid-preserved
loop-kid-preserved g c =
    let e = c.args.e.now in
    let multi = c.args.multi.now in
    let i = c.loop-kid.kid in
    let spot = c.spot_of-spot.result in
    let x_fits : FitsSigned w64 spot.x = search rules in
    let y_fits : FitsSigned w64 spot.y = search rules in
    let x = to_z-of_z w64 spot.x x_fits ∙ ap (λ (s : Spot). s.x) c.spot_of-spot.ensures in
    let y = to_z-of_z w64 spot.y y_fits ∙ ap (λ (s : Spot). s.y) c.spot_of-spot.ensures in
    pushed_next i (λ (kid : ℕ). offset_reached (offset_in e multi kid)) c.loop-kid.offsets _ _ (c.in_ok-push.ensures {u = tt}).ok c.loop-kid.invariant
    (c.placed_in.ensures ∙ (λ j. offset_reached (placed_in e multi.frame i (x j) (y j))))
