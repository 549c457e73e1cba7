use Rattle.std.proofs.Common.{rules, ◌∙◌, sym, subst, pos, List, [], ◌∷◌, w64, FitsSigned}
use Rattle.std.proofs.lemmas.Int.{to_z-of_z}
use Rattle.layout_model.specs.Elements.{outcome, placed_in}
use Rattle.layout_model.specs.declared.outcome.Offset.{Offset}
use Rattle.outcomes.specs.Outcomes.{IsOutcome}
use Rattle.outcomes.specs.Reach.{offset_reached}
use Rattle.outcomes.proofs.Reach.{told}
use Rattle.outcomes.proofs.script.with_sup.Goals as goal

pub returns : goal.returns
returns g c =
    let e = c.args.e.now in
    let s = c.args.scripted.now in
    let exact : List Offset = placed_in e s.frame 0 (pos 0) (pos 0) ∷ placed_in e s.frame 1 s.sup.x s.sup.y ∷ [] in
    let script_x : FitsSigned w64 s.sup.x = search rules in
    let script_y : FitsSigned w64 s.sup.y = search rules in
    let script = c.placed_in-script.ensures ∙ (λ i. offset_reached (placed_in e s.frame 1 (to_z-of_z w64 s.sup.x script_x i) (to_z-of_z w64 s.sup.y script_y i))) in
    let placed = c.in_ok-offsets.ensures {u = tt} ∙ (λ i. c.placed_in-base.ensures i ∷ script i ∷ []) in
    subst (IsOutcome (outcome e s.frame exact [])) (sym (c.outcome.ensures ∙ (λ i. outcome e s.frame (placed i) (c.make.ensures i))))
    (told e s.frame exact [])
