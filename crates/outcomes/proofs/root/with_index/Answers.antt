use Rattle.std.proofs.Common.{rules, ◌∙◌, sym, subst, lit<, List, [], ◌∷◌, map, w64, FitsSigned}
use Rattle.std.proofs.lemmas.Int.{to_z-of_z}
use Rattle.font_metrics.proofs.Scaling.{back64}
use Rattle.layout_model.specs.Elements.{frame_at, outcome, placed_in}
use Rattle.layout_model.specs.Equations.{root_marks, with_index}
use Rattle.layout_model.specs.declared.outcome.Offset.{Offset}
use Rattle.outcomes.specs.Outcomes.{IsOutcome}
use Rattle.outcomes.specs.Reach.{mark_reached, offset_reached}
use Rattle.outcomes.proofs.Reach.{told}
use Rattle.outcomes.proofs.root.with_index.Goals as goal

pub returns : goal.returns
returns g c =
    let e = c.args.e.now in
    let root = c.args.root.now in
    let exact : List Offset = placed_in e root.frame 0 root.base.x root.base.y ∷ placed_in e root.frame 1 root.index.x root.index.y ∷ [] in
    let base_x : FitsSigned w64 root.base.x = search rules in
    let base_y : FitsSigned w64 root.base.y = search rules in
    let index_x : FitsSigned w64 root.index.x = search rules in
    let index_y : FitsSigned w64 root.index.y = search rules in
    let base = c.placed_in-base.ensures
    ∙ (λ i. offset_reached (placed_in e root.frame 0 (to_z-of_z w64 root.base.x base_x i) (to_z-of_z w64 root.base.y base_y i))) in
    let index = c.placed_in-index.ensures
    ∙ (λ i. offset_reached (placed_in e root.frame 1 (to_z-of_z w64 root.index.x index_x i) (to_z-of_z w64 root.index.y index_y i))) in
    let placed = c.in_ok-offsets.ensures {u = tt} ∙ (λ i. base i ∷ index i ∷ []) in
    let width = back64 c.frame.ensures.stored.width (lit< tt) ∙ (λ i. (c.frame.ensures.value i).width) in
    let marks = c.in_ok-marks.ensures {u = tt} ∙ (λ i. map mark_reached (root_marks e (width i) root)) in
    subst (IsOutcome (with_index e root)) (sym (c.outcome.ensures ∙ (λ i. outcome e root.frame (placed i) (marks i))))
    (told e root.frame exact (root_marks e (frame_at e 0).width root))
