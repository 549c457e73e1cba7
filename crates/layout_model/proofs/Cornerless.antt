-- Where no glyph has a kern, no element has corners.
use Rattle.std.proofs.Common.{◌≡◌, ◌∙◌, refl, ap, pos, [], ◌∷◌}
use Rattle.math_tree.specs.declared.kind.Kind.{Kind}
use Rattle.math_tree.specs.declared.kind.Kind.TheVariants.{Mover, Msub, Msubsup, Msup, Munder, Munderover}
use Rattle.scripts.specs.Kerns.{HasNoKerns}
use Rattle.scripts.specs.declared.parts.Scripted.{Scripted}
use Rattle.scripts.proofs.KernLaws.{sub-same, sup-same, sub_sup-same}
use Rattle.layout_model.specs.Cornerless.{CornerlessLaw, cornerless, cornerless_by, cornerless_sub, cornerless_sub_sup, cornerless_sup}
use Rattle.layout_model.specs.Elements.{Element, font, frame_at, outcome, placed_in}
use Rattle.layout_model.specs.Equations.{has_large_base, outcome_by, over_outcome, sub_corners, sub_outcome, sub_sup_corners, sub_sup_outcome, sup_corners, sup_outcome, under_outcome, under_over_outcome, unless_moved}
use Rattle.layout_model.specs.Layout.{equation, lay_by}
use Rattle.layout_model.proofs.Trees.{layout_law}

module _ (e : Element) (h : HasNoKerns e.metrics) where
  same-sub : sub_outcome e ≡ cornerless_sub e
  same-sub =
      ap (λ (scripted : Scripted). outcome e scripted.frame
      (placed_in e scripted.frame 0 (pos 0) (pos 0) ∷ placed_in e scripted.frame 1 scripted.sub.x scripted.sub.y ∷ []) [])
      (sub-same e.metrics (frame_at e 0) (has_large_base e) (frame_at e 1) (sub_corners e) (font e) h)

  same-sup : sup_outcome e ≡ cornerless_sup e
  same-sup =
      ap (λ (scripted : Scripted). outcome e scripted.frame
      (placed_in e scripted.frame 0 (pos 0) (pos 0) ∷ placed_in e scripted.frame 1 scripted.sup.x scripted.sup.y ∷ []) [])
      (sup-same e.metrics (frame_at e 0) (has_large_base e) e.context.style.cramped (frame_at e 1) (sup_corners e) (font e) h)

  same-sub_sup : sub_sup_outcome e ≡ cornerless_sub_sup e
  same-sub_sup =
      ap (λ (scripted : Scripted). outcome e scripted.frame
      (placed_in e scripted.frame 0 (pos 0) (pos 0)
      ∷ placed_in e scripted.frame 1 scripted.sub.x scripted.sub.y
      ∷ placed_in e scripted.frame 2 scripted.sup.x scripted.sup.y ∷ []) [])
      (sub_sup-same e.metrics (frame_at e 0) (has_large_base e) e.context.style.cramped (frame_at e 1) (frame_at e 2) (sub_sup_corners e) (font e) h)

  same-by : (laid : Kind) → outcome_by laid e ≡ cornerless_by laid e
  unfolding outcome_by cornerless_by
  same-by Mover = ap (unless_moved e (over_outcome e)) same-sup
  same-by Msub = same-sub
  same-by Msubsup = same-sub_sup
  same-by Msup = same-sup
  same-by Munder = ap (unless_moved e (under_outcome e)) same-sub
  same-by Munderover = ap (unless_moved e (under_over_outcome e)) same-sub_sup
  same-by other = refl

pub without_corners : CornerlessLaw
unfolding lay_by equation cornerless
without_corners m node context h = layout_law m node context ∙ same-by _ h _
