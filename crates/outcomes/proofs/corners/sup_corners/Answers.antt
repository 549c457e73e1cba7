use Rattle.std.proofs.Common.{◌∙◌, inl, inr, ap, subst, sym, length, Option, None, IfSome}
use Rattle.font_metrics.specs.Metrics.{MetricsValue}
use Rattle.font_metrics.specs.declared.corner.Corner.TheVariants.{BottomLeft, TopRight}
use Rattle.scripts.specs.Kerns.{IsInked}
use Rattle.scripts.specs.declared.parts.Inked.{Inked}
use Rattle.outcomes.proofs.Cornered.{inked, turned_is}
use Rattle.outcomes.proofs.corners.sup_corners.Goals as goal

pub returns-then-has_no_kerns-clause-value : goal.returns-then-has_no_kerns-clause-value
returns-then-has_no_kerns-clause-value g c =
    inr (ap (λ (m : MetricsValue). m.tables.kerns) (sym c.metrics.ensures) ∙ c.has_no_kerns.ensures c.if-has_no_kerns.true)

pub returns-clause-value : goal.returns-clause-value
returns-clause-value g c =
    inl (λ i. record {
      base_sub = None;
      sub = None;
      base_sup = (c.corner_of.ensures ∙ turned_is _ _ c.in_ok-base.base TopRight c.context.ensures.value ∙ (c.in_ok-base.ensures {u = tt}).value TopRight) i;
      sup = (c.corner_of-2.ensures ∙ turned_is _ _ c.in_ok-sup.sup BottomLeft c.context.ensures.value ∙ (c.in_ok-sup.ensures {u = tt}).value BottomLeft) i;
    })

pub returns-clause-inked : goal.returns-clause-inked
returns-clause-inked g c =
    let count = length c.args.e.now.metrics.glyphs in
    record {
      base_sub = tt;
      sub = tt;
      base_sup =
          subst (λ (found : Option Inked). IfSome found (IsInked count)) (sym c.corner_of.ensures)
          (inked count _ c.in_ok-base.base (c.in_ok-base.ensures {u = tt}).alone);
      sup =
          subst (λ (found : Option Inked). IfSome found (IsInked count)) (sym c.corner_of-2.ensures)
          (inked count _ c.in_ok-sup.sup (c.in_ok-sup.ensures {u = tt}).alone);
    }
