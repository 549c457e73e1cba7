-- What is made exactly is the outcome of its definition, and what can be stored is made exactly.
use Rattle.std.proofs.Common.{◌≡◌, ◌∙◌, sym, ap, subst, inl, inr, true, false, true≢false, Ok, Err}
use Rattle.std.specs.Prelude.{IfOk, OnOk, Result}
use Rattle.std.proofs.lemmas.Result.{IfOk-weaker}
use Rattle.fixed_units.specs.declared.memory.Memory.{Memory}
use Rattle.fixed_units.specs.declared.refusal.LayRefusal.{LayRefusal}
use Rattle.layout_model.specs.Fits.{AreSpans}
use Rattle.layout_model.specs.Range.{outcome_fits}
use Rattle.layout_model.specs.declared.outcome.Outcome.{Outcome}
use Rattle.outcomes.specs.Outcomes.{IsOutcome}

pub exactly : (exact : Outcome) (result : Result Outcome Memory) → IfOk result (λ made. made ≡ exact) → IfOk result (IsOutcome exact)
exactly exact result h = IfOk-weaker result (λ (made : Outcome). made ≡ exact) (IsOutcome exact) (λ made e. inl e) h

pub fits_as_made : (exact made : Outcome) → IsOutcome exact made → outcome_fits made ≡ true → made ≡ exact
fits_as_made exact made (inl e) fits = e
fits_as_made exact made (inr h) fits = absurd (true≢false (sym fits ∙ h.1))

pub fits_alike : (exact made : Outcome) → IsOutcome exact made → outcome_fits made ≡ false → outcome_fits exact ≡ false
fits_alike exact made (inl e) fits = ap outcome_fits (sym e) ∙ fits
fits_alike exact made (inr h) fits = h.0

-- ---- what is kept of an outcome, where that can be stored

pub kept_exactly : (exact made : Outcome) (result : Result Outcome LayRefusal) → IsOutcome exact made → IfOk result (λ kept. kept ≡ made)
    → OnOk result (outcome_fits made ≡ true) → IfOk result (λ kept. kept ≡ exact)
kept_exactly exact made (Ok kept) is ok fit = ok ∙ fits_as_made exact made is fit
kept_exactly exact made (Err refusal) is ok fit = tt

pub kept_fits : (exact made : Outcome) (result : Result Outcome LayRefusal) → IsOutcome exact made → OnOk result (outcome_fits made ≡ true)
    → OnOk result (outcome_fits exact ≡ true)
kept_fits exact made (Ok kept) is fit = ap outcome_fits (sym (fits_as_made exact made is fit)) ∙ fit
kept_fits exact made (Err refusal) is fit = tt

pub kept_spans : (exact : Outcome) (result : Result Outcome LayRefusal) → AreSpans exact.answer → IfOk result (λ kept. kept ≡ exact)
    → IfOk result (λ kept. AreSpans kept.answer)
kept_spans exact (Ok kept) spans e = subst (λ (o : Outcome). AreSpans o.answer) (sym e) spans
kept_spans exact (Err refusal) spans e = tt
