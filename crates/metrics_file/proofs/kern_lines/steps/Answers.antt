use Rattle.std.proofs.Common.{◌≡◌, ◌∙◌, sym, refl, ℕ, ℤ, ◌<◌, ◌≤◌, ◌==◌, false, true≢false, List, [], ◌∷◌, ◌++◌, length, get_or, Bor, Ok, Err, arith}
use Rattle.font_metrics.specs.declared.fault.LineFault.{LineFault}
use Rattle.font_metrics.specs.declared.fault.LineFault.TheVariants.{FieldCount}
use Rattle.font_metrics.specs.declared.kern.KernStep.{KernStep}
use Rattle.font_metrics.specs.Faults.{Step, ◌>>=◌, both, step_map}
use Rattle.font_metrics.proofs.Steps.{no_value}
use Rattle.metrics_file.specs.Lines.{lent, reach_in, steps_in}
use Rattle.metrics_file.proofs.KernSteps.{given_fault}
use Rattle.metrics_file.proofs.kern_lines.steps.Goals as goal

-- one word alone is left
odd : (ws : List (Bor (List ℕ))) (steps : List KernStep) → length ws < 2 → (length ws == 0) ≡ false
    → step_map (λ above. steps ++ above) (steps_in (lent ws)) ≡ Err FieldCount
odd [] steps few some = absurd (true≢false some)
odd (a ∷ []) steps few some = refl
odd (a ∷ b ∷ ws) steps few some = absurd (omega arith)

pair_fails : (steps : List KernStep) (fault : LineFault) (height value : Step ℤ) (more : Step (List KernStep)) → both height value ≡ Err fault
    → step_map (λ above. steps ++ above)
    (do
      at ← height
      amount ← value
      above ← more
      Ok (record { height = at; value = amount } ∷ above)) ≡ Err fault
pair_fails steps fault (Ok h) (Ok v) more told = no_value fault (h, v) (sym told)
pair_fails steps fault (Ok h) (Err e) more told = cc
pair_fails steps fault (Err e) value more told = cc

-- one of the first two words is no number
fails : (ws : List (Bor (List ℕ))) (none : Bor (List ℕ)) (steps : List KernStep) (fault : LineFault) → 2 ≤ length ws
    → both (reach_in (get_or ws 0 none).now) (reach_in (get_or ws 1 none).now) ≡ Err fault
    → step_map (λ above. steps ++ above) (steps_in (lent ws)) ≡ Err fault
fails [] none steps fault l told = absurd (omega arith)
fails (a ∷ []) none steps fault l told = absurd (omega arith)
fails (a ∷ b ∷ ws) none steps fault l told = pair_fails steps fault (reach_in a.now) (reach_in b.now) (steps_in (lent ws)) told

pub returns-else-is_empty : goal.returns-else-is_empty
returns-else-is_empty c =
    sym c.loop-rest.invariant
    ∙ odd c.loop-rest.rest.now c.loop-rest.steps c.in_default.len_below (sym c.is_empty.ensures ∙ c.if-is_empty.false)

pub returns-in_err-height : goal.returns-in_err-height
returns-in_err-height c =
    let told = c.both.ensures ∙ (λ i. both (c.reach.ensures i) (c.reach-in-len2-up.ensures i)) in
    let was = sym told ∙ c.in_err-height.was {u = tt} in
    given_fault (steps_in (lent c.args.words.now)) c.in_err-height.field-0.0 c.from_residual.result
    (sym c.loop-rest.invariant ∙ fails c.loop-rest.rest.now _ c.loop-rest.steps c.in_err-height.field-0.0 c.in-len2-up.len_at_least was)
    c.from_residual.ensures.1
