use Rattle.std.proofs.Common.{◌≡◌, ◌∙◌, ap, sym, refl, ℕ, ◌+◌, ◌<◌, ◌∷◌, List, length, map, drop, get_or, Bool, true, false, ◌&&◌, ℤ, pos, SFits, w32, to_z, of_z, to_z-of_z, rules, arith}
use Rattle.std.specs.Prelude.{int_le, int_lt}
use Rattle.std.proofs.lemmas.List.{at_drop_more}
use borrow.Author.Differences.{le-false, lt-false}
use Rattle.font_metrics.specs.declared.kern.KernStep.{KernStep}
use Rattle.font_metrics.specs.Heights.{do_rise}
use Rattle.metrics_file.proofs.table_entries.do_rise_above.Goals as goal

not_at_most : (low high : ℤ) → int_le high low ≡ false → int_lt low high ≡ true
not_at_most low high h = by (int_lt low high) refl
  where
    by : (b : Bool) → int_lt low high ≡ b → b ≡ true
    by true e = refl
    by false e = absurd (omega (arith, lt-false low high e, le-false high low h))

-- one height more that is above the one before it
rises : (steps : List KernStep) (i : ℕ) (low : ℤ) (d : KernStep) → i < length steps → int_le (get_or steps i d).height low ≡ false
    → do_rise (low ∷ map (λ (step : KernStep). step.height) (drop i steps))
    ≡ do_rise ((get_or steps i d).height ∷ map (λ (step : KernStep). step.height) (drop (i + 1) steps))
rises steps i low d l h =
    at_drop_more (λ (left : List KernStep). do_rise (low ∷ map (λ (step : KernStep). step.height) left)) steps i d l
    ∙ ap (λ (b : Bool). b && do_rise ((get_or steps i d).height ∷ map (λ (step : KernStep). step.height) (drop (i + 1) steps)))
    (not_at_most low (get_or steps i d).height h)

pub loop-step-preserved : goal.loop-step-preserved
loop-step-preserved c =
    let steps = c.args.steps.now in
    let i = c.loop-step.step-index in
    let d : KernStep = record { height = pos 0; value = pos 0 } in
    let fits : SFits w32 (get_or steps i d).height = search rules in
    let back : to_z w32 (of_z w32 (get_or steps i d).height) ≡ (get_or steps i d).height = to_z-of_z fits in
    let higher = rw back at c.if-step-lower.false in
    rw back (sym (rises steps i (to_z w32 c.loop-step.lower-bits) d c.loop-step-test.true higher) ∙ c.loop-step.invariant)
