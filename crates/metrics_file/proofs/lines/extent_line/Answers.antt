use Rattle.std.proofs.Common.{◌≡◌, ◌∙◌, ap, sym, refl, ℕ, ◌≤◌, ◌<◌, List, [], ◌∷◌, length, get_or, Bor, arith, Err}
use Rattle.font_metrics.specs.declared.fault.LineFault.TheVariants.{FieldCount}
use Rattle.font_metrics.specs.Faults.{step_map, both}
use Rattle.metrics_file.specs.Lines.{SaysLine, lent, length_in, line_in}
use Rattle.metrics_file.specs.Said.{item_of}
use Rattle.font_metrics.proofs.Steps.{failed}
use borrow.Author.Tests.{ltb-true, ltb-false}
use Rattle.metrics_file.proofs.lines.extent_line.Goals as goal
use Rattle.metrics_file.proofs.lines.extent_line.Goals.{in_default-via-then-fields-lt2, in_default-via-else-fields-lt2+else-fields-lt3}

-- as many fields as a line has
fields : (ws : List (Bor (List ℕ))) (d : Bor (List ℕ)) → 2 ≤ length ws → length ws < 3
    → line_in (lent ws) ≡ both (length_in (get_or ws 0 d).now) (length_in (get_or ws 1 d).now)
fields [] d h k = absurd (omega arith)
fields (a ∷ []) d h k = absurd (omega arith)
fields (a ∷ b ∷ []) d h k = refl
fields (a ∷ b ∷ c ∷ ws) d h k = absurd (omega arith)

-- fewer fields
fewer : (ws : List (Bor (List ℕ))) → length ws < 2 → line_in (lent ws) ≡ Err FieldCount
fewer [] h = refl
fewer (a ∷ []) h = refl
fewer (a ∷ b ∷ ws) h = absurd (omega arith)

-- more fields
more : (ws : List (Bor (List ℕ))) → 3 ≤ length ws → line_in (lent ws) ≡ Err FieldCount
more [] h = absurd (omega arith)
more (a ∷ []) h = absurd (omega arith)
more (a ∷ b ∷ []) h = absurd (omega arith)
more (a ∷ b ∷ c ∷ ws) h = refl

pub returns-in_err-both-in-len2 : goal.returns-in_err-both-in-len2
returns-in_err-both-in-len2 c =
    ap (step_map item_of) (failed c.from_residual.result c.in_err-both-in-len2.field-0.0 c.from_residual.ensures.1)
    ∙ ap (step_map SaysLine)
    (sym c.in_err-both-in-len2.was ∙ c.both.ensures ∙ (λ i. both (c.length.ensures i) (c.length-in-len2.ensures i))
    ∙ sym (fields c.args.fields.now _ c.in-len2.len_at_least c.in-len2.len_below))

pub returns-in_ok-both-in-len2 : goal.returns-in_ok-both-in-len2
returns-in_ok-both-in-len2 c =
    ap (step_map SaysLine)
    (sym c.in_ok-both-in-len2.was ∙ c.both.ensures ∙ (λ i. both (c.length.ensures i) (c.length-in-len2.ensures i))
    ∙ sym (fields c.args.fields.now _ c.in-len2.len_at_least c.in-len2.len_below))

pub returns-in_default : goal.returns-in_default
returns-in_default c =
    elim c.in_default.branch [
      | in_default-via-then-fields-lt2 w ↦ ap (step_map SaysLine) (sym (fewer c.args.fields.now (omega (arith, ltb-true))))
      | in_default-via-else-fields-lt2+else-fields-lt3 w ↦ ap (step_map SaysLine) (sym (more c.args.fields.now (omega (arith, ltb-false))))
    ]
