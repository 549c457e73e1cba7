use Rattle.std.proofs.Common.{◌≡◌, ◌∙◌, ap, sym, refl, ℕ, ◌≤◌, ◌<◌, List, [], ◌∷◌, length, get_or, Bor, arith, Err}
use Rattle.font_metrics.specs.declared.fault.LineFault.TheVariants.{FieldCount}
use Rattle.font_metrics.specs.Faults.{step_map}
use Rattle.metrics_file.specs.Lines.{SaysXHeight, lent, length_in, one_length_in}
use Rattle.metrics_file.specs.Said.{item_of}
use Rattle.font_metrics.proofs.Steps.{failed}
use borrow.Author.Tests.{ltb-true, ltb-false}
use Rattle.metrics_file.proofs.lines.x_height_line.Goals as goal
use Rattle.metrics_file.proofs.lines.x_height_line.Goals.{in_default-via-then-fields-lt1, in_default-via-else-fields-lt1+else-fields-lt2}

-- as many fields as a line has
fields : (ws : List (Bor (List ℕ))) (d : Bor (List ℕ)) → 1 ≤ length ws → length ws < 2
    → one_length_in (lent ws) ≡ length_in (get_or ws 0 d).now
fields [] d h k = absurd (omega arith)
fields (a ∷ []) d h k = refl
fields (a ∷ b ∷ ws) d h k = absurd (omega arith)

-- fewer fields
fewer : (ws : List (Bor (List ℕ))) → length ws < 1 → one_length_in (lent ws) ≡ Err FieldCount
fewer [] h = refl
fewer (a ∷ ws) h = absurd (omega arith)

-- more fields
more : (ws : List (Bor (List ℕ))) → 2 ≤ length ws → one_length_in (lent ws) ≡ Err FieldCount
more [] h = absurd (omega arith)
more (a ∷ []) h = absurd (omega arith)
more (a ∷ b ∷ ws) h = refl

pub returns-in_err-length-in-len1 : goal.returns-in_err-length-in-len1
returns-in_err-length-in-len1 c =
    ap (step_map item_of) (failed c.from_residual.result c.in_err-length-in-len1.field-0.0 c.from_residual.ensures.1)
    ∙ ap (step_map SaysXHeight)
    (sym c.in_err-length-in-len1.was ∙ c.length.ensures ∙ sym (fields c.args.fields.now _ c.in-len1.len_at_least c.in-len1.len_below))

pub returns-in_ok-length-in-len1 : goal.returns-in_ok-length-in-len1
returns-in_ok-length-in-len1 c =
    ap (step_map SaysXHeight)
    (sym c.in_ok-length-in-len1.was ∙ c.length.ensures ∙ sym (fields c.args.fields.now _ c.in-len1.len_at_least c.in-len1.len_below))

pub returns-in_default : goal.returns-in_default
returns-in_default c =
    elim c.in_default.branch [
      | in_default-via-then-fields-lt1 w ↦ ap (step_map SaysXHeight) (sym (fewer c.args.fields.now (omega (arith, ltb-true))))
      | in_default-via-else-fields-lt1+else-fields-lt2 w ↦ ap (step_map SaysXHeight) (sym (more c.args.fields.now (omega (arith, ltb-false))))
    ]
