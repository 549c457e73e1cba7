use Rattle.std.proofs.Common.{◌≡◌, ◌∙◌, ap, sym, refl, ℕ, ◌≤◌, ◌<◌, List, [], ◌∷◌, length, get_or, Bor, arith, Err}
use Rattle.font_metrics.specs.declared.fault.LineFault.TheVariants.{FieldCount}
use Rattle.font_metrics.specs.Faults.{step_map}
use Rattle.metrics_file.specs.Lines.{SaysUpem, lent, upem_in}
use Rattle.metrics_file.specs.Said.{item_of}
use Rattle.metrics_file.specs.Words.{natural_in}
use Rattle.font_metrics.proofs.Steps.{failed}
use borrow.Author.Tests.{ltb-true, ltb-false}
use Rattle.metrics_file.proofs.lines.upem_line.Goals as goal
use Rattle.metrics_file.proofs.lines.upem_line.Goals.{in_default-via-then-fields-lt1, in_default-via-else-fields-lt1+else-fields-lt2}

-- as many fields as a line has
fields : (ws : List (Bor (List ℕ))) (d : Bor (List ℕ)) → 1 ≤ length ws → length ws < 2
    → upem_in (lent ws) ≡ natural_in 16 16384 (get_or ws 0 d).now
fields [] d h k = absurd (omega arith)
fields (a ∷ []) d h k = refl
fields (a ∷ b ∷ ws) d h k = absurd (omega arith)

-- fewer fields
fewer : (ws : List (Bor (List ℕ))) → length ws < 1 → upem_in (lent ws) ≡ Err FieldCount
fewer [] h = refl
fewer (a ∷ ws) h = absurd (omega arith)

-- more fields
more : (ws : List (Bor (List ℕ))) → 2 ≤ length ws → upem_in (lent ws) ≡ Err FieldCount
more [] h = absurd (omega arith)
more (a ∷ []) h = absurd (omega arith)
more (a ∷ b ∷ ws) h = refl

pub returns-in_err-natural_in-in-len1 : goal.returns-in_err-natural_in-in-len1
returns-in_err-natural_in-in-len1 c =
    ap (step_map item_of) (failed c.from_residual.result c.in_err-natural_in-in-len1.field-0.0 c.from_residual.ensures.1)
    ∙ ap (step_map SaysUpem)
    (sym c.in_err-natural_in-in-len1.was ∙ c.natural_in.ensures ∙ sym (fields c.args.fields.now _ c.in-len1.len_at_least c.in-len1.len_below))

pub returns-in_ok-natural_in-in-len1 : goal.returns-in_ok-natural_in-in-len1
returns-in_ok-natural_in-in-len1 c =
    ap (step_map SaysUpem)
    (sym c.in_ok-natural_in-in-len1.was ∙ c.natural_in.ensures ∙ sym (fields c.args.fields.now _ c.in-len1.len_at_least c.in-len1.len_below))

pub returns-in_default : goal.returns-in_default
returns-in_default c =
    elim c.in_default.branch [
      | in_default-via-then-fields-lt1 w ↦ ap (step_map SaysUpem) (sym (fewer c.args.fields.now (omega (arith, ltb-true))))
      | in_default-via-else-fields-lt1+else-fields-lt2 w ↦ ap (step_map SaysUpem) (sym (more c.args.fields.now (omega (arith, ltb-false))))
    ]
