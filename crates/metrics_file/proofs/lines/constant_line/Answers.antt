use Rattle.std.proofs.Common.{◌≡◌, ◌∙◌, ap, sym, refl, ℕ, ◌≤◌, ◌<◌, List, [], ◌∷◌, length, get_or, Bor, arith, Err}
use Rattle.font_metrics.specs.declared.fault.LineFault.TheVariants.{FieldCount}
use Rattle.font_metrics.specs.Faults.{step_map}
use Rattle.metrics_file.specs.Lines.{SaysConstant, lent, constant_with, constant_in}
use borrow.Author.Tests.{ltb-true, ltb-false}
use Rattle.metrics_file.proofs.lines.constant_line.Goals as goal
use Rattle.metrics_file.proofs.lines.constant_line.Goals.{in_default-via-then-fields-lt2, in_default-via-else-fields-lt2+else-fields-lt3}

-- as many fields as a line has
fields : (ws : List (Bor (List ℕ))) (d : Bor (List ℕ)) → 2 ≤ length ws → length ws < 3
    → constant_in (lent ws) ≡ constant_with (get_or ws 0 d).now (get_or ws 1 d).now
fields [] d h k = absurd (omega arith)
fields (a ∷ []) d h k = absurd (omega arith)
fields (a ∷ b ∷ []) d h k = refl
fields (a ∷ b ∷ c ∷ ws) d h k = absurd (omega arith)

-- fewer fields
fewer : (ws : List (Bor (List ℕ))) → length ws < 2 → constant_in (lent ws) ≡ Err FieldCount
fewer [] h = refl
fewer (a ∷ []) h = refl
fewer (a ∷ b ∷ ws) h = absurd (omega arith)

-- more fields
more : (ws : List (Bor (List ℕ))) → 3 ≤ length ws → constant_in (lent ws) ≡ Err FieldCount
more [] h = absurd (omega arith)
more (a ∷ []) h = absurd (omega arith)
more (a ∷ b ∷ []) h = absurd (omega arith)
more (a ∷ b ∷ c ∷ ws) h = refl

pub returns-in-len2 : goal.returns-in-len2
returns-in-len2 c =
    c.constant_with.ensures
    ∙ ap (step_map SaysConstant) (sym (fields c.args.fields.now _ c.in-len2.len_at_least c.in-len2.len_below))

pub returns-in_default : goal.returns-in_default
returns-in_default c =
    elim c.in_default.branch [
      | in_default-via-then-fields-lt2 w ↦ ap (step_map SaysConstant) (sym (fewer c.args.fields.now (omega (arith, ltb-true))))
      | in_default-via-else-fields-lt2+else-fields-lt3 w ↦ ap (step_map SaysConstant) (sym (more c.args.fields.now (omega (arith, ltb-false))))
    ]
