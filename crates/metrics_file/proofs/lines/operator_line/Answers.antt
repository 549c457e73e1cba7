use Rattle.std.proofs.Common.{◌≡◌, ◌∙◌, ap, sym, refl, ℕ, ◌≤◌, ◌<◌, List, [], ◌∷◌, length, get_or, Bor, arith, Err}
use Rattle.font_metrics.specs.declared.fault.LineFault.TheVariants.{FieldCount}
use Rattle.font_metrics.specs.Faults.{Step, step_map}
use Rattle.metrics_file.specs.Lines.{Item, SaysOperator, lent, operator_with, operator_in}
use borrow.Author.Tests.{ltb-true, ltb-false}
use Rattle.metrics_file.proofs.lines.operator_line.Goals as goal
use Rattle.metrics_file.proofs.lines.operator_line.Goals.{in_default-via-then-fields-lt4, in_default-via-else-fields-lt4+else-fields-lt5}

-- as many fields as a line has
fields : (ws : List (Bor (List ℕ))) (d : Bor (List ℕ)) → 4 ≤ length ws → length ws < 5
    → operator_in (lent ws) ≡ operator_with (get_or ws 0 d).now (get_or ws 1 d).now (get_or ws 2 d).now (get_or ws 3 d).now
fields [] d h k = absurd (omega arith)
fields (a ∷ []) d h k = absurd (omega arith)
fields (a ∷ b ∷ []) d h k = absurd (omega arith)
fields (a ∷ b ∷ c ∷ []) d h k = absurd (omega arith)
fields (a ∷ b ∷ c ∷ e ∷ []) d h k = refl
fields (a ∷ b ∷ c ∷ e ∷ f ∷ ws) d h k = absurd (omega arith)

read : (ws : List (Bor (List ℕ))) (d : Bor (List ℕ)) (said : Step Item) → 4 ≤ length ws → length ws < 5
    → said ≡ step_map SaysOperator (operator_with (get_or ws 0 d).now (get_or ws 1 d).now (get_or ws 2 d).now (get_or ws 3 d).now) → said ≡ step_map SaysOperator (operator_in (lent ws))
read ws d said low high h = h ∙ ap (step_map SaysOperator) (sym (fields ws d low high))

-- fewer fields
fewer : (ws : List (Bor (List ℕ))) → length ws < 4 → operator_in (lent ws) ≡ Err FieldCount
fewer [] h = refl
fewer (a ∷ []) h = refl
fewer (a ∷ b ∷ []) h = refl
fewer (a ∷ b ∷ c ∷ []) h = refl
fewer (a ∷ b ∷ c ∷ e ∷ ws) h = absurd (omega arith)

-- more fields
more : (ws : List (Bor (List ℕ))) → 5 ≤ length ws → operator_in (lent ws) ≡ Err FieldCount
more [] h = absurd (omega arith)
more (a ∷ []) h = absurd (omega arith)
more (a ∷ b ∷ []) h = absurd (omega arith)
more (a ∷ b ∷ c ∷ []) h = absurd (omega arith)
more (a ∷ b ∷ c ∷ e ∷ []) h = absurd (omega arith)
more (a ∷ b ∷ c ∷ e ∷ f ∷ ws) h = refl

pub returns-in-len4 : goal.returns-in-len4
returns-in-len4 c = read c.args.fields.now _ _ c.in-len4.len_at_least c.in-len4.len_below c.operator_with.ensures

pub returns-in_default : goal.returns-in_default
returns-in_default c =
    elim c.in_default.branch [
      | in_default-via-then-fields-lt4 w ↦ ap (step_map SaysOperator) (sym (fewer c.args.fields.now (omega (arith, ltb-true))))
      | in_default-via-else-fields-lt4+else-fields-lt5 w ↦ ap (step_map SaysOperator) (sym (more c.args.fields.now (omega (arith, ltb-false))))
    ]
