use Rattle.std.proofs.Common.{◌≡◌, ◌∙◌, ap, sym, refl, subst, ℕ, suc, ◌-◌, ◌≤◌, List, [], ◌∷◌, length, get_or, take, drop, Bor, arith}
use Rattle.font_metrics.specs.Faults.{step_map}
use Rattle.metrics_file.specs.Lines.{SaysGlyph, lent, word_at, glyph_with, glyph_in}
use Rattle.metrics_file.proofs.lines.glyph_line.Goals as goal

-- the fields behind the first four
abbrev more : List (Bor (List ℕ)) → List (Bor (List ℕ))
more ws = take (length ws - 4) (drop 4 ws)

fields : (ws : List (Bor (List ℕ))) (d : Bor (List ℕ)) → 4 ≤ length ws → length (more ws) ≤ 2
    → glyph_in (lent ws)
    ≡ glyph_with (get_or ws 0 d).now (get_or ws 1 d).now (get_or ws 2 d).now (get_or ws 3 d).now
    (word_at 0 (lent (more ws))) (word_at 1 (lent (more ws)))
fields [] d h k = absurd (omega arith)
fields (a ∷ []) d h k = absurd (omega arith)
fields (a ∷ b ∷ []) d h k = absurd (omega arith)
fields (a ∷ b ∷ c ∷ []) d h k = absurd (omega arith)
fields (a ∷ b ∷ c ∷ e ∷ []) d h k = refl
fields (a ∷ b ∷ c ∷ e ∷ f ∷ []) d h k = refl
fields (a ∷ b ∷ c ∷ e ∷ f ∷ g ∷ []) d h k = refl
fields (a ∷ b ∷ c ∷ e ∷ f ∷ g ∷ x ∷ ws) d h k =
    let behind : length (a ∷ b ∷ c ∷ e ∷ f ∷ g ∷ x ∷ ws) - 4 ≡ suc (suc (suc (length ws))) = omega arith in
    let many : suc (suc (suc (length (take (length ws) ws)))) ≤ 2 = subst (λ n. length (take n (f ∷ g ∷ x ∷ ws)) ≤ 2) behind k in
    absurd (omega arith)

pub returns-in-len4-up : goal.returns-in-len4-up
returns-in-len4-up c =
    c.glyph_with.ensures
    ∙ ap (step_map SaysGlyph) (sym (fields c.args.fields.now _ c.in-len4-up.len_at_least c.if-more-le2.true))
