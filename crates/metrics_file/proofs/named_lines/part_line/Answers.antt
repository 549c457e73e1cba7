use Rattle.std.proofs.Common.{◌≡◌, ◌∙◌, sym, refl, ℕ, ◌≤◌, ◌<◌, List, [], ◌∷◌, length, get_or, Bor, arith, Err}
use Rattle.font_metrics.specs.declared.fault.LineFault.TheVariants.{FieldCount}
use Rattle.font_metrics.specs.Faults.{both}
use Rattle.metrics_file.specs.Lines.{lent, based_on, part_with, part_in}
use Rattle.font_metrics.specs.Metrics.{NamedGlyph}
use Rattle.metrics_file.proofs.named_lines.part_line.Goals as goal

-- six fields
six : (glyphs : List NamedGlyph) (ws : List (Bor (List ℕ))) (d : Bor (List ℕ)) → 6 ≤ length ws → length ws < 7
    → part_in glyphs (lent ws)
    ≡ based_on glyphs (get_or ws 0 d).now
    (part_with glyphs (get_or ws 1 d).now (get_or ws 2 d).now (get_or ws 3 d).now (get_or ws 4 d).now (get_or ws 5 d).now)
six glyphs [] d h k = absurd (omega arith)
six glyphs (a ∷ []) d h k = absurd (omega arith)
six glyphs (a ∷ b ∷ []) d h k = absurd (omega arith)
six glyphs (a ∷ b ∷ c ∷ []) d h k = absurd (omega arith)
six glyphs (a ∷ b ∷ c ∷ e ∷ []) d h k = absurd (omega arith)
six glyphs (a ∷ b ∷ c ∷ e ∷ f ∷ []) d h k = absurd (omega arith)
six glyphs (a ∷ b ∷ c ∷ e ∷ f ∷ g ∷ []) d h k = refl
six glyphs (a ∷ b ∷ c ∷ e ∷ f ∷ g ∷ x ∷ ws) d h k = absurd (omega arith)

-- fewer fields
fewer : (glyphs : List NamedGlyph) (ws : List (Bor (List ℕ))) → length ws < 6 → part_in glyphs (lent ws) ≡ Err FieldCount
fewer glyphs [] h = refl
fewer glyphs (a ∷ []) h = refl
fewer glyphs (a ∷ b ∷ []) h = refl
fewer glyphs (a ∷ b ∷ c ∷ []) h = refl
fewer glyphs (a ∷ b ∷ c ∷ e ∷ []) h = refl
fewer glyphs (a ∷ b ∷ c ∷ e ∷ f ∷ []) h = refl
fewer glyphs (a ∷ b ∷ c ∷ e ∷ f ∷ g ∷ ws) h = absurd (omega arith)

-- more fields
more : (glyphs : List NamedGlyph) (ws : List (Bor (List ℕ))) → 7 ≤ length ws → part_in glyphs (lent ws) ≡ Err FieldCount
more glyphs [] h = absurd (omega arith)
more glyphs (a ∷ []) h = absurd (omega arith)
more glyphs (a ∷ b ∷ []) h = absurd (omega arith)
more glyphs (a ∷ b ∷ c ∷ []) h = absurd (omega arith)
more glyphs (a ∷ b ∷ c ∷ e ∷ []) h = absurd (omega arith)
more glyphs (a ∷ b ∷ c ∷ e ∷ f ∷ []) h = absurd (omega arith)
more glyphs (a ∷ b ∷ c ∷ e ∷ f ∷ g ∷ []) h = absurd (omega arith)
more glyphs (a ∷ b ∷ c ∷ e ∷ f ∷ g ∷ x ∷ ws) h = refl

pub returns-in-len6 : goal.returns-in-len6
returns-in-len6 c =
    let glyphs = c.args.glyphs.now in
    c.both.ensures ∙ (λ i. both (c.named.ensures i) (c.part_with.ensures i))
    ∙ sym (six glyphs c.args.fields.now _ c.in-len6.len_at_least c.in-len6.len_below)

pub returns-in_default : goal.returns-in_default
returns-in_default c = sym (fewer c.args.glyphs.now c.args.fields.now c.in_default.len_below)

pub returns-in_default-2 : goal.returns-in_default-2
returns-in_default-2 c = sym (more c.args.glyphs.now c.args.fields.now c.in_default.len_at_least)
