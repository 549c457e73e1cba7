use Rattle.std.proofs.Common.{◌≡◌, ◌∙◌, sym, refl, ℕ, ◌≤◌, ◌<◌, List, [], ◌∷◌, length, get_or, Bor, arith, Err}
use Rattle.font_metrics.specs.declared.fault.LineFault.TheVariants.{FieldCount}
use Rattle.metrics_file.specs.Lines.{lent, variant_with, variant_in}
use Rattle.font_metrics.specs.Metrics.{NamedGlyph}
use Rattle.metrics_file.proofs.named_lines.variant_line.Goals as goal

-- as many fields as a line has
fields : (glyphs : List NamedGlyph) (ws : List (Bor (List ℕ))) (d : Bor (List ℕ)) → 3 ≤ length ws → length ws < 4
    → variant_in glyphs (lent ws) ≡ variant_with glyphs (get_or ws 0 d).now (get_or ws 1 d).now (get_or ws 2 d).now
fields glyphs [] d h k = absurd (omega arith)
fields glyphs (a ∷ []) d h k = absurd (omega arith)
fields glyphs (a ∷ b ∷ []) d h k = absurd (omega arith)
fields glyphs (a ∷ b ∷ c ∷ []) d h k = refl
fields glyphs (a ∷ b ∷ c ∷ e ∷ ws) d h k = absurd (omega arith)

-- fewer fields
fewer : (glyphs : List NamedGlyph) (ws : List (Bor (List ℕ))) → length ws < 3 → variant_in glyphs (lent ws) ≡ Err FieldCount
fewer glyphs [] h = refl
fewer glyphs (a ∷ []) h = refl
fewer glyphs (a ∷ b ∷ []) h = refl
fewer glyphs (a ∷ b ∷ c ∷ ws) h = absurd (omega arith)

-- more fields
more : (glyphs : List NamedGlyph) (ws : List (Bor (List ℕ))) → 4 ≤ length ws → variant_in glyphs (lent ws) ≡ Err FieldCount
more glyphs [] h = absurd (omega arith)
more glyphs (a ∷ []) h = absurd (omega arith)
more glyphs (a ∷ b ∷ []) h = absurd (omega arith)
more glyphs (a ∷ b ∷ c ∷ []) h = absurd (omega arith)
more glyphs (a ∷ b ∷ c ∷ e ∷ ws) h = refl

pub returns-in-len3 : goal.returns-in-len3
returns-in-len3 c =
    c.variant_with.ensures ∙ sym (fields c.args.glyphs.now c.args.fields.now _ c.in-len3.len_at_least c.in-len3.len_below)

pub returns-in_default : goal.returns-in_default
returns-in_default c = sym (fewer c.args.glyphs.now c.args.fields.now c.in_default.len_below)

pub returns-in_default-2 : goal.returns-in_default-2
returns-in_default-2 c = sym (more c.args.glyphs.now c.args.fields.now c.in_default.len_at_least)
