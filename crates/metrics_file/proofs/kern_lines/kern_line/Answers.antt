use Rattle.std.proofs.Common.{◌≡◌, refl, ℕ, ◌<◌, List, [], ◌∷◌, length, Bor, Err, arith}
use Rattle.font_metrics.specs.declared.fault.LineFault.TheVariants.{FieldCount}
use Rattle.metrics_file.specs.Lines.{kern_in, lent}
use Rattle.font_metrics.specs.Metrics.{NamedGlyph}
use Rattle.metrics_file.proofs.kern_lines.kern_line.Goals as goal

-- fewer fields
fewer : (glyphs : List NamedGlyph) (ws : List (Bor (List ℕ))) → length ws < 3 → kern_in glyphs (lent ws) ≡ Err FieldCount
fewer glyphs [] h = refl
fewer glyphs (a ∷ []) h = refl
fewer glyphs (a ∷ b ∷ []) h = refl
fewer glyphs (a ∷ b ∷ c ∷ ws) h = absurd (omega arith)

pub returns-in_default : goal.returns-in_default
returns-in_default c = fewer c.args.glyphs.now c.args.fields.now c.in_default.len_below
