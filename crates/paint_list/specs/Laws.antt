-- What holds of every SVG.
use Rattle.std.specs.Prelude.{◌≡◌, ℕ, Bool, true, ◌&&◌, not, nat_le, nat_eq}
use Rattle.std.specs.List.{list_all}
use Rattle.font_metrics.specs.Metrics.{MetricsValue, name_at}
use Rattle.font_metrics.specs.Taken.{IsTaken}
use Rattle.font_metrics.specs.declared.glyph.GlyphId.{GlyphId}
use Rattle.box_writer.specs.Items.{IsKnown}

-- printable ASCII but for the quotation mark, `&` and `<`: what may stand in the value of an
-- attribute as it is (XML 1.0, 2.3)
abbrev pub is_plain : ℕ → Bool
is_plain byte =
    nat_le 32 byte && nat_le byte 126 && not (nat_eq byte 34) && not (nat_eq byte 38)
    && not (nat_eq byte 60)

-- whatever a file names its glyphs, a name stands in an SVG as it is; all else there is numbers and
-- words of its own
abbrev pub NameLaw : Type 0
NameLaw = (m : MetricsValue) (glyph : GlyphId) → IsTaken m → IsKnown m glyph
    → list_all is_plain (name_at m glyph.0) ≡ true
