-- The name of a glyph has no byte that XML has written in another way.
use Rattle.std.proofs.Common.{◌≡◌, ◌∙◌, sym, ap, subst, refl, ℕ, ◌+◌, ◌≤◌, ◌<◌, Bool, true, false, ◌&&◌, ◌||◌, not, cond, List, [], ◌∷◌, length, get_or, arith, nat_eq, IsTrue}
use Rattle.std.specs.Prelude.{nat_le}
use Rattle.std.specs.List.{All, list_all}
use Rattle.std.proofs.lemmas.Bool.{and_parts}
use Rattle.std.proofs.lemmas.List.Elements.{All-get_or}
use Rattle.std.proofs.lemmas.Grind.{common_steps}
use Rattle.font_metrics.specs.Metrics.{MetricsValue, NamedGlyph, name_at, nameless}
use Rattle.font_metrics.specs.Ranges.{IsGlyph}
use Rattle.font_metrics.specs.Taken.{IsTaken}
use Rattle.font_metrics.specs.Names.{is_name, is_name_byte}
use Rattle.font_metrics.specs.declared.glyph.GlyphId.{GlyphId}
use Rattle.box_writer.specs.Items.{IsKnown}
use Rattle.paint_list.specs.Laws.{NameLaw, is_plain}

byte_plain : (byte : ℕ) → is_name_byte byte ≡ true → is_plain byte ≡ true
byte_plain byte h = grind (arith, common_steps)

weaker : (bytes : List ℕ) → list_all is_name_byte bytes ≡ true → list_all is_plain bytes ≡ true
weaker [] h = refl
weaker (byte ∷ bytes) h =
    let parts = and_parts (is_name_byte byte) (list_all is_name_byte bytes) h in
    ap (λ (x : Bool). x && list_all is_plain bytes) (byte_plain byte parts.0) ∙ weaker bytes parts.1

name_plain : (bytes : List ℕ) → IsTrue (is_name bytes) → list_all is_plain bytes ≡ true
unfolding is_name
name_plain bytes h =
    weaker bytes (and_parts (nat_le 1 (length bytes) && nat_le (length bytes) 63) (list_all is_name_byte bytes) h).1

pub name_law : NameLaw
unfolding name_at
name_law m glyph taken known = name_plain (name_at m glyph.0) (All-get_or IsGlyph m.glyphs glyph.0 nameless known taken.glyphs).name
