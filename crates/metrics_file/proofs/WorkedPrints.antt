-- Worked prints: the definition, computed.
use Rattle.std.proofs.Common.{◌≡◌, ℕ, ℤ, map, true, false, pos, negsuc, List, [], ◌∷◌, ◌++◌, codes, Some, None, refl}
use Rattle.std.specs.Fmt.{digits}
use Rattle.op_dictionary.specs.declared.operator.Axis.TheVariants.{Block, Inline}
use Rattle.op_dictionary.specs.declared.operator.Category.TheVariants.{Default, B}
use Rattle.op_dictionary.specs.declared.operator.Form.TheVariants.{Infix, Postfix}
use Rattle.op_dictionary.specs.declared.text.OpText.TheVariants.{One, Two}
use Rattle.font_metrics.specs.declared.glyph.Glyph.{Glyph}
use Rattle.font_metrics.specs.Metrics.{MetricsValue}
use Rattle.font_metrics.specs.Tables.{no_tables}
use Rattle.metrics_file.proofs.Worked.{bare}
use Rattle.metrics_file.specs.Print.{print_of, line_text, printed_lines}

abbrev feed : List ℕ
feed = 10 ∷ []

-- a small file in its canonical print
small : MetricsValue
small = record bare {
  glyphs = record { name = codes "missing"; glyph = record { advance = pos 512; ink_ascent = pos 600; ink_descent = pos 0; italic = pos 0; accent = None } } ∷ [];
}

its-print : print_of small ≡ codes "mathlay-metrics 1" ++ feed ++ codes "upem 1024" ++ feed ++ codes "line 900 300" ++ feed ++ codes "xheight 512" ++ feed ++ codes "glyph missing 512 600 0 0" ++ feed
unfolding print_of small digits
its-print = refl

-- a print with a line of each kind
abbrev glyph_of : ℤ → Glyph
glyph_of italic = record { advance = pos 700; ink_ascent = pos 600; ink_descent = negsuc 9; italic = italic; accent = Some (negsuc 4) }

abbrev rich : MetricsValue
rich = record small {
  overlap = Some 0;
  constants = (0, pos 0) ∷ (5, negsuc 255) ∷ [];
  glyphs = small.glyphs ++ record { name = codes "bar.v"; glyph = glyph_of (pos 0) } ∷ [];
  characters = (0x7C, 1) ∷ (0x1D400, 0) ∷ [];
  tables = record no_tables {
    variants = ((1, record { glyph = record { 0 = 0 }; measure = pos 900 } ∷ []) ∷ [], (0, record { glyph = record { 0 = 1 }; measure = pos 9 } ∷ []) ∷ (1, record { glyph = record { 0 = 1 }; measure = pos 0 } ∷ []) ∷ []);
    parts = ((1, record { glyph = record { 0 = 1 }; extender = true; start = pos 1; end = pos 2; full = pos 3 } ∷ record { glyph = record { 0 = 0 }; extender = false; start = pos 4; end = pos 5; full = pos 6 } ∷ []) ∷ [], []);
  };
  operators = record { text = Two 0x3D 0x338; form = Infix; category = B; axis = Block } ∷ record { text = One 0x27F6; form = Postfix; category = Default; axis = Inline } ∷ [];
}

its-lines : map line_text (printed_lines rich) ≡ map (λ line. line ++ feed) (
    codes "mathlay-metrics 1"
    ∷ codes "upem 1024"
    ∷ codes "line 900 300"
    ∷ codes "xheight 512"
    ∷ codes "overlap 0"
    ∷ codes "const ScriptPercentScaleDown 0"
    ∷ codes "const AxisHeight -256"
    ∷ codes "glyph missing 512 600 0 0"
    ∷ codes "glyph bar.v 700 600 -10 0 -5"
    ∷ codes "char 007C bar.v"
    ∷ codes "char 1D400 missing"
    ∷ codes "hvariant missing bar.v 9"
    ∷ codes "vvariant bar.v missing 900"
    ∷ codes "hvariant bar.v bar.v 0"
    ∷ codes "vassembly bar.v bar.v EXT 1 2 3"
    ∷ codes "vassembly bar.v missing FIX 4 5 6"
    ∷ codes "operator 003D+0338 infix B block"
    ∷ codes "operator 27F6 postfix Default inline"
    ∷ [])
unfolding small digits
its-lines = refl
