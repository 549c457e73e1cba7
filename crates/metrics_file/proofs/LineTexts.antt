-- The text of an operator that a line gives is one that the dictionary takes.
use Rattle.std.proofs.Common.{◌≡◌, ℕ, ◌≤◌, List, true, Ok, arith}
use Rattle.std.proofs.lemmas.Bool.Decides.{nat_tests}
use Rattle.op_dictionary.specs.declared.text.OpText.{OpText}
use Rattle.op_dictionary.specs.declared.text.OpText.TheVariants.{Empty, One, Two, Other}
use Rattle.op_dictionary.specs.Pairs.{IsLineText}
use Rattle.metrics_file.specs.declared.keyword.Keyword.{Keyword}
use Rattle.metrics_file.specs.declared.said.Said.{Said}
use Rattle.metrics_file.specs.declared.said.Said.TheVariants.{Upem, Line, XHeight, Overlap, Constant, Glyph, Character, Operator}
use Rattle.font_metrics.specs.Slot.{Words}
use Rattle.metrics_file.specs.Lines.{item_in}
use Rattle.font_metrics.specs.Metrics.{NamedGlyph}
use Rattle.metrics_file.specs.Said.{item_of, HasLineText}
use Rattle.font_metrics.specs.Taken.{IsOperatorText}
use Rattle.font_metrics.specs.Names.{is_in_pair}
use Rattle.metrics_file.proofs.Ranges.{item_range}

small : (n : ℕ) → is_in_pair n ≡ true → n ≤ 0xFFFF
small n h = grind (arith, nat_tests)

line_text : (text : OpText) → IsOperatorText text → IsLineText text
line_text Empty h = h
line_text (One letter) h = tt
line_text (Two first second) h = (small first h.0, small second h.1)
line_text Other h = h

pub item_text : (glyphs : List NamedGlyph) (k : Keyword) (fields : Words) (said : Said)
    → item_in glyphs k fields ≡ Ok (item_of said) → HasLineText said
item_text glyphs k fields (Operator line) h = line_text line.text (item_range glyphs k fields (item_of (Operator line)) h)
item_text glyphs k fields (Upem n) h = tt
item_text glyphs k fields (Line n) h = tt
item_text glyphs k fields (XHeight n) h = tt
item_text glyphs k fields (Overlap n) h = tt
item_text glyphs k fields (Constant c) h = tt
item_text glyphs k fields (Glyph g) h = tt
item_text glyphs k fields (Character c) h = tt
