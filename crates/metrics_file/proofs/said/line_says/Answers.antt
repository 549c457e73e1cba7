use Rattle.std.proofs.Common.{◌≡◌, ◌∙◌, ap, sym, refl, Err, List}
use Rattle.metrics_file.specs.declared.keyword.Keyword.{Keyword}
use Rattle.font_metrics.specs.declared.fault.LineFault.TheVariants.{UnknownWord}
use Rattle.font_metrics.specs.Faults.{Step}
use Rattle.font_metrics.specs.Slot.{Words}
use Rattle.metrics_file.specs.Lines.{Item, item_in, lent}
use Rattle.font_metrics.specs.Metrics.{NamedGlyph}
use Rattle.metrics_file.proofs.said.line_says.Goals as goal

-- what the fields of a kind of line say, they say behind its word
by_word : (glyphs : List NamedGlyph) (fields : Words) (word kind : Keyword) (said : Step Item) → word ≡ kind
    → said ≡ item_in glyphs kind fields → said ≡ item_in glyphs word fields
by_word glyphs fields word kind said is h = h ∙ ap (λ (k : Keyword). item_in glyphs k fields) (sym is)

pub returns-in-Upem : goal.returns-in-Upem
returns-in-Upem c =
    by_word c.args.glyphs.now (lent c.args.fields.now) c.args.keyword _ _ c.in-Upem.is c.upem_line.ensures

pub returns-in-Line : goal.returns-in-Line
returns-in-Line c =
    by_word c.args.glyphs.now (lent c.args.fields.now) c.args.keyword _ _ c.in-Line.is c.extent_line.ensures

pub returns-in-XHeight : goal.returns-in-XHeight
returns-in-XHeight c =
    by_word c.args.glyphs.now (lent c.args.fields.now) c.args.keyword _ _ c.in-XHeight.is c.x_height_line.ensures

pub returns-in-Overlap : goal.returns-in-Overlap
returns-in-Overlap c =
    by_word c.args.glyphs.now (lent c.args.fields.now) c.args.keyword _ _ c.in-Overlap.is c.overlap_line.ensures

pub returns-in-Constant : goal.returns-in-Constant
returns-in-Constant c =
    by_word c.args.glyphs.now (lent c.args.fields.now) c.args.keyword _ _ c.in-Constant.is c.constant_line.ensures

pub returns-in-Glyph : goal.returns-in-Glyph
returns-in-Glyph c =
    by_word c.args.glyphs.now (lent c.args.fields.now) c.args.keyword _ _ c.in-Glyph.is c.glyph_line.ensures

pub returns-in-Char : goal.returns-in-Char
returns-in-Char c =
    by_word c.args.glyphs.now (lent c.args.fields.now) c.args.keyword _ _ c.in-Char.is c.character_line.ensures

pub returns-in-Operator : goal.returns-in-Operator
returns-in-Operator c =
    by_word c.args.glyphs.now (lent c.args.fields.now) c.args.keyword _ _ c.in-Operator.is c.operator_line.ensures

pub returns-in-Unknown : goal.returns-in-Unknown
returns-in-Unknown c =
    by_word c.args.glyphs.now (lent c.args.fields.now) c.args.keyword _ (Err UnknownWord) c.in-Unknown.is refl
