use Rattle.std.proofs.Common.{◌∙◌, sym, ap}
use Rattle.command_words.specs.Numerals.{behind_minus, is_short_numeral}
use Rattle.command_words.proofs.CoordinateWords.{coordinate_parsed, no_coordinate}
use Rattle.command_words.proofs.numerals.coordinate_of.Goals as goal

pub returns-then-is_short_numeral : goal.returns-then-is_short_numeral
returns-then-is_short_numeral c =
    let word = c.args.word.now in
    let same = c.behind_minus.ensures ∙ ap behind_minus c.as_bytes.ensures.value in
    let short = ap (is_short_numeral 11) (sym same) ∙ sym c.is_short_numeral.ensures ∙ c.if-is_short_numeral.true in
    c.ok.ensures.value ∙ coordinate_parsed word c.parse.result short c.parse.ensures.value.0

pub returns-else-is_short_numeral : goal.returns-else-is_short_numeral
returns-else-is_short_numeral c =
    let word = c.args.word.now in
    let same = c.behind_minus.ensures ∙ ap behind_minus c.as_bytes.ensures.value in
    let other = ap (is_short_numeral 11) (sym same) ∙ sym c.is_short_numeral.ensures ∙ c.if-is_short_numeral.false in
    sym (no_coordinate word other)
