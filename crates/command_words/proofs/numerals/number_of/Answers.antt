use Rattle.std.proofs.Common.{◌∙◌, sym, ap, subst, List, ℕ}
use Rattle.command_words.specs.Numerals.{is_short_numeral, number_in}
use Rattle.command_words.proofs.DigitWords.{no_number, parsed}
use Rattle.command_words.proofs.numerals.number_of.Goals as goal

pub returns-then-is_short_numeral : goal.returns-then-is_short_numeral
returns-then-is_short_numeral c =
    let word = c.args.word.now in
    let short = ap (is_short_numeral c.args.most) (sym c.as_bytes.ensures.value) ∙ sym c.is_short_numeral.ensures ∙ c.if-is_short_numeral.true in
    c.ok.ensures.value ∙ parsed c.args.most word short c.parse.result c.parse.ensures.value.0

pub returns-else-is_short_numeral : goal.returns-else-is_short_numeral
returns-else-is_short_numeral c =
    let word = c.args.word.now in
    let other = ap (is_short_numeral c.args.most) (sym c.as_bytes.ensures.value) ∙ sym c.is_short_numeral.ensures ∙ c.if-is_short_numeral.false in
    sym (no_number c.args.most word other)
