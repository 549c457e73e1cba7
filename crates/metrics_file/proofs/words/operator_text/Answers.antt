use Rattle.std.proofs.Common.{◌∙◌, ◌+◌, ap, sym, rules, tests, take}
use Rattle.std.proofs.lemmas.Iterator.{YieldsList-from_slice}
use Rattle.std.proofs.lemmas.Iterator.Search.{position_from_yields_List}
use Rattle.metrics_file.specs.Words.{text_of_codes, pair_in, operator_text_in}
use Rattle.metrics_file.proofs.Cuts.{is_plus, none_passes, joined, rest_all}
use Rattle.metrics_file.proofs.words.operator_text.Goals as goal

pub returns-in-None : goal.returns-in-None
unfolding operator_text_in
returns-in-None c =
    let at = position_from_yields_List is_plus _ _ c.position.result c.position.ensures.ran (YieldsList-from_slice c.args.word.now c.iter.ensures.rest) (λ x b q k. search (rules, tests)) in
    c.one.ensures ∙ sym (ap text_of_codes (none_passes is_plus c.args.word.now (sym at ∙ c.in-None.is)))

pub returns-in-Some : goal.returns-in-Some
unfolding operator_text_in
returns-in-Some c =
    let word = c.args.word.now in
    let at = position_from_yields_List is_plus _ _ c.position.result c.position.ensures.ran (YieldsList-from_slice word c.iter.ensures.rest) (λ x b q k. search (rules, tests)) in
    c.pair.ensures ∙ ap (pair_in (take c.in-Some.at word)) (rest_all word (c.in-Some.at + 1))
    ∙ sym (joined word c.in-Some.at (sym at ∙ c.in-Some.is))
