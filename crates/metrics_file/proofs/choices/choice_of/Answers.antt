use Rattle.std.proofs.Common.{◌∙◌, ap, sym, Some}
use Rattle.std.proofs.lemmas.List.{take_all}
use Rattle.std.specs.Str.{bytes_eq}
use Rattle.metrics_file.specs.Words.{choice_in}
use Rattle.metrics_file.proofs.Choosing.{chosen, none-more}
use Rattle.metrics_file.proofs.choices.choice_of.Goals as goal

pub returns-then-is_text : goal.returns-then-is_text
returns-then-is_text g c =
    let item = c.loop-text-item.result in
    let word = c.args.word.now in
    ap (λ choice. Some choice.1) c.loop-text-item.is
    ∙ sym (chosen c.args.choices.now c.loop-text.text-index item word c.loop-text-test.true c.loop-text.invariant
    (ap (λ choice. bytes_eq word choice.0.now) (sym c.loop-text-item.is) ∙ sym c.is_text.ensures ∙ c.if-is_text.true))

pub loop-text-preserved : goal.loop-text-preserved
loop-text-preserved g c =
    let item = c.loop-text-item.result in
    let word = c.args.word.now in
    none-more c.args.choices.now c.loop-text.text-index item word c.loop-text-test.true c.loop-text.invariant
    (ap (λ choice. bytes_eq word choice.0.now) (sym c.loop-text-item.is) ∙ sym c.is_text.ensures ∙ c.if-is_text.false)

pub returns : goal.returns
unfolding choice_in
returns g c =
    let choices = c.args.choices.now in
    sym c.loop-text.invariant
    ∙ ap (λ shown. choice_in shown c.args.word.now) (take_all c.loop-text.text-index choices c.loop-text-test.false)
