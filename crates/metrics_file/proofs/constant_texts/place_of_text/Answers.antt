use Rattle.std.proofs.Common.{◌≡◌, ◌∙◌, ap, sym, false}
use Rattle.std.specs.Str.{bytes_eq}
use Rattle.font_metrics.specs.Constants.{constant_texts, place_of_text}
use Rattle.font_metrics.specs.Texts.{constant_text}
use Rattle.metrics_file.proofs.ConstantTexts.{first-is, none-is}
use Rattle.metrics_file.proofs.constant_texts.place_of_text.Goals as goal
use borrow.Author.Count.{below_more}

pub loop-place-preserved : goal.loop-place-preserved
loop-place-preserved c =
    let word = c.args.word.now in
    below_more (λ k. bytes_eq word (constant_text k) ≡ false) c.loop-place.place c.loop-place.invariant
    (ap (λ text. bytes_eq word text) (sym c.text_of_place.ensures) ∙ sym c.is_text.ensures ∙ c.if-is_text.false)

pub returns-then-is_text-clause-place : goal.returns-then-is_text-clause-place
unfolding place_of_text
returns-then-is_text-clause-place c =
    let word = c.args.word.now in
    sym (first-is (λ text. bytes_eq word text) constant_texts c.loop-place.place c.loop-place-test.true c.loop-place.invariant
    (ap (λ text. bytes_eq word text) (sym c.text_of_place.ensures) ∙ sym c.is_text.ensures ∙ c.if-is_text.true))

pub returns-clause-place : goal.returns-clause-place
unfolding place_of_text
returns-clause-place c =
    sym (none-is (λ text. bytes_eq c.args.word.now text) constant_texts c.loop-place.place c.loop-place-test.false
    c.loop-place.invariant)
