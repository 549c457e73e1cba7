use Rattle.std.proofs.Common.{◌∙◌, ap, take}
use Rattle.css_lengths.proofs.Digits.{front_digits}
use Rattle.css_lengths.proofs.reading.split_digits.Goals as goal

pub returns-clause-digits : goal.returns-clause-digits
returns-clause-digits c =
    front_digits c.args.text.now _ (c.split_at.ensures.front ∙ ap (λ n. take n c.args.text.now) c.digit_count.ensures.value)
