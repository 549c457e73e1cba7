use Rattle.std.proofs.Common.{◌-◌, ◌*◌, ◌<◌, length, length-take, take, sym, subst, arith}
use Rattle.css_lengths.proofs.Digits.{six_digits}
use Rattle.css_lengths.proofs.reading.fraction_value.Goals as goal

pub returns-clause-small : goal.returns-clause-small
returns-clause-small c =
    let kept = take c.min.result c.args.digits.now in
    let short = length-take c.min.result c.args.digits.now in
    subst (λ p. c.digits_value.result * p < 1000000) (sym c.pow.ensures)
    (six_digits c.digits_value.result (length kept) (6 - length kept) c.digits_value.ensures.small (omega (arith, short, c.min.ensures)))
