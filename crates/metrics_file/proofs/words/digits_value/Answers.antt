use Rattle.std.proofs.Common.{◌∙◌, ◌<◌, ◌*◌, ◌+◌, ap, sym, subst, lit<, arith, drop}
use Rattle.std.specs.Char.{digit_value}
use Rattle.metrics_file.proofs.Digits.{value_in_front, next_digit, no_digit, next_small, six_small, value_behind}
use Rattle.std.proofs.Math.Nat.{mul-le-mul_left}
use Rattle.std.proofs.lemmas.List.{drop_all}
use Rattle.metrics_file.proofs.words.digits_value.Goals as goal

pub loop-byte-init : goal.loop-byte-init
loop-byte-init c = record { rest = value_in_front c.args.base c.args.digits.now; small = lit< tt }

pub returns-in_err-digit-clause-value : goal.returns-in_err-digit-clause-value
returns-in_err-digit-clause-value c =
    let none = subst (λ b. digit_value b < c.args.base → ⊥) c.from.ensures c.in_err-digit.ensures.value in
    c.from_residual.ensures
    ∙ sym (c.loop-byte.invariant.rest ∙ no_digit c.args.base c.loop-byte.value c.args.digits.now c.loop-byte.byte-index c.loop-byte-test.true none)

pub overflow_mul-value : goal.overflow_mul-value
overflow_mul-value c =
    let small = six_small c.loop-byte.byte-index c.loop-byte.value (omega arith) c.loop-byte.invariant.small in
    omega (arith, mul-le-mul_left c.loop-byte.value c.requires.base_high, small)

pub overflow_add-value : goal.overflow_add-value
overflow_add-value c =
    let small = six_small c.loop-byte.byte-index c.loop-byte.value (omega arith) c.loop-byte.invariant.small in
    let digit = c.in_ok-digit.ensures.value in
    omega (arith, mul-le-mul_left c.loop-byte.value c.requires.base_high, small, digit)

pub loop-byte-preserved : goal.loop-byte-preserved
loop-byte-preserved c =
    let i = c.loop-byte.byte-index in
    let n = c.loop-byte.value in
    let base = c.args.base in
    let digit = c.in_ok-digit.ensures.value in
    let below = subst (λ b. digit_value b < base) c.from.ensures digit.0 in
    record {
      rest =
          c.loop-byte.invariant.rest ∙ next_digit base n c.args.digits.now i c.loop-byte-test.true below
          ∙ ap (λ d. value_behind base (n * base + d) (drop (i + 1) c.args.digits.now)) (sym (digit.1 ∙ ap digit_value c.from.ensures));
      small = next_small base n c.in_ok-digit.digit i c.requires.base_high (omega (arith, digit.0, digit.1)) c.loop-byte.invariant.small;
    }

pub returns-clause-value : goal.returns-clause-value
returns-clause-value c =
    let none = drop_all c.loop-byte.byte-index c.args.digits.now (omega arith) in
    sym (c.loop-byte.invariant.rest ∙ ap (value_behind c.args.base c.loop-byte.value) none)

pub returns-clause-small : goal.returns-clause-small
returns-clause-small c = six_small c.loop-byte.byte-index c.loop-byte.value (omega arith) c.loop-byte.invariant.small
