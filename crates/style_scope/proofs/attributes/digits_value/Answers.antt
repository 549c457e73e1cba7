use Rattle.std.proofs.Common.{get_or, arith}
use Rattle.std.proofs.lemmas.Int.Digits.{digits_value_more}
use Rattle.css_lengths.proofs.Digits.{digit_behind_zero, one_digit_more}
use Rattle.style_scope.proofs.attributes.digits_value.Goals as goal

pub loop-byte-preserved : goal.loop-byte-preserved
loop-byte-preserved c =
    let i = c.loop-byte.byte-index in
    let digit = digit_behind_zero (get_or c.args.digits.now i 0) (c.requires.digits i 0 c.loop-byte-test.true) in
    let more = digits_value_more 10 c.args.digits.now i c.loop-byte-test.true in
    record {
      value = omega (arith, more, digit, c.from.ensures, c.loop-byte.invariant.value);
      small = one_digit_more c.loop-byte.value c.from.result i c.loop-byte.invariant.small (omega (arith, digit, c.from.ensures));
    }
