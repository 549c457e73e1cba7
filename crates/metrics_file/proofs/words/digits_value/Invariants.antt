use Rattle.std.proofs.Common.{◌≡◌, ◌<◌, ◌*◌, ◌^◌, drop}
use Rattle.metrics_file.specs.Words.{value_of_digits}
use Rattle.metrics_file.proofs.Digits.{value_behind}
use Rattle.metrics_file.proofs.words.digits_value.Given as goal

-- the digits that are left give the number
abbrev pub invariant-loop-byte : goal.invariant-loop-byte
invariant-loop-byte l = record {
  rest : value_of_digits l.base l.digits ≡ value_behind l.base l.value (drop l.byte-index l.digits);
  small : l.value < 2 ^ (4 * l.byte-index);
}
