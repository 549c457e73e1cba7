use Rattle.std.proofs.Common.{◌≡◌, ◌+◌, ◌*◌, ◌≤◌, ◌++◌, length, take}
use Rattle.doc_io.specs.Lines.{spaced_numbers}
use Rattle.doc_io.proofs.short_text.ShortText.add_numbers.Given as goal

abbrev pub invariant-loop-number : goal.invariant-loop-number
invariant-loop-number l = record {
  text : l.self ≡ l.fn.self ++ spaced_numbers (take l.number-index l.numbers);
  short : length l.self ≤ length l.fn.self + 21 * l.number-index;
}
