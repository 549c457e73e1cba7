use Rattle.std.proofs.Common.{◌≡◌, ◌∷◌, ◌++◌, map, take}
use Rattle.std.specs.List.{join_with_byte}
use Rattle.metrics_file.specs.Print.{word_text}
use Rattle.metrics_file.proofs.printed.PrintedLines.add_line.Given as goal

abbrev pub invariant-loop-word : goal.invariant-loop-word
invariant-loop-word l =
    l.self ≡ l.fn.self ++ join_with_byte 32 (l.fn.keyword ∷ map word_text (take l.word-index l.fn.words))
