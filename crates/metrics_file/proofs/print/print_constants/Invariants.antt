use Rattle.std.proofs.Common.{◌≡◌, ◌<◌, ◌++◌, map, flat_map, All}
use Rattle.metrics_file.specs.Print.{constant_words, line_text}
use Rattle.metrics_file.proofs.print.print_constants.Given as goal

pub record Left (l : goal.Live-loop-place) : Type 0 where
  pub constants : All (λ constant. constant.0 < 56) l.place-iterator
  pub lines : l.lines ++ flat_map line_text (map constant_words l.place-iterator)
      ≡ l.fn.lines ++ flat_map line_text (map constant_words l.fn.constants)

abbrev pub invariant-loop-place : goal.invariant-loop-place
invariant-loop-place l = Left l
