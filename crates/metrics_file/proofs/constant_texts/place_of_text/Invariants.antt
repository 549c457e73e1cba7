use Rattle.std.proofs.Common.{◌≡◌, ◌<◌, ℕ, false}
use Rattle.std.specs.Str.{bytes_eq}
use Rattle.font_metrics.specs.Texts.{constant_text}
use Rattle.metrics_file.proofs.constant_texts.place_of_text.Given as goal

-- the word is no name of the constants so far
abbrev pub invariant-loop-place : goal.invariant-loop-place
invariant-loop-place l = (k : ℕ) → k < l.place → bytes_eq l.fn.word (constant_text k) ≡ false
