use Rattle.std.proofs.Common.{◌≡◌, ◌++◌, length, map, flat_map, All}
use Rattle.metrics_file.specs.Print.{character_words, line_text}
use Rattle.font_metrics.specs.Taken.{IsCharacter}
use Rattle.metrics_file.proofs.print.print_characters.Given as goal

pub record Left (l : goal.Live-loop-letter) : Type 0 where
  pub characters : All (IsCharacter (length l.fn.metrics.glyphs)) l.letter-iterator
  pub lines : l.lines ++ flat_map line_text (map (character_words l.fn.metrics.glyphs) l.letter-iterator)
      ≡ l.fn.lines ++ flat_map line_text (map (character_words l.fn.metrics.glyphs) l.fn.metrics.characters)

abbrev pub invariant-loop-letter : goal.invariant-loop-letter
invariant-loop-letter l = Left l
