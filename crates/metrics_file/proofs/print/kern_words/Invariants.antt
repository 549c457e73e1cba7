use Rattle.std.proofs.Common.{◌≡◌, ◌∷◌, map, take, flat_map}
use Rattle.std.specs.Fmt.{signed_decimal}
use Rattle.font_metrics.specs.Texts.{corner_text}
use Rattle.font_metrics.specs.Tables.{step_words}
use Rattle.metrics_file.specs.Print.{word_text}
use Rattle.metrics_file.proofs.print.kern_words.Given as goal

abbrev pub invariant-loop-step : goal.invariant-loop-step
invariant-loop-step l =
    map word_text l.words.items
    ≡ l.fn.base_name ∷ corner_text l.fn.corner ∷ signed_decimal l.fn.kern.lowest ∷ flat_map step_words (take l.step-index l.step-items)
