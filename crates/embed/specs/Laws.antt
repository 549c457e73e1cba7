-- What holds of all files.
use Rattle.std.specs.Prelude.{◌≡◌, ◌↔◌, ℕ, List, Some, Ok}
use Rattle.font_metrics.specs.Metrics.{MetricsValue}
use Rattle.input_files.specs.Files.{metrics_in}
use Rattle.embed.specs.Calls.{Opens, Seen, Starts}
use Rattle.embed.specs.Desks.{DeskValue}
use Rattle.embed.specs.declared.answer.Answer.{Answer}

-- over metrics that the bytes of a file give, a start ends just as an opening over the bytes of
-- both files
abbrev pub StartedLaw : Type 0
StartedLaw = (bytes tree : List ℕ) (metrics : MetricsValue) (old new : Seen DeskValue)
    (answer : Answer)
    → metrics_in bytes ≡ Ok metrics
    → Starts (Some metrics) tree old new answer ↔ Opens bytes tree old new answer
