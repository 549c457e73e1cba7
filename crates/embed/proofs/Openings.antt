-- A start over metrics, and an opening over the bytes of which they were read.
use Rattle.std.proofs.Common.{◌≡◌, ◌≢◌, ◌∙◌, sym, ap, ℕ, List, Some, None}
use Rattle.std.specs.Prelude.{Result, Ok}
use Rattle.std.proofs.lemmas.Option.{none-some}
use Rattle.font_metrics.specs.Metrics.{MetricsValue}
use Rattle.input_files.specs.Files.{metrics_in}
use Rattle.line_replies.specs.Opening.{◌>>=◌, opened, opened_over}
use Rattle.input_files.specs.declared.refusal.Refusal.{Refusal}
use Rattle.embed.specs.Calls.{Opens, Seen, Starts}
use Rattle.embed.specs.Desks.{DeskValue}
use Rattle.embed.specs.Laws.{StartedLaw}
use Rattle.embed.specs.declared.answer.Answer.{Answer}
use Rattle.embed.specs.declared.answer.Answer.TheVariants.{Done, Refused, LineLong, Memory, Open, Closed, Short, Nothing}

module _ (bytes tree : List ℕ) (metrics : MetricsValue) (read : metrics_in bytes ≡ Ok metrics) (old new : Seen DeskValue) where
  same : opened bytes tree ≡ opened_over metrics tree
  same = ap (λ (r : Result MetricsValue Refusal). r >>= (λ (m : MetricsValue). opened_over m tree)) read

  there : Some metrics ≢ None
  there = λ none. none-some metrics (sym none)

  opens : (answer : Answer) → Starts (Some metrics) tree old new answer → Opens bytes tree old new answer
  opens Done (room, shut, desk, (session, gives, is), kept) = (room, shut, desk, (session, same ∙ gives, is), kept)
  opens (Refused refusal) (room, shut, why, kept, told) = (room, shut, λ other. same ∙ why other, kept, told)
  opens LineLong none = none
  opens Memory none = none
  opens Open (some, room, is_open, stay) = (room, is_open, stay)
  opens Closed (none, stay) = absurd (there none)
  opens Short (some, less, stay) = (less, stay)
  opens Nothing none = none

  starts : (answer : Answer) → Opens bytes tree old new answer → Starts (Some metrics) tree old new answer
  starts Done (room, shut, desk, (session, gives, is), kept) = (room, shut, desk, (session, sym same ∙ gives, is), kept)
  starts (Refused refusal) (room, shut, why, kept, told) = (room, shut, λ other. sym same ∙ why other, kept, told)
  starts LineLong none = none
  starts Memory none = none
  starts Open (room, is_open, stay) = (there, room, is_open, stay)
  starts Closed none = absurd none
  starts Short (less, stay) = (there, less, stay)
  starts Nothing none = none

pub started : StartedLaw
started bytes tree metrics old new answer read =
    (opens bytes tree metrics read old new answer, starts bytes tree metrics read old new answer)
