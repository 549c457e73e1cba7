-- The numbers that the calls answer.
use Rattle.std.specs.Prelude.{ℕ}
use Rattle.input_files.specs.Refusals.{status_of}
use Rattle.input_files.specs.Status.{number_of as number_of_run}
use Rattle.input_files.specs.declared.status.Status.TheVariants.{Done as RunDone, ScriptLimit, Memory as RunMemory}
use Rattle.embed.specs.declared.answer.Answer.{Answer}
use Rattle.embed.specs.declared.answer.Answer.TheVariants.{Done, Refused, LineLong, Memory, Open, Closed, Short, Nothing}

-- the status with which the program ends for the same cause, or a number of the library's own
abbrev pub number_of : Answer → ℕ
number_of Done = number_of_run RunDone
number_of (Refused refusal) = number_of_run (status_of refusal)
number_of LineLong = number_of_run ScriptLimit
number_of Memory = number_of_run RunMemory
number_of Open = 32
number_of Closed = 33
number_of Short = 34
number_of Nothing = 35
