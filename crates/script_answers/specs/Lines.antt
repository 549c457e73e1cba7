-- What becomes of the lines of a script, one after another, whatever answers them.
use Rattle.std.specs.Prelude.{◌≡◌, ◌⊎◌, ℕ, ◌-◌, ◌≤◌, Bool, true, false, List, [], length, take, Option, IfSome, Result, Ok, Err, IfErr, OnOk, OnErr, IsErrOf}
use Rattle.std.specs.Option.{option_map}
use Rattle.std.specs.Io.KnownBytes.{Appends, IsAtEnd}
use Rattle.doc_io.specs.Causes.{InputsTold, Rose, SinkTold}
use Rattle.doc_io.specs.LineReader.{GivesLine, ReaderValue, left_of, lines_of, most_lines}
use Rattle.doc_io.specs.declared.line_reader.Line.{Line}
use Rattle.doc_io.specs.declared.line_reader.Line.TheVariants.{Whole, End}
use Rattle.doc_io.specs.declared.line_reader.LineRefusal.{LineRefusal}
use Rattle.doc_io.specs.declared.line_reader.LineRefusal.TheVariants as reading
use Rattle.input_files.specs.declared.status.Status.{Status}
use Rattle.input_files.specs.declared.status.Status.TheVariants as ending
use Rattle.script_answers.specs.Delivering.{Breaks, Delivers}
use Rattle.script_answers.specs.Responders.{Responder}
use Rattle.script_answers.specs.Texts.{Text, replies_within, status_of_end}
use Rattle.script_answers.specs.declared.stop.Stop.{Stop}
use Rattle.script_answers.specs.declared.stop.Stop.TheVariants as stop

-- ---- the next line

-- why no line of it is answered any more
abbrev pub stop_of : LineRefusal → Stop
stop_of reading.ReadFault = stop.ReadFault
stop_of reading.LineLong = stop.ScriptLimit
stop_of reading.LinesSpent = stop.ScriptLimit

-- the status with which a run stops
abbrev pub status_of_stop : Stop → Status
status_of_stop stop.ReadFault = ending.ReadFault
status_of_stop stop.ScriptLimit = ending.ScriptLimit
status_of_stop stop.WriteFault = ending.WriteFault
status_of_stop stop.Memory = ending.Memory

-- the next line, the end, or why there is none
abbrev pub told_line : Result Line LineRefusal → Result Bool Stop
told_line (Ok Whole) = Ok true
told_line (Ok End) = Ok false
told_line (Err refusal) = Err (stop_of refusal)

pub record ComesToLine (before after : ReaderValue) (old new : InputsTold)
    (result : Result Bool Stop) : Type 0 where
  pub line : Result Line LineRefusal
  pub gives : GivesLine before after old new line
  pub told : result ≡ told_line line

-- ---- one reply among others

-- a text was written, or a front of it, and a write failed or memory was refused
pub record Tells (text : List ℕ) (old new : SinkTold)
    (result : Result (Unit {0}) Stop) : Type 0 where
  pub whole : OnOk result (Appends old.written new.written text)
  pub front : (n : ℕ) × (n ≤ length text) × Appends old.written new.written (take n text)
  pub fault : IsErrOf result stop.WriteFault → Rose old.faults new.faults
  pub later : old.faults ≤ new.faults
  -- of a reply for which memory was refused nothing is written
  pub unmade : IsErrOf result stop.Memory → new ≡ old
  -- where there is no text, no write is made
  pub silent : text ≡ [] → ¬ IsErrOf result stop.WriteFault
  -- no line is read for it
  pub causes : OnErr result (IsErrOf result stop.WriteFault ⊎ IsErrOf result stop.Memory)

-- ---- the next line, and its reply

-- one line is read, and its reply is written before another is
pub record AnswersNext (R : Responder) (known known' : R.Known) (reader reader' : ReaderValue)
    (before after : InputsTold) (old new : SinkTold) (result : Result Bool Stop) : Type 0 where
  pub line : result ≡ Ok true → GivesLine reader reader' before after (Ok Whole)
      × Tells (R.told_of known reader'.line) old new (Ok tt)
      × (known' ≡ R.after_line known reader'.line)
  -- nothing is written where no line was read
  pub end : result ≡ Ok false → GivesLine reader reader' before after (Ok End) × (new ≡ old)
  pub stop : IfErr result (λ why.
      (ComesToLine reader reader' before after (Err why) × (new ≡ old))
      ⊎ (GivesLine reader reader' before after (Ok Whole)
      × Tells (R.told_of known reader'.line) old new (Err why)))

-- ---- all lines

-- the replies to the lines that are left to a reader, where they are told
abbrev pub replies_left : (R : Responder) → R.Known → ReaderValue → InputsTold → Option Text
replies_left R known reader inputs = option_map
    (λ bytes. replies_within R (most_lines - reader.given) known (lines_of bytes))
    (left_of reader inputs)

-- the replies to the lines that are left were delivered, or a front of them
pub record AnswersLines (R : Responder) (known : R.Known) (reader : ReaderValue)
    (before after : InputsTold) (old new : SinkTold) (status : Status) : Type 0 where
  pub text : Text
  -- where what is left isn't told, nor is the text
  pub wanted : IfSome (replies_left R known reader before) (λ replies. text ≡ replies)
  pub delivers : Delivers text.bytes (status_of_end text.whole) old new status
      ⊎ Breaks text.bytes text.parts before after old new status
  pub read_to_end : status ≡ ending.Done → IsAtEnd after.rest
  pub files : after.files ≡ before.files
  pub faults : before.faults ≤ after.faults
  pub missing : after.missing ≡ before.missing

-- how the answering of lines ends
abbrev pub status_of_lines : Result (Unit {0}) Stop → Status
status_of_lines (Ok done) = ending.Done
status_of_lines (Err why) = status_of_stop why

abbrev pub AnswersEach : (R : Responder) → R.Known → ReaderValue → InputsTold → InputsTold →
    SinkTold → SinkTold → Result (Unit {0}) Stop → Type 0
AnswersEach R known reader before after old new result =
    AnswersLines R known reader before after old new (status_of_lines result)
