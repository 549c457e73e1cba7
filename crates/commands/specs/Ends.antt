-- How a run ends, and why.
use Rattle.std.specs.Prelude.{◌≡◌, ◌⊎◌, ℕ, ◌≤◌, List, take, Option, Some, None, IsNone, IfSome, IsSomeAnd, Result, IsOk, IsErrOf}
use Rattle.std.specs.List.{concat}
use Rattle.std.specs.Io.KnownBytes.{Appends, IsAtEnd, Keeps}
use Rattle.doc_io.specs.Causes.{Files, InputsTold, Rose, SinkTold}
use Rattle.line_replies.specs.Sessions.{SessionValue}
use Rattle.command_words.specs.Command.{Asked, Job, OverTree, Generates, Work, LaysOut, Edits, Checks, Asks, usage_line, Remembers}
use Rattle.script_answers.specs.Texts.{Text}
use Rattle.commands.specs.Answer.{content, output, output_of, parts_asked, parts_of}
use Rattle.input_files.specs.Files.{GivesOr, metrics_in, tree_in}
use Rattle.line_replies.specs.Opening.{◌>>=◌, started}
use Rattle.input_files.specs.Status.{EndsBeforeTree, EndsUnlaid}
use Rattle.input_files.specs.declared.status.Status.{Status}
use Rattle.input_files.specs.declared.status.Status.TheVariants.{Done, Usage, ReadFault, WriteFault, Memory}
use Rattle.input_files.specs.declared.refusal.Refusal.{Refusal}
use Rattle.input_files.specs.declared.refusal.Refusal.TheVariants as refusal
use Rattle.script_answers.specs.Delivering.{Breaks, Delivers}

-- ---- which files are reached

-- the session with which work on a tree file begins, by the names of the first two files
abbrev pub start_of : List ℕ → List ℕ → Files → Result SessionValue Refusal
start_of metrics_file tree_file files = do
  metrics ← metrics_in (content files metrics_file)
  tree ← tree_in (content files tree_file)
  started metrics tree

-- the work is done with a script of this name
abbrev pub IsScript : Work → List ℕ → Type 0
IsScript LaysOut name = ⊥
IsScript (Edits script) name = name ≡ script
IsScript Checks name = ⊥
IsScript (Asks query) name = ⊥
IsScript (Remembers depth script) name = name ≡ script

-- behind a metrics file of that name: the tree file where that one gives metrics, and the script
-- where both give a session; edits from a seed need no file more
abbrev pub IsReachedNext : Job → List ℕ → Files → List ℕ → Type 0
IsReachedNext (OverTree work tree) metrics files name =
    ((name ≡ tree) × IsOk (metrics_in (content files metrics)))
    ⊎ (IsScript work name × IsOk (start_of metrics tree files))
IsReachedNext (Generates seed count) metrics files name = ⊥

-- the metrics file always, and what comes behind it
abbrev pub IsReached : Option Asked → Files → List ℕ → Type 0
IsReached None files name = ⊥
IsReached (Some asked) files name =
    (name ≡ asked.metrics) ⊎ IsReachedNext asked.job asked.metrics files name

-- a reached file isn't there
abbrev pub LacksFile : Option Asked → Files → Type 0
LacksFile asked files = (name : List ℕ) × IsReached asked files name × (files name ≡ None)

-- ---- causes

-- a count of faults rose; or a file that is needed isn't there; or the inputs don't tell their
-- files and the count of missing ones rose
abbrev pub HasReadCause : (Files → Type 0) → InputsTold → InputsTold → Type 0
HasReadCause lacks before after =
    Rose before.faults after.faults
    ⊎ (IsSomeAnd before.files lacks ⊎ (IsNone before.files × Rose before.missing after.missing))

-- ---- the answer of a part

-- a read failed, or memory was refused
abbrev pub IsCut : {V : Type 0} → Result V Refusal → Type 0
IsCut result = IsErrOf result refusal.ReadFault ⊎ IsErrOf result refusal.Memory

-- the wanted answer, or the reason why it was cut short
pub record Answers {V : Type 0} (wanted : Option (Result V Refusal)) (lacks : Files → Type 0)
    (before after : InputsTold) (result : Result V Refusal) : Type 0 where
  pub answer : IfSome wanted (λ answer. IsCut result ⊎ (result ≡ answer))
  pub fault : IsErrOf result refusal.ReadFault → HasReadCause lacks before after
  pub lacking : IsSomeAnd before.files lacks → IsCut result
  pub files : after.files ≡ before.files
  pub faults : before.faults ≤ after.faults
  pub missing : before.missing ≤ after.missing

-- only the replies to a script are written while there is more to do
abbrev pub IsInParts : Work → Type 0
IsInParts LaysOut = ⊥
IsInParts (Edits script) = Unit {0}
IsInParts Checks = ⊥
IsInParts (Asks query) = ⊥
IsInParts (Remembers depth script) = Unit {0}

abbrev pub IsJobInParts : Job → Type 0
IsJobInParts (OverTree work tree) = IsInParts work
IsJobInParts (Generates seed count) = ⊥

-- the answer was delivered, or what is written in parts was cut short on the way
abbrev pub IsDelivered : Type 0 → Result Text Refusal → InputsTold → InputsTold → SinkTold →
    SinkTold → Status → Type 0
IsDelivered parts result before after old new status =
    Delivers (output_of result).bytes (output_of result).status old new status
    ⊎ (parts × Breaks (output_of result).bytes (parts_of result) before after old new status)

-- the wanted answer, or want of memory, was delivered
pub record Written (wanted : Result Text Refusal) (old new : SinkTold)
    (status : Status) : Type 0 where
  pub result : Result Text Refusal
  pub gives : GivesOr wanted result
  pub delivers : Delivers (output_of result).bytes (output_of result).status old new status

-- the wanted answer, or the reason why it was cut short, was delivered, in parts where it may be
pub record AnsweredJob (parts : Type 0) (wanted : Option (Result Text Refusal))
    (lacks : Files → Type 0) (before after : InputsTold) (old new : SinkTold)
    (status : Status) : Type 0 where
  pub result : Result Text Refusal
  pub answers : Answers wanted lacks before after result
  pub delivers : IsDelivered parts result before after old new status
  -- what was answered line by line was read to its end
  pub read_to_end : status ≡ Done → parts → IsAtEnd after.rest

-- the same of work on a tree
abbrev pub Answered : Work → Option (Result Text Refusal) → (Files → Type 0)
    → InputsTold → InputsTold → SinkTold → SinkTold → Status → Type 0
Answered work wanted lacks before after old new status =
    AnsweredJob (IsInParts work) wanted lacks before after old new status

-- ---- the ending of a run

-- the words ask for what is written in parts
abbrev pub AsksParts : Option Asked → Type 0
AsksParts None = ⊥
AsksParts (Some asked) = IsJobInParts asked.job

abbrev pub IsCutShort : Status → Type 0
IsCutShort status = (status ≡ ReadFault) ⊎ ((status ≡ WriteFault) ⊎ (status ≡ Memory))

-- how a run ends that was asked for this, or whose words are no command
pub record Ends (asked : Option Asked) (before after : InputsTold) (old new : SinkTold)
    (status : Status) : Type 0 where
  -- the output's status with its bytes written, or one of the three endings that cut a run short
  pub outcome : IfSome before.files (λ files.
      IsCutShort status
      ⊎ ((status ≡ (output asked files).status)
      × Appends old.written new.written (output asked files).bytes))
  -- what was written is a front of the output, at every ending
  pub front : IfSome before.files (λ files.
      (n : ℕ) × Appends old.written new.written (take n (output asked files).bytes))
  pub read_fault : status ≡ ReadFault → HasReadCause (LacksFile asked) before after
  pub write_fault : status ≡ WriteFault → Rose old.faults new.faults
  -- where a reached file isn't there nothing is written
  pub lacking : IsSomeAnd before.files (LacksFile asked) →
      ((status ≡ ReadFault) ⊎ (status ≡ Memory)) × Keeps old.written new.written
  -- a failed read writes nothing, and nor does want of memory, but for the replies before it
  pub unread_cut : status ≡ ReadFault → ¬ AsksParts asked → Keeps old.written new.written
  pub memory_cut : status ≡ Memory → ¬ AsksParts asked → Keeps old.written new.written
  -- neither cuts a reply: what was written is the replies to the first lines of the script, and
  -- nothing of what is written at once
  pub between : (status ≡ ReadFault) ⊎ (status ≡ Memory) → IfSome before.files (λ files.
      (n : ℕ) × Appends old.written new.written (concat (take n (parts_asked asked files))))
  -- where every reached file is there and no count rose, only want of memory stands between
  pub complete : IfSome before.files (λ files.
      ¬ LacksFile asked files → ¬ Rose before.faults after.faults → ¬ Rose old.faults new.faults →
      (status ≡ (output asked files).status) ⊎ (status ≡ Memory))
  -- a script whose lines were all answered was read to its end: of the file that was selected last,
  -- no byte is left, where the inputs tell what is left
  pub read_to_end : status ≡ Done → AsksParts asked → IsAtEnd after.rest
  -- words that are no command get the usage line, and no others get its status, whatever the
  -- inputs tell
  pub usage : status ≡ Usage → asked ≡ None
  pub no_command : asked ≡ None →
      ((status ≡ Usage) × Appends old.written new.written usage_line) ⊎ (status ≡ WriteFault)
  -- they reach no file
  pub unread : asked ≡ None → after ≡ before
  -- no file is changed, and no count falls
  pub files : after.files ≡ before.files
  pub faults : before.faults ≤ after.faults
  pub missing : before.missing ≤ after.missing
  pub write_faults : old.faults ≤ new.faults

-- ---- steps

-- work that lays out no tree, or that ended before; the read of a script comes behind it
abbrev pub StepsStand : Work → Status → Type 0
StepsStand LaysOut status = EndsUnlaid status
StepsStand (Edits script) status = EndsBeforeTree status
StepsStand Checks status = Unit {0}
StepsStand (Asks query) status = EndsUnlaid status
StepsStand (Remembers depth script) status = EndsBeforeTree status

abbrev pub JobStepsStand : Job → Status → Type 0
JobStepsStand (OverTree work tree) status = StepsStand work status
JobStepsStand (Generates seed count) status = EndsUnlaid status

-- a run that lays out no tree takes no steps
abbrev pub TakesNoSteps : Option Asked → Status → Type 0
TakesNoSteps None status = Unit {0}
TakesNoSteps (Some asked) status = JobStepsStand asked.job status
