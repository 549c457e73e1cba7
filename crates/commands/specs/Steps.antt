-- How many steps a run takes: those of the first layout, and those of each line of a script.
use Rattle.std.specs.Prelude.{◌≡◌, ◌⊎◌, ℕ, List, Option, Some, None, IfSome, Result, Ok, Err}
use Rattle.std.specs.Option.{option_map}
use Rattle.doc_io.specs.Causes.{Files}
use Rattle.doc_io.specs.LineReader.{lines_of, most_lines}
use Rattle.font_metrics.specs.Metrics.{MetricsValue}
use Rattle.math_tree.specs.Trees.{TreeValue}
use Rattle.line_replies.specs.Sessions.{SessionValue, TakesVisits}
use Rattle.generator.specs.Steps.{TakesForRun as TakesForGenerated}
use Rattle.command_words.specs.Command.{Asked, Job, OverTree, Generates, Work, LaysOut, Edits, Checks, Asks, Remembers}
use Rattle.line_replies.specs.EditSteps.{TakesForLine}
use Rattle.line_replies.specs.HistorySteps.{TakesForKept, by_history, kept_at_first}
use Rattle.script_answers.specs.Script.{within}
use Rattle.script_answers.specs.Responders.{LineSteps, Responder}
use Rattle.line_replies.specs.Replies.{by_session}
use Rattle.commands.specs.Answer.{content}
use Rattle.input_files.specs.Files.{metrics_in, tree_in}
use Rattle.line_replies.specs.Opening.{started}
use Rattle.input_files.specs.declared.refusal.Refusal.{Refusal}
use Rattle.script_answers.specs.Steps.{TakesForScript}

-- the lines within their limits of a file, where the files are told
abbrev pub script_lines : List ℕ → Option Files → Option (List (List ℕ))
script_lines name files =
    option_map (λ files. within most_lines (lines_of (content files name))) files

-- ---- a run

-- the steps behind the first layout: none, where that is refused; `first` is what is known then
abbrev pub TakesBehindStart : (R : Responder) → LineSteps R → (SessionValue → R.Known) →
    Result SessionValue Refusal → Option (List (List ℕ)) → ℕ → ℕ → Type 0
TakesBehindStart R Takes first (Ok session) script from to =
    TakesForScript R Takes (first session) script from to
TakesBehindStart R Takes first (Err refusal) script from to = to ≡ from

-- the steps of a tree and a script: layouts that the tree needs, none twice, and then those of
-- lines
pub record TakesForEdits (R : Responder) (Takes : LineSteps R) (first : SessionValue → R.Known)
    (metrics : MetricsValue) (tree : TreeValue) (script : Option (List (List ℕ)))
    (from to : ℕ) : Type 0 where
  pub laid : ℕ
  pub start : TakesVisits metrics tree from laid
  pub lines : TakesBehindStart R Takes first (started metrics tree) script laid to

-- the steps of work on a tree
abbrev pub TakesForWork : Work → MetricsValue → TreeValue → Option Files → ℕ → ℕ → Type 0
TakesForWork LaysOut metrics tree files from to = TakesVisits metrics tree from to
TakesForWork (Edits script) metrics tree files from to =
    TakesForEdits by_session TakesForLine (λ session. session) metrics tree
    (script_lines script files) from to
TakesForWork Checks metrics tree files from to = to ≡ from
TakesForWork (Asks query) metrics tree files from to = TakesVisits metrics tree from to
TakesForWork (Remembers depth script) metrics tree files from to =
    TakesForEdits by_history TakesForKept (kept_at_first depth) metrics tree
    (script_lines script files) from to

-- the tree that was read, which is that of its file where the files are told, and the steps of the
-- work on it
pub record TakesForTree (work : Work) (metrics : MetricsValue) (name : List ℕ)
    (files : Option Files) (from to : ℕ) : Type 0 where
  pub tree : TreeValue
  pub is : IfSome files (λ files. tree_in (content files name) ≡ Ok tree)
  pub steps : TakesForWork work metrics tree files from to

-- no step, where no tree was read
abbrev pub TakesOverMetrics : Work → MetricsValue → List ℕ → Option Files → ℕ → ℕ → Type 0
TakesOverMetrics work metrics name files from to =
    (to ≡ from) ⊎ TakesForTree work metrics name files from to

-- the steps of a job over metrics: of the work on a tree file, or of generated edits
abbrev pub TakesForJob : Job → MetricsValue → Option Files → ℕ → ℕ → Type 0
TakesForJob (OverTree work tree) metrics files from to =
    TakesOverMetrics work metrics tree files from to
TakesForJob (Generates seed count) metrics files from to =
    TakesForGenerated metrics seed count from to

-- the metrics that were read, which are those of their file where the files are told, and the steps
-- over them
pub record TakesForMetrics (asked : Asked) (files : Option Files) (from to : ℕ) : Type 0 where
  pub metrics : MetricsValue
  pub is : IfSome files (λ files. metrics_in (content files asked.metrics) ≡ Ok metrics)
  pub steps : TakesForJob asked.job metrics files from to

-- the steps of a run: none for words that are no command, nor where no metrics were read
abbrev pub TakesForRun : Option Asked → Option Files → ℕ → ℕ → Type 0
TakesForRun None files from to = to ≡ from
TakesForRun (Some asked) files from to = (to ≡ from) ⊎ TakesForMetrics asked files from to
