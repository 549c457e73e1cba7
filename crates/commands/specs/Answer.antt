-- What the program answers to a command, where the files are told: the table of its endings.
use Rattle.std.specs.Prelude.{ℕ, List, [], ◌∷◌, ◌++◌, Option, Some, None, Result, Ok, Err, unwrap_or}
use Rattle.doc_io.specs.Causes.{Files}
use Rattle.font_metrics.specs.Metrics.{MetricsValue}
use Rattle.metrics_file.specs.Print.{print_of as metrics_print}
use Rattle.tree_json.specs.Print.{print_of as tree_print}
use Rattle.math_tree.specs.Trees.{TreeValue}
use Rattle.box_writer.specs.Lines.{text_of}
use Rattle.line_replies.specs.Sessions.{SessionValue, page}
use Rattle.generator.specs.Generated.{generated}
use Rattle.seeded_edits.specs.Start.{start_tree}
use Rattle.seeded_edits.specs.Summary.{lines_of as lines_of_summary}
use Rattle.queries.specs.Queries.{answer_to}
use Rattle.page_queries.specs.declared.query.Query.{Query}
use Rattle.page_queries.specs.declared.query.QueryRefusal.{QueryRefusal}
use Rattle.command_words.specs.Command.{Asked, Job, OverTree, Generates, Work, LaysOut, Edits, Checks, Asks, usage_line, Remembers}
use Rattle.input_files.specs.Files.{metrics_in, tree_in}
use Rattle.line_replies.specs.Opening.{◌>>=◌, started}
use Rattle.line_replies.specs.Replies.{by_session}
use Rattle.input_files.specs.Refusals.{line_of, of_query, status_of}
use Rattle.script_answers.specs.Responders.{Responder}
use Rattle.line_replies.specs.HistorySteps.{by_history, kept_at_first}
use Rattle.input_files.specs.declared.status.Status.{Status}
use Rattle.input_files.specs.declared.status.Status.TheVariants.{Usage}
use Rattle.input_files.specs.declared.refusal.Refusal.{Refusal}
use Rattle.script_answers.specs.Texts.{Text, answers_to, status_of_end, whole_text}

-- a file that isn't there counts as empty
abbrev pub content : Files → List ℕ → List ℕ
content files name = unwrap_or (files name) []

-- ---- the answer

-- the lines of the boxes and marks of the tree, whose baseline begins at (0, 0)
abbrev pub lines_of_page : SessionValue → List ℕ
lines_of_page session = text_of session.metrics (page session)

-- the canonical print of both files, and a line feed
abbrev pub checked : MetricsValue → TreeValue → List ℕ
checked metrics tree = metrics_print metrics ++ tree_print tree ++ 10 ∷ []

-- the lines of the boxes and marks
abbrev pub laid_out : MetricsValue → TreeValue → Result Text Refusal
laid_out metrics tree = do
  session ← started metrics tree
  Ok (whole_text (lines_of_page session))

-- what is answered to a query, or why nothing is
abbrev pub of_answer : Result (List ℕ) QueryRefusal → Result Text Refusal
of_answer (Ok bytes) = Ok (whole_text bytes)
of_answer (Err refusal) = Err (of_query refusal)

abbrev pub answered : Query → SessionValue → Result Text Refusal
answered query session = of_answer (answer_to query session)

-- what is answered of the page of the tree
abbrev pub asked_of_page : Query → MetricsValue → TreeValue → Result Text Refusal
asked_of_page query metrics tree = do
  session ← started metrics tree
  answered query session

-- the replies to a script of that name
abbrev pub scripted : (R : Responder) → List ℕ → R.Known → Files → Result Text Refusal
scripted R name known files = Ok (answers_to R known (content files name))

-- what is made of metrics and a tree
unfoldable pub done : Work → MetricsValue → TreeValue → Files → Result Text Refusal
done LaysOut metrics tree files = laid_out metrics tree
done (Edits script) metrics tree files = do
  session ← started metrics tree
  scripted by_session script session files
done Checks metrics tree files = Ok (whole_text (checked metrics tree))
done (Asks query) metrics tree files = asked_of_page query metrics tree
done (Remembers depth script) metrics tree files = do
  session ← started metrics tree
  scripted by_history script (kept_at_first depth session) files

-- what is made of these metrics and a tree file, or the first refusal
unfoldable pub answer_over : Work → MetricsValue → List ℕ → Files → Result Text Refusal
answer_over work metrics name files = do
  tree ← tree_in (content files name)
  done work metrics tree files

-- what is told of so many edits from a seed, in six lines
abbrev pub told_of_edits : MetricsValue → ℕ → ℕ → List ℕ
told_of_edits metrics seed count = lines_of_summary (generated metrics seed count)

-- the same, unless a number of the layout of the tree that they begin with can't be stored
abbrev pub generates : MetricsValue → ℕ → ℕ → Result Text Refusal
generates metrics seed count = do
  session ← started metrics start_tree
  Ok (whole_text (told_of_edits session.metrics seed count))

-- what is made of these metrics, or the first refusal
unfoldable pub answer_with : Job → MetricsValue → Files → Result Text Refusal
answer_with (OverTree work tree) metrics files = answer_over work metrics tree files
answer_with (Generates seed count) metrics files = generates metrics seed count

-- the text that is asked for, or the first refusal
unfoldable pub answer : Asked → Files → Result Text Refusal
answer asked files = do
  metrics ← metrics_in (content files asked.metrics)
  answer_with asked.job metrics files

-- the parts in which an answer is written; the line of a refusal is written at once
abbrev pub parts_of : Result Text Refusal → List (List ℕ)
parts_of (Ok text) = text.parts
parts_of (Err refusal) = []

-- those of the answer to what is asked for
abbrev pub parts_asked : Option Asked → Files → List (List ℕ)
parts_asked None files = []
parts_asked (Some asked) files = parts_of (answer asked files)

-- ---- what is written, and the status

pub record Output : Type 0 where
  pub bytes : List ℕ
  pub status : Status

abbrev pub output_of_text : Text → Output
output_of_text text = record { bytes = text.bytes; status = status_of_end text.whole }

abbrev pub output_of : Result Text Refusal → Output
output_of (Ok text) = output_of_text text
output_of (Err refusal) = record { bytes = line_of refusal; status = status_of refusal }

-- the bytes and the status of a command over these files, and of words that are none
abbrev pub output : Option Asked → Files → Output
output None files = record { bytes = usage_line; status = Usage }
output (Some asked) files = output_of (answer asked files)
