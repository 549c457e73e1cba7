-- The words after the program's name.
use Rattle.std.specs.Prelude.{ℕ, ◌≤◌, List, [], ◌∷◌, ◌++◌, codes, if◌then◌else◌, Option, Some, None}
use Rattle.std.specs.Option.{option_and_then, option_map}
use Rattle.std.specs.Str.{bytes_eq}
use Rattle.page_queries.specs.declared.query.Query.{Query}
use Rattle.page_queries.specs.declared.query.Query.TheVariants.{Paint, Hit, Select}
use Rattle.command_words.specs.Numerals.{coordinate_in, count_in, depth_in, id_in, most_undone, seed_in}
use Rattle.command_words.specs.declared.command.Job.{Job as JobOfWords}
use Rattle.command_words.specs.declared.command.Job.TheVariants.{OverTree as WithTree, Generate}
use Rattle.command_words.specs.declared.command.Request.{Request}
use Rattle.command_words.specs.declared.command.Task.{Task}
use Rattle.command_words.specs.declared.command.Task.TheVariants.{Layout, Edit, Check, Ask, Remember}

-- what is done with a metrics file and a tree file
pub data Work : Type 0 where
  LaysOut : Work
  -- the lines of the script of this name are answered
  Edits : List ℕ → Work
  Checks : Work
  -- this is asked of the page
  Asks : Query → Work
  -- the same as of `Edits`, where so many edits can be undone: depth, script
  Remembers : ℕ → List ℕ → Work

-- what is done with a metrics file
pub data Job : Type 0 where
  -- this, with the tree file of that name
  OverTree : Work → List ℕ → Job
  -- so many edits that are drawn from a seed are made of a tree of its own: seed, count
  Generates : ℕ → ℕ → Job

-- a job, and the metrics file that it is done with
pub record Asked : Type 0 where
  pub job : Job
  pub metrics : List ℕ

-- the depth of a history is 1 to 1,000
abbrev pub IsWorkInLimits : Work → Type 0
IsWorkInLimits LaysOut = Unit {0}
IsWorkInLimits (Edits script) = Unit {0}
IsWorkInLimits Checks = Unit {0}
IsWorkInLimits (Asks query) = Unit {0}
IsWorkInLimits (Remembers depth script) = (1 ≤ depth) × (depth ≤ most_undone)

abbrev pub IsInLimits : Job → Type 0
IsInLimits (OverTree work tree) = IsWorkInLimits work
IsInLimits (Generates seed count) = Unit {0}

-- which element a point lies in
abbrev pub point_of : List ℕ → List ℕ → Option Query
point_of x y = option_and_then (λ a. option_map (λ b. Hit a b) (coordinate_in y)) (coordinate_in x)

-- what is marked from one element to another
abbrev pub ids_of : List ℕ → List ℕ → Option Query
ids_of first second = option_and_then (λ a. option_map (λ b. Select a b) (id_in second))
    (id_in first)

-- what is asked, by the two words behind the two files
abbrev pub query_named : List ℕ → List ℕ → List ℕ → Option Query
query_named word first second =
    if bytes_eq word (codes "hit") then point_of first second
    else if bytes_eq word (codes "select") then ids_of first second
    else None

-- the work that a word names, by the words behind the two files; words are compared exactly
abbrev pub work_named : List ℕ → List (List ℕ) → Option Work
work_named word [] =
    if bytes_eq word (codes "layout") then Some LaysOut
    else if bytes_eq word (codes "check") then Some Checks
    else if bytes_eq word (codes "paint") then Some (Asks Paint)
    else None
work_named word (script ∷ []) =
    if bytes_eq word (codes "edit") then Some (Edits script) else None
work_named word (first ∷ second ∷ []) = option_map Asks (query_named word first second)
work_named word (first ∷ second ∷ third ∷ others) = None

-- the edits of two words, a seed and a count
abbrev pub generation_of : List ℕ → List (List ℕ) → Option Job
generation_of seed (count ∷ []) =
    option_and_then (λ s. option_map (λ n. Generates s n) (count_in count)) (seed_in seed)
generation_of seed others = None

-- the job that a word names, by the words behind the metrics file
abbrev pub job_named : List ℕ → List ℕ → List (List ℕ) → Option Job
job_named word next others =
    if bytes_eq word (codes "gen") then generation_of next others
    else option_map (λ work. OverTree work next) (work_named word others)

-- a script whose edits can be undone: a depth, the metrics file, and then the tree and the script
abbrev pub remembering : List ℕ → List ℕ → List (List ℕ) → Option Asked
remembering depth metrics (tree ∷ script ∷ []) =
    option_map (λ n. record { job = OverTree (Remembers n script) tree; metrics = metrics })
    (depth_in depth)
remembering depth metrics others = None

-- the words are `layout METRICS TREE`, `edit METRICS TREE SCRIPT`, `check METRICS TREE`,
-- `gen METRICS SEED COUNT`, `paint METRICS TREE`, `hit METRICS TREE X Y`,
-- `select METRICS TREE ID ID` or `history DEPTH METRICS TREE SCRIPT`, and nothing else
abbrev pub asked_by : List (List ℕ) → Option Asked
asked_by (command ∷ metrics ∷ next ∷ others) =
    if bytes_eq command (codes "history") then remembering metrics next others
    else
    option_map (λ job. record { job = job; metrics = metrics }) (job_named command next others)
asked_by words = None

abbrev pub work_of : Task → Work
work_of Layout = LaysOut
work_of (Edit script) = Edits script.now
work_of Check = Checks
work_of (Ask query) = Asks query
work_of (Remember depth script) = Remembers depth script.now

abbrev pub job_of : JobOfWords → Job
job_of (WithTree task tree) = OverTree (work_of task) tree.now
job_of (Generate seed count) = Generates seed count

abbrev pub asked_of : Request → Asked
asked_of request = record { job = job_of request.job; metrics = request.metrics.now }

-- the line that words get which are no command
abbrev pub usage_line : List ℕ
usage_line =
    codes "usage: mathlay layout METRICS TREE | edit METRICS TREE SCRIPT | check METRICS TREE"
    ++ codes " | gen METRICS SEED COUNT | paint METRICS TREE | hit METRICS TREE X Y"
    ++ codes " | select METRICS TREE ID ID"
    ++ codes " | history DEPTH METRICS TREE SCRIPT\n"
