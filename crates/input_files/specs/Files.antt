-- The metrics and the tree that two files' bytes hold, or why there is none.
use Rattle.std.specs.Prelude.{◌≡◌, ◌⊎◌, ℕ, List, length, nat_lt, if◌then◌else◌, Option, Some, None, Result, Ok, Err, IsErrOf}
use Rattle.serde_json.specs.Data.{Data}
use Rattle.font_metrics.specs.Metrics.{MetricsValue}
use Rattle.metrics_file.specs.Reading.{Fault, metrics_of, most_file_bytes}
use Rattle.metrics_file.specs.Reads.{told}
use Rattle.tree_json.specs.Reading.{tree_of}
use Rattle.math_tree.specs.Trees.{TreeValue}
use Rattle.tree_json.specs.declared.fault.TreeFault.{TreeFault}
use Rattle.tree_edits.specs.Commands.{json_in}
use Rattle.input_files.specs.declared.refusal.Refusal.{Refusal}
use Rattle.input_files.specs.declared.refusal.Refusal.TheVariants.{MetricsLong, Metrics, TreeLong, TreeJson, Tree, Memory}

-- the most bytes that a tree file may have: 4 MiB
abbrev pub tree_limit : ℕ
tree_limit = 4194304

-- the metrics, or their first fault as it is told
abbrev pub of_metrics_file : Result MetricsValue Fault → Result MetricsValue Refusal
of_metrics_file (Ok metrics) = Ok metrics
of_metrics_file (Err fault) = Err (Metrics (told fault))

-- the metrics of a file's bytes
unfoldable pub metrics_in : List ℕ → Result MetricsValue Refusal
metrics_in bytes =
    if nat_lt most_file_bytes (length bytes) then Err MetricsLong
    else of_metrics_file (metrics_of bytes)

-- the tree, or its first fault
abbrev pub of_tree_file : Result TreeValue TreeFault → Result TreeValue Refusal
of_tree_file (Ok tree) = Ok tree
of_tree_file (Err fault) = Err (Tree fault)

abbrev pub tree_of_json : Option Data → Result TreeValue Refusal
tree_of_json None = Err TreeJson
tree_of_json (Some value) = of_tree_file (tree_of value)

-- the tree of a file's bytes
unfoldable pub tree_in : List ℕ → Result TreeValue Refusal
tree_in bytes =
    if nat_lt tree_limit (length bytes) then Err TreeLong
    else tree_of_json (json_in bytes)

-- the wanted answer, or want of memory
abbrev pub GivesOr : {V : Type 0} → Result V Refusal → Result V Refusal → Type 0
GivesOr wanted result = IsErrOf result Memory ⊎ (result ≡ wanted)
