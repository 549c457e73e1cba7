-- The session with which work begins, by the bytes of two files, or why there is none.
use Rattle.std.specs.Prelude.{◌≡◌, List, ℕ, if◌then◌else◌, Result, Ok, Err}
use Rattle.font_metrics.specs.Metrics.{MetricsValue}
use Rattle.math_tree.specs.Trees.{TreeValue}
use Rattle.layout_model.specs.Layout.{is_tree_in_range}
use Rattle.edit_session.specs.Counts.{TakesVisits}
use Rattle.edit_session.specs.Session.{SessionValue}
use Rattle.input_files.specs.Files.{metrics_in, tree_in}
use Rattle.input_files.specs.declared.refusal.Refusal.{Refusal}
use Rattle.input_files.specs.declared.refusal.Refusal.TheVariants.{Range}

infixl 10 ◌>>=◌
abbrev pub ◌>>=◌ : {A B : Type 0} → Result A Refusal → (A → Result B Refusal) → Result B Refusal
Ok value >>= next = next value
Err refusal >>= next = Err refusal

-- the session with which work on a tree begins, unless a number of the layout can't be stored
unfoldable pub started : MetricsValue → TreeValue → Result SessionValue Refusal
started metrics tree =
    if is_tree_in_range metrics tree then Ok (record { tree = tree; metrics = metrics })
    else Err Range

-- the session with which work begins, by these metrics and the bytes of a tree file
abbrev pub opened_over : MetricsValue → List ℕ → Result SessionValue Refusal
opened_over metrics tree_bytes = do
  tree ← tree_in tree_bytes
  started metrics tree

-- the same by the bytes of both files
abbrev pub opened : List ℕ → List ℕ → Result SessionValue Refusal
opened metrics_bytes tree_bytes = do
  metrics ← metrics_in metrics_bytes
  opened_over metrics tree_bytes

-- the steps of opening by these metrics: each is a layout that is made for the one of the tree,
-- none twice; where there is no tree, there are none
abbrev pub TakesToStart : MetricsValue → Result TreeValue Refusal → ℕ → ℕ → Type 0
TakesToStart metrics (Ok tree) from to = TakesVisits metrics tree from to
TakesToStart metrics (Err refusal) from to = to ≡ from

-- the same by the metrics of a file; where it has none, no step is taken
abbrev pub TakesToOpen : Result MetricsValue Refusal → Result TreeValue Refusal → ℕ → ℕ → Type 0
TakesToOpen (Ok metrics) tree from to = TakesToStart metrics tree from to
TakesToOpen (Err refusal) tree from to = to ≡ from
