-- What becomes of the parts of a run.
use Rattle.std.specs.Prelude.{◌≡◌, ◌⊎◌, ℕ, ◌≤◌, List, [], None, IfSome, IsSome, Result, Ok, IsOk, IfOk, OnOk, OnErr, IsErrOf}
use Rattle.doc_io.specs.Causes.{Files, InputsTold}
use Rattle.doc_io.specs.LineReader.{ReaderValue}
use Rattle.font_metrics.specs.Metrics.{MetricsValue}
use Rattle.math_tree.specs.Trees.{TreeValue}
use Rattle.commands.specs.Answer.{content}
use Rattle.input_files.specs.Files.{tree_in}
use Rattle.line_replies.specs.Opening.{started}
use Rattle.command_words.specs.Command.{Job, OverTree, Generates, Work, LaysOut, Edits, Checks, Asks, Remembers}
use Rattle.commands.specs.Ends.{HasReadCause, IsCut}
use Rattle.input_files.specs.declared.refusal.Refusal.{Refusal}
use Rattle.input_files.specs.declared.refusal.Refusal.TheVariants.{ReadFault}

-- ---- files that aren't there

-- a script that is read isn't there
abbrev pub LacksScript : Work → MetricsValue → TreeValue → Files → Type 0
LacksScript LaysOut metrics tree files = ⊥
LacksScript (Edits script) metrics tree files =
    IsOk (started metrics tree) × (files script ≡ None)
LacksScript Checks metrics tree files = ⊥
LacksScript (Asks query) metrics tree files = ⊥
LacksScript (Remembers depth script) metrics tree files =
    IsOk (started metrics tree) × (files script ≡ None)

-- the tree file isn't there, or a script that is read
abbrev pub LacksTree : Work → MetricsValue → List ℕ → Files → Type 0
LacksTree work metrics name files =
    (files name ≡ None)
    ⊎ ((tree : TreeValue) × (tree_in (content files name) ≡ Ok tree)
    × LacksScript work metrics tree files)

-- a file that is needed behind the metrics isn't there
abbrev pub LacksNext : Job → MetricsValue → Files → Type 0
LacksNext (OverTree work tree) metrics files = LacksTree work metrics tree files
LacksNext (Generates seed count) metrics files = ⊥

-- ---- a script that is opened

-- the script is selected, or the call failed for a cause
pub record SelectsScript {V : Type 0} (before after : InputsTold) (name : List ℕ)
    (result : Result V Refusal) : Type 0 where
  pub files : after.files ≡ before.files
  pub faults : before.faults ≤ after.faults
  pub missing : before.missing ≤ after.missing
  pub found : OnOk result (IfSome before.files (λ f. IsSome (f name) × (after.rest ≡ f name)))
  pub cut : OnErr result (IsCut result)
  pub fault : IsErrOf result ReadFault → HasReadCause (λ f. f name ≡ None) before after

-- and no line of it was given yet
pub record OpensScript (before after : InputsTold) (name : List ℕ)
    (result : Result ReaderValue Refusal) : Type 0 where
  pub selects : SelectsScript before after name result
  pub fresh : IfOk result (λ reader. reader ≡ record { held = []; line = []; given = 0 })
