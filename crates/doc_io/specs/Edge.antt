-- What is known of the system's files and of standard output: the counts, and no content but what
-- the system's own readers and writers tell.
use Rattle.std.specs.Prelude.{◌≡◌, ◌≢◌, ℕ, ◌≤◌, ◌⊎◌, Bool, true, false, List, [], Result, Ok, Option, Some, None, IfOk, IfErr, IsOk, IsErr, MatchResult, OnErr, is_ok}
use Rattle.std.specs.IoError.{error_kind}
use Rattle.std.specs.declared.io.Error.{Error}
use Rattle.std.specs.declared.io.ErrorKind.TheVariants.{NotFound}
use Rattle.doc_io.specs.Causes.{InputsTold, raised}

pub record FileState : Type 0 where
  -- whether a file is selected, and what its reader tells of what is left: of a real file, nothing
  pub selected : Bool
  pub left : Option (List ℕ)
  -- the counts
  pub faults : ℕ
  pub missing : ℕ

-- what they tell as inputs: no file by its name
abbrev pub told_of : FileState → InputsTold
told_of state =
    record { files = None; rest = state.left; faults = state.faults; missing = state.missing }

-- what the reader of the selected file tells; with no file selected nothing is left
abbrev pub told_by : {F : Type 0} → (F → Option (List ℕ)) → Option F → Option (List ℕ)
told_by remaining None = Some []
told_by remaining (Some file) = remaining file

abbrev pub unselected : FileState → FileState
unselected state = record state { selected = false; left = Some [] }

-- no file is selected, and the name counts as missing
abbrev pub Misses : FileState → FileState → Type 0
Misses old new = new ≡ record (unselected old) { missing = raised old.missing }

-- no file is selected, and a fault is counted
abbrev pub Faults : FileState → FileState → Type 0
Faults old new = new ≡ record (unselected old) { faults = raised old.faults }

-- what the system answered to an opening: a file, which is selected from then on; or an error, by
-- which a name is missing where the system didn't find it, and which is a fault at any other kind
pub record Opens {F E : Type 0} (remaining : F → Option (List ℕ)) (old new : FileState)
    (answer : Result F Error) (result : Result (Unit {0}) E) : Type 0 where
  pub opened : IfOk answer (λ file.
      IsOk result × (new ≡ record old { selected = true; left = remaining file }))
  pub not_opened : OnErr answer (IsErr result × (Misses old new ⊎ Faults old new))
  pub missing : IfErr answer (λ error. error_kind error ≡ NotFound → Misses old new)
  pub fault : IfErr answer (λ error. error_kind error ≢ NotFound → Faults old new)
  -- no count falls
  pub faults : old.faults ≤ new.faults
  pub missings : old.missing ≤ new.missing

-- one count rose by one, and the other stayed
abbrev pub RaisesOne : FileState → FileState → Type 0
RaisesOne old new =
    ((new.faults ≡ raised old.faults) × (new.missing ≡ old.missing))
    ⊎ ((new.faults ≡ old.faults) × (new.missing ≡ raised old.missing))

-- a file is selected, or none is and one count rose by one
pub record SelectsFile {E : Type 0} (old new : FileState)
    (result : Result (Unit {0}) E) : Type 0 where
  pub selected : new.selected ≡ is_ok result
  pub unselected : OnErr result (new.left ≡ Some [])
  pub counts : MatchResult result
      (λ _. (new.faults ≡ old.faults) × (new.missing ≡ old.missing))
      (λ _. RaisesOne old new)

-- with no file selected the end is told; a failed read raises the faults by one
pub record ReadsFile {E : Type 0} (old new : FileState) (result : Result ℕ E) : Type 0 where
  pub unselected : old.selected ≡ false → result ≡ Ok 0
  pub selected : new.selected ≡ old.selected
  pub faults : MatchResult result
      (λ _. new.faults ≡ old.faults)
      (λ _. new.faults ≡ raised old.faults)
  pub missing : new.missing ≡ old.missing
