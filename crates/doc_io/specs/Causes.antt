-- What inputs and sinks tell, what their calls do to it, and when a call may fail.
use Rattle.std.specs.Prelude.{◌≡◌, ℕ, ◌+◌, ◌-◌, ◌<◌, ◌≤◌, ◌^◌, ◌⊎◌, min, List, length, Result, Option, None, IfSome, IfOk, OnOk, OnErr, IsSome, IsErr}
use Rattle.std.specs.Io.{ReadsAtMost}
use Rattle.std.specs.Io.KnownBytes.{IsAtEnd, ReadConsumes, WriteAppends}

-- files by name
abbrev pub Files : Type 0
Files = List ℕ → Option (List ℕ)

-- what inputs tell at a moment
pub record InputsTold : Type 0 where
  -- the files by name, and what is left of the selected one, where they are told
  pub files : Option Files
  pub rest : Option (List ℕ)
  -- how often a call failed by a fault, and how often a name was selected that no file has
  pub faults : ℕ
  pub missing : ℕ

-- what a sink tells at a moment
pub record SinkTold : Type 0 where
  -- the bytes written so far, where they are told
  pub written : Option (List ℕ)
  -- how often a call failed
  pub faults : ℕ

-- a count after one more; it stops at its last value
abbrev pub raised : ℕ → ℕ
raised count = min (count + 1) (2 ^ 64 - 1)

-- a count has risen, or stands at its last value
abbrev pub Rose : ℕ → ℕ → Type 0
Rose before now = raised before ≤ now

-- the file of the name is selected, or the call failed for a cause and no file is
pub record Selects {E : Type 0} (before after : InputsTold) (name : List ℕ)
    (result : Result (Unit {0}) E) : Type 0 where
  pub files : after.files ≡ before.files
  pub faults : before.faults ≤ after.faults
  pub missing : before.missing ≤ after.missing
  pub found : OnOk result (IfSome before.files (λ f. IsSome (f name) × (after.rest ≡ f name)))
  pub unselected : OnErr result (IsAtEnd after.rest)
  pub told : IsSome before.files → IsSome after.rest
  pub absent : IfSome before.files (λ f. f name ≡ None →
      IsErr result × Rose before.missing after.missing × (after.faults ≡ before.faults))
  pub present : IfSome before.files (λ f. IsSome (f name) → after.missing ≡ before.missing)
  pub failed : OnErr result (Rose before.faults after.faults
      ⊎ (Rose before.missing after.missing × IfSome before.files (λ f. f name ≡ None)))

-- so many bytes of what is left went into the slice, or the call failed for a cause
pub record Reads {E : Type 0} (before after : InputsTold) (into : List ℕ)
    (result : Result ℕ E) : Type 0 where
  pub files : after.files ≡ before.files
  pub faults : before.faults ≤ after.faults
  pub missing : after.missing ≡ before.missing
  pub bound : ReadsAtMost result into
  pub bytes : ReadConsumes before.rest after.rest result into
  pub failed : OnErr result (Rose before.faults after.faults)

-- so many bytes of the piece were appended, or the call failed for a cause
pub record Writes {E : Type 0} (before after : SinkTold) (piece : List ℕ)
    (result : Result ℕ E) : Type 0 where
  pub faults : before.faults ≤ after.faults
  pub bound : IfOk result (λ n. n ≤ length piece)
  pub progress : IfOk result (λ n. 0 < n)
  pub bytes : WriteAppends before.written after.written result piece
  pub failed : OnErr result (Rose before.faults after.faults)
