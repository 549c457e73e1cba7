-- How a text is written, whole or cut short.
use Rattle.std.specs.Prelude.{◌≡◌, ◌⊎◌, ℕ, ◌≤◌, List, [], take}
use Rattle.std.specs.List.{concat}
use Rattle.std.specs.Io.KnownBytes.{Appends, Keeps}
use Rattle.doc_io.specs.Causes.{InputsTold, Rose, SinkTold}
use Rattle.input_files.specs.declared.status.Status.{Status}
use Rattle.input_files.specs.declared.status.Status.TheVariants.{ReadFault, WriteFault, Memory}

-- the text was written and the status is the wanted one, or a write failed
pub record Delivers (text : List ℕ) (wanted : Status) (old new : SinkTold)
    (status : Status) : Type 0 where
  pub whole : (status ≡ WriteFault) ⊎ ((status ≡ wanted) × Appends old.written new.written text)
  pub front : (n : ℕ) × Appends old.written new.written (take n text)
  pub fault : status ≡ WriteFault → Rose old.faults new.faults
  pub later : old.faults ≤ new.faults
  pub silent : text ≡ [] → (status ≡ wanted) × Keeps old.written new.written

-- a read failed or memory was refused on the way, and a front of the text was written
pub record Breaks (text : List ℕ) (parts : List (List ℕ)) (before after : InputsTold)
    (old new : SinkTold) (status : Status) : Type 0 where
  pub cause : (status ≡ Memory) ⊎ ((status ≡ ReadFault) × Rose before.faults after.faults)
  pub front : (n : ℕ) × Appends old.written new.written (take n text)
  -- between two parts
  pub between : (n : ℕ) × Appends old.written new.written (concat (take n parts))
  pub later : old.faults ≤ new.faults
