-- What reading a whole file, and writing a whole piece, gives.
use Rattle.std.specs.Prelude.{◌≡◌, ℕ, ◌<◌, ◌≤◌, ◌⊎◌, List, [], ◌++◌, length, take, drop, Result, Option, Some, None, IfSome, IfOk, OnOk, OnErr, IsOk, IsSome, IsErr, IsErrOf}
use Rattle.std.specs.Io.KnownBytes.{Appends, Consumes, IsAtEnd}
use Rattle.doc_io.specs.Causes.{InputsTold, SinkTold, Rose}
use Rattle.doc_io.specs.declared.whole.ReadRefusal.{ReadRefusal}
use Rattle.doc_io.specs.declared.whole.ReadRefusal.TheVariants.{ReadFault, TooLong}

-- the whole file, or why not
pub record ReadsAll (before after : InputsTold) (name : List ℕ) (limit : ℕ)
    (result : Result (List ℕ) ReadRefusal) : Type 0 where
  pub files : after.files ≡ before.files
  pub faults : before.faults ≤ after.faults
  pub missing : before.missing ≤ after.missing
  pub whole : IfOk result (λ bytes. IfSome before.files (λ f. f name ≡ Some bytes))
  pub short : IfOk result (λ bytes. length bytes ≤ limit)
  pub end : OnOk result (IsAtEnd after.rest)
  pub long : IsErrOf result TooLong →
      IfSome before.files (λ f. (bytes : List ℕ) × (f name ≡ Some bytes) × (limit < length bytes))
  pub only_short : IfSome before.files (λ f. (bytes : List ℕ) →
      f name ≡ Some bytes → limit < length bytes → IsErr result)
  pub fault : IsErrOf result ReadFault →
      Rose before.faults after.faults
      ⊎ (Rose before.missing after.missing × IfSome before.files (λ f. f name ≡ None))
  pub absent : IfSome before.files (λ f. f name ≡ None →
      IsErrOf result ReadFault × Rose before.missing after.missing
      × (after.faults ≡ before.faults))
  pub present : IfSome before.files (λ f. IsSome (f name) → after.missing ≡ before.missing)

-- what is left is these bytes without a front of at most so many
abbrev pub IsWithoutFront : ℕ → List ℕ → Option (List ℕ) → Type 0
IsWithoutFront most bytes rest = (n : ℕ) × (n ≤ most) × (rest ≡ Some (drop n bytes))

-- at most so many bytes of the file were read; a ReadFault may also leave no file selected
abbrev pub ReadsWithin : ℕ → InputsTold → InputsTold → List ℕ →
    Result (List ℕ) ReadRefusal → Type 0
ReadsWithin most before after name result = IfSome before.files (λ f.
    ((bytes : List ℕ) × (f name ≡ Some bytes) × IsWithoutFront most bytes after.rest)
    ⊎ (IsErrOf result ReadFault × (after.rest ≡ Some [])))

-- memory was refused for bytes that were read: some of the file, and fewer than so many or all of
-- it
abbrev pub ReadsSome : ℕ → InputsTold → InputsTold → List ℕ → Type 0
ReadsSome most before after name = IfSome before.files (λ f. (taken left : List ℕ) ×
    (f name ≡ Some (taken ++ left)) × (0 < length taken) × (length taken ≤ most)
    × (after.rest ≡ Some left)
    × (length taken ≡ most → left ≡ []))

-- known bytes lose a front of at most so many
abbrev pub ConsumesAtMost : ℕ → Option (List ℕ) → Option (List ℕ) → Type 0
ConsumesAtMost most old new = (taken : List ℕ) × (length taken ≤ most) × Consumes old new taken

-- known bytes lose a front of some, of fewer than so many or of just so many, and then all of them
abbrev pub ConsumesSome : ℕ → Option (List ℕ) → Option (List ℕ) → Type 0
ConsumesSome most old new = (taken : List ℕ) × (0 < length taken) × (length taken ≤ most)
    × Consumes old new taken
    × (length taken ≡ most → IsAtEnd new)

-- where there is no room for a byte more, none is left; or why not
pub record Ends (before after : InputsTold) (room : ℕ) (result : Result (Unit {0}) ReadRefusal) :
    Type 0 where
  pub files : after.files ≡ before.files
  pub faults : before.faults ≤ after.faults
  pub missing : after.missing ≡ before.missing
  pub taken : ConsumesAtMost 1 before.rest after.rest
  pub ended : OnOk result ((room ≡ 0 → IsAtEnd after.rest) × Consumes before.rest after.rest [])
  pub long : IsErrOf result TooLong → (room ≡ 0) × IfSome before.rest (λ left. 0 < length left)
  pub fault : IsErrOf result ReadFault → Rose before.faults after.faults
  pub known : IsErr result → IsErrOf result TooLong ⊎ IsErrOf result ReadFault

-- all that was left of the selected file, or why not
pub record ReadsRest (before after : InputsTold) (limit : ℕ)
    (result : Result (List ℕ) ReadRefusal) : Type 0 where
  pub files : after.files ≡ before.files
  pub faults : before.faults ≤ after.faults
  pub missing : after.missing ≡ before.missing
  pub whole : IfOk result (λ bytes. IfSome before.rest (λ left. left ≡ bytes))
  pub short : IfOk result (λ bytes. length bytes ≤ limit)
  pub end : OnOk result (IsAtEnd after.rest)
  pub long : IsErrOf result TooLong → IfSome before.rest (λ left. limit < length left)
  pub fault : IsErrOf result ReadFault → Rose before.faults after.faults

-- the whole piece was written, or a front of it and a fault was counted
pub record WritesAll {E : Type 0} (before after : SinkTold) (piece : List ℕ)
    (result : Result (Unit {0}) E) : Type 0 where
  pub faults : before.faults ≤ after.faults
  pub whole : OnOk result (Appends before.written after.written piece)
  pub part : (n : ℕ) × (n ≤ length piece) × Appends before.written after.written (take n piece)
  pub failed : OnErr result (Rose before.faults after.faults)
  -- an empty piece is written without a call
  pub empty : piece ≡ [] → IsOk result × (after ≡ before)
