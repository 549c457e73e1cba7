-- How the first line that is held comes to its end.
use Rattle.std.specs.Prelude.{◌≡◌, ◌⊎◌, ℕ, ◌<◌, ◌≤◌, Bool, true, false, List, [], ◌++◌, length, Result, IfOk, OnErr, IsErrOf}
use Rattle.std.specs.Io.KnownBytes.{Consumes, IsAtEnd}
use Rattle.std.specs.List.{position_or_len}
use Rattle.doc_io.specs.Causes.{InputsTold, Rose}
use Rattle.doc_io.specs.LineReader.{HoldsLine, is_feed, longest_line}
use Rattle.doc_io.specs.declared.line_reader.LineRefusal.{LineRefusal}
use Rattle.doc_io.specs.declared.line_reader.LineRefusal.TheVariants.{ReadFault, LineLong}

-- bytes came behind those that were held
abbrev pub TakesMore : InputsTold → InputsTold → List ℕ → List ℕ → Type 0
TakesMore before after held held' =
    (read : List ℕ) × (held' ≡ held ++ read) × Consumes before.rest after.rest read

-- a byte is held, unless nothing is left
pub record BeginsLine {E : Type 0} (before after : InputsTold) (held held' : List ℕ)
    (result : Result Bool E) : Type 0 where
  pub files : after.files ≡ before.files
  pub faults : before.faults ≤ after.faults
  pub missing : after.missing ≡ before.missing
  pub bytes : TakesMore before after held held'
  pub begun : IfOk result (λ begun. begun ≡ true → 0 < length held')
  pub ended : IfOk result (λ begun. begun ≡ false → (held' ≡ []) × IsAtEnd after.rest)
  -- nothing is read where a byte is held
  pub unread : 0 < length held → after ≡ before
  pub failed : OnErr result (Rose before.faults after.faults)

-- bytes came behind those that were held, until the first line ended or was too long
pub record EndsLine (before after : InputsTold) (held held' : List ℕ)
    (result : Result ℕ LineRefusal) : Type 0 where
  pub files : after.files ≡ before.files
  pub faults : before.faults ≤ after.faults
  pub missing : after.missing ≡ before.missing
  pub bytes : TakesMore before after held held'
  -- nothing is read where the line is held to its end
  pub unread : HoldsLine held → after ≡ before
  pub line : IfOk result (λ n. n ≡ position_or_len is_feed held')
  pub short : IfOk result (λ n. n ≤ longest_line)
  -- a line feed is held, or nothing is left
  pub ended : IfOk result (λ n. (n < length held') ⊎ IsAtEnd after.rest)
  pub long : IsErrOf result LineLong → longest_line < position_or_len is_feed held'
  pub fault : IsErrOf result ReadFault → Rose before.faults after.faults
  pub refused : OnErr result (IsErrOf result LineLong ⊎ IsErrOf result ReadFault)
