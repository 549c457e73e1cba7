-- What reading on gives to bytes that are held.
use Rattle.std.specs.Prelude.{◌≡◌, ℕ, ◌+◌, ◌-◌, ◌≤◌, List, ◌++◌, drop, length, take, Result, MatchResult, OnErr}
use Rattle.std.specs.Io.KnownBytes.{Consumes, IsAtEnd, Keeps}
use Rattle.doc_io.specs.Causes.{InputsTold, Rose}

-- how many bytes there is room for
abbrev pub held_room : ℕ
held_room = 2097152

-- the bytes between two places
abbrev pub window : ℕ → ℕ → List ℕ → List ℕ
window start end room = take (end - start) (drop start room)

-- some bytes of what is left came behind those that were held, none only at the end
pub record ReadsOn {E : Type 0} (before after : InputsTold) (held held' : List ℕ)
    (result : Result ℕ E) : Type 0 where
  pub files : after.files ≡ before.files
  pub faults : before.faults ≤ after.faults
  pub missing : after.missing ≡ before.missing
  pub bytes : MatchResult result
      (λ n. (read : List ℕ) × (held' ≡ held ++ read) × (length read ≡ n)
      × Consumes before.rest after.rest read × (n ≡ 0 → IsAtEnd after.rest))
      (λ _. (held' ≡ held) × Keeps before.rest after.rest)
  pub failed : OnErr result (Rose before.faults after.faults)

-- they went into the room behind a place
pub record ReadsBehind {E : Type 0} (before after : InputsTold) (room room' : List ℕ) (place : ℕ)
    (result : Result ℕ E) : Type 0 where
  pub files : after.files ≡ before.files
  pub faults : before.faults ≤ after.faults
  pub missing : after.missing ≡ before.missing
  pub front : take place room' ≡ take place room
  pub same : length room' ≡ length room
  pub bytes : MatchResult result
      (λ n. (place + n ≤ length room) × Consumes before.rest after.rest (take n (drop place room'))
      × (n ≡ 0 → IsAtEnd after.rest))
      (λ _. Keeps before.rest after.rest)
  pub failed : OnErr result (Rose before.faults after.faults)
