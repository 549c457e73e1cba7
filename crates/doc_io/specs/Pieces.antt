-- A text that is written in pieces: what of it is held back, and what goes out.
use Rattle.std.specs.Prelude.{◌≡◌, ℕ, ◌≤◌, List, ◌++◌, length, take, Result, OnOk, OnErr, IsOk}
use Rattle.std.specs.Io.KnownBytes.{Appends}
use Rattle.doc_io.specs.Causes.{Rose, SinkTold}

-- the most bytes that are held back
abbrev pub piece_size : ℕ
piece_size = 16384

-- A text came behind what was held back.
pub record Puts {E : Type 0} (before after : SinkTold) (held held' text : List ℕ)
    (result : Result (Unit {0}) E) : Type 0 where
  pub faults : before.faults ≤ after.faults
  -- what went out and what is held back now are both of them, in order
  pub whole : OnOk result
      ((sent : List ℕ) × (sent ++ held' ≡ held ++ text) × Appends before.written after.written sent)
  -- what went out is a front of both
  pub part : (n : ℕ) × (n ≤ length (held ++ text))
      × Appends before.written after.written (take n (held ++ text))
  pub failed : OnErr result (Rose before.faults after.faults)
  -- while there is room for both, all is held back
  pub kept : length (held ++ text) ≤ piece_size →
      IsOk result × (after ≡ before) × (held' ≡ held ++ text)
