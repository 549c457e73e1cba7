-- A sink in memory: what it holds, and what a write does to it.
use Rattle.std.specs.Prelude.{◌≡◌, ℕ, ◌-◌, ◌||◌, min, nat_le, Bool, true, false, List, ◌++◌, length, take, Result, Ok, Some, IsErr}
use Rattle.doc_io.specs.Causes.{SinkTold, raised}
use Rattle.doc_io.specs.FailingCalls.{fails_next}

-- what a test sees of a sink in memory
pub record BytesInMemory : Type 0 where
  -- the bytes written, and how many there is room for
  pub bytes : List ℕ
  pub room : ℕ
  -- the numbers of the calls that fail, and how many calls there were
  pub failing : List ℕ
  pub calls : ℕ
  -- the count
  pub faults : ℕ

-- what it tells: all of its bytes
abbrev pub told_in : BytesInMemory → SinkTold
told_in s = record { written = Some s.bytes; faults = s.faults }

-- whether the next call fails: by its number, or since no room is left
abbrev pub write_fails : BytesInMemory → Bool
write_fails s = fails_next s.failing s.calls || nat_le s.room (length s.bytes)

-- how many bytes of a piece still fit
abbrev pub fitting : BytesInMemory → List ℕ → ℕ
fitting s piece = min (length piece) (s.room - length s.bytes)

-- a call that must fail raises the count; any other appends as many bytes of the piece as fit
pub record WritesInMemory {E : Type 0} (old new : BytesInMemory) (piece : List ℕ)
    (result : Result ℕ E) : Type 0 where
  pub failing : write_fails old ≡ true →
      IsErr result × (new ≡ record old { calls = raised old.calls; faults = raised old.faults })
  pub taken : write_fails old ≡ false →
      let n = fitting old piece in
      (result ≡ Ok n)
      × (new ≡ record old { calls = raised old.calls; bytes = old.bytes ++ take n piece })
