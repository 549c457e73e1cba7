-- What a write that the system answered does to what is told.
use Rattle.std.proofs.Common.{◌≡◌, ◌<◌, ◌≤◌, ℕ, zero, suc, List, take, arith, Result, MatchResult, subst, sym, IsErr}
use Rattle.std.specs.Prelude.{Ok, Err, OnErr, IfOk}
use Rattle.std.specs.Io.{WritesAtMost}
use Rattle.std.specs.Io.KnownBytes.{Appends, Keeps, WriteAppends}
use Rattle.std.specs.declared.io.Error.{Error}
use Rattle.doc_io.specs.Causes.{SinkTold, Writes, raised}
use Rattle.doc_io.proofs.Known.{kept_of_nothing}

module _ {E : Type 0} (old mid new : SinkTold) (piece : List ℕ) (same : new.written ≡ mid.written)
    (later : old.faults ≤ new.faults) where
  pub writes : (answer : Result ℕ Error) (result : Result ℕ E) → WritesAtMost answer piece →
      WriteAppends old.written mid.written answer piece →
      IfOk answer (λ n. 0 < n → result ≡ Ok n) → OnErr answer (IsErr result) →
      MatchResult result (λ n. (0 < n) × (answer ≡ Ok n) × (new.faults ≡ old.faults)) (λ _. new.faults ≡ raised old.faults) →
      Writes old new piece result
  writes (Ok n) (Ok m) bound bytes taken failed counts =
      let count : m ≡ n = cc in
      rw count record {
        faults = later;
        bound = bound;
        progress = omega (arith, counts.0);
        bytes = subst (λ w. Appends old.written w (take n piece)) (sym same) bytes;
        failed = tt;
      }
  writes (Ok zero) (Err error) bound bytes taken failed counts = record {
    faults = later;
    bound = tt;
    progress = tt;
    bytes = subst (Keeps old.written) (sym same) (kept_of_nothing old.written mid.written bytes);
    failed = omega arith;
  }
  writes (Ok (suc n)) (Err error) bound bytes taken failed counts = absurd (let is = taken (omega arith) in cc)
  writes (Err answer) (Ok m) bound bytes taken failed counts = absurd (let is = failed in cc)
  writes (Err answer) (Err error) bound bytes taken failed counts = record {
    faults = later;
    bound = tt;
    progress = tt;
    bytes = subst (Keeps old.written) (sym same) bytes;
    failed = omega arith;
  }
