-- What an opening that the system answered does to what is told.
use Rattle.std.proofs.Common.{◌≡◌, ℕ, inl, inr, refl, ◌⊎◌, ◌≤◌, List, [], arith, Result, Option, Some, ap, subst, sym}
use Rattle.std.specs.Prelude.{Ok, Err}
use Rattle.std.specs.declared.io.Error.{Error}
use Rattle.std.specs.Io.KnownBytes.{IsAtEnd}
use Rattle.doc_io.specs.Causes.{Selects, raised}
use Rattle.doc_io.specs.Edge.{FileState, Faults, Misses, Opens, told_of}

-- no file is selected, and one count or the other has risen
closed : {E : Type 0} (old new : FileState) (name : List ℕ) (error : E) → Misses old new ⊎ Faults old new →
    old.faults ≤ new.faults → old.missing ≤ new.missing →
    Selects (told_of old) (told_of new) name (Err error)
closed old new name error (inl misses) later later_missing =
    let faults : new.faults ≡ old.faults = ap (λ s. s.faults) misses in
    let missing : new.missing ≡ raised old.missing = ap (λ s. s.missing) misses in
    let left : new.left ≡ Some [] = ap (λ s. s.left) misses in
    record {
      files = refl;
      faults = omega arith;
      missing = omega arith;
      found = tt;
      unselected = subst IsAtEnd (sym left) refl;
      told = λ told. absurd cc;
      absent = tt;
      present = tt;
      failed = inr (omega arith, tt);
    }
closed old new name error (inr counts) later later_missing =
    let faults : new.faults ≡ raised old.faults = ap (λ s. s.faults) counts in
    let missing : new.missing ≡ old.missing = ap (λ s. s.missing) counts in
    let left : new.left ≡ Some [] = ap (λ s. s.left) counts in
    record {
      files = refl;
      faults = omega arith;
      missing = omega arith;
      found = tt;
      unselected = subst IsAtEnd (sym left) refl;
      told = λ told. absurd cc;
      absent = tt;
      present = tt;
      failed = inl (omega arith);
    }

-- so a selection is as the trait asks
pub selects : {F E : Type 0} (remaining : F → Option (List ℕ)) (old new : FileState) (name : List ℕ) (answer : Result F Error)
    (result : Result (Unit {0}) E) → Opens remaining old new answer result → Selects (told_of old) (told_of new) name result
selects remaining old new name (Ok file) (Ok tt) opens =
    let faults : new.faults ≡ old.faults = ap (λ s. s.faults) opens.opened.1 in
    let missing : new.missing ≡ old.missing = ap (λ s. s.missing) opens.opened.1 in
    record {
      files = refl;
      faults = omega arith;
      missing = omega arith;
      found = tt;
      unselected = tt;
      told = λ told. absurd cc;
      absent = tt;
      present = tt;
      failed = tt;
    }
selects remaining old new name (Ok file) (Err error) opens = absurd (let is = opens.opened.0 in cc)
selects remaining old new name (Err answer) (Ok tt) opens = absurd (let is = opens.not_opened.0 in cc)
selects remaining old new name (Err answer) (Err error) opens = closed old new name error opens.not_opened.1 opens.faults opens.missings
