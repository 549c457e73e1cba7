-- What a select, a read and a write in memory do, from what their parts give.
use Rattle.std.proofs.Common.{◌≡◌, ℕ, ◌+◌, ◌≤◌, min, List, [], ◌++◌, length, take, drop, true, false, Ok, Err, Option, Some, None, IsSome, is_some, unwrap_or, ap, refl, sym, ◌∙◌, arith}
use Rattle.std.proofs.lemmas.List.{take_at, take-append-drop, drop-drop}
use Rattle.std.proofs.lemmas.Grind.{common_steps}
use Rattle.std.specs.FinMap.{get}
use Rattle.doc_io.specs.FailingCalls.{fails_next}
use Rattle.doc_io.specs.Causes.{Files, Selects, raised}
use Rattle.doc_io.specs.MemorySink.{BytesInMemory, WritesInMemory, fitting, write_fails}
use Rattle.doc_io.specs.MemoryInputs.{FilesInMemory, IsGreatest, IsUncut, ReadsInMemory, SelectsInMemory, called, deselected, left_in}

-- a name that some file has, at a call that fails
pub selects_failing : {E : Type 0} (old : FilesInMemory) (name : List ℕ) (file : Option (List ℕ)) (e : E) →
    get old.files name ≡ file → IsSome file → fails_next old.failing old.calls ≡ true →
    SelectsInMemory old (record (deselected old) { faults = raised old.faults }) name (Err e)
selects_failing old name file e there some fails = record {
  absent = λ none. absurd (cc);
  failing = λ bytes is f. (refl, refl);
  found = λ bytes is spared. absurd (cc);
}

-- a name that some file has, at any other call
pub selects_found : {E : Type 0} (old : FilesInMemory) (name : List ℕ) (file : Option (List ℕ)) →
    get old.files name ≡ file → IsSome file → fails_next old.failing old.calls ≡ false →
    SelectsInMemory {E = E} old (record (called old) { selected = file; place = 0 }) name (Ok tt)
selects_found old name file there some spared = record {
  absent = λ none. absurd (cc);
  failing = λ bytes is fails. absurd (cc);
  found = λ bytes is s. (refl, ap (λ o. record (called old) { selected = o; place = 0 }) (sym there ∙ is));
}

-- so the file is selected as the trait asks, and no count moves
pub selects_told : {E : Type 0} (files : Files) (faults missing : ℕ) (before : Option (List ℕ)) (name : List ℕ) (file : Option (List ℕ)) →
    files name ≡ file → IsSome file →
    Selects {E = E} (record { files = Some files; rest = before; faults = faults; missing = missing })
    (record { files = Some files; rest = Some (unwrap_or file []); faults = faults; missing = missing }) name (Ok tt)
selects_told files faults missing before name None there some = absurd (cc)
selects_told files faults missing before name (Some bytes) there some = record {
  files = refl;
  faults = omega arith;
  missing = omega arith;
  found = (ap is_some there, sym there);
  unselected = tt;
  told = λ _. refl;
  absent = λ none. absurd (cc);
  present = λ _. refl;
  failed = tt;
}

-- a read at a call that doesn't fail
pub reads_given : {E : Type 0} (old : FilesInMemory) (into into' : List ℕ) (n : ℕ) →
    fails_next old.failing old.calls ≡ false →
    IsGreatest (λ n. (n ≤ min (length (left_in old)) (length into)) × IsUncut old.cuts old.place n) n →
    into' ≡ take n (left_in old) ++ drop n into →
    ReadsInMemory {E = E} old (record (called old) { place = old.place + n }) into into' (Ok n)
reads_given old into into' n spared longest given = record {
  failing = λ fails. absurd (cc);
  gives = λ _. record { longest = longest; given = given; after = refl };
}

-- the bytes given are a front of what was left, and what is left now is the rest
pub left_after : (bytes into into' : List ℕ) (place n : ℕ) → n ≤ length (drop place bytes) →
    into' ≡ take n (drop place bytes) ++ drop n into →
    drop place bytes ≡ take n into' ++ drop (place + n) bytes
left_after bytes into into' place n there given =
    let left = drop place bytes in
    let front : take n into' ≡ take n left = ap (take n) given ∙ take_at (take n left) (drop n into) n (grind (arith, common_steps)) in
    sym (take-append-drop n left) ∙ ap (λ l. l ++ drop n left) (sym front) ∙ ap (λ l. take n into' ++ l) (drop-drop n place bytes)

-- nothing is left behind nothing
pub nothing_after : (bytes : List ℕ) (place n : ℕ) → drop place bytes ≡ [] →
    drop (place + n) bytes ≡ []
nothing_after bytes place n end = sym (drop-drop n place bytes) ∙ ap (drop n) end ∙ grind (arith, common_steps)

-- a write at a call that fails
pub writes_failing : {E : Type 0} (old : BytesInMemory) (piece : List ℕ) (e : E) →
    write_fails old ≡ true →
    WritesInMemory old (record old { calls = raised old.calls; faults = raised old.faults }) piece (Err e)
writes_failing old piece e fails = record {
  failing = λ _. (refl, refl);
  taken = λ spared. absurd (cc);
}

-- a write at any other call
pub writes_taken : {E : Type 0} (old : BytesInMemory) (piece : List ℕ) → write_fails old ≡ false →
    WritesInMemory {E = E} old (record old { calls = raised old.calls; bytes = old.bytes ++ take (fitting old piece) piece }) piece (Ok (fitting old piece))
writes_taken old piece spared = record {
  failing = λ fails. absurd (cc);
  taken = λ _. (refl, refl);
}
