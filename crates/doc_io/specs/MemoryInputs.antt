-- Inputs in memory: what they hold, and what a select and a read do to it.
use Rattle.std.specs.Prelude.{◌≡◌, ℕ, ◌+◌, ◌<◌, ◌≤◌, min, true, false, List, [], ◌∷◌, ◌++◌, length, take, drop, slice_get, Result, Option, Some, None, IsOk, IsErr, unwrap_or, refl}
use Rattle.std.specs.Coded.{Coded, code_by, coded×, coded_ℕ, coded_list, coded_option}
use Rattle.std.specs.Option.{option_map, option_and_then}
use Rattle.std.specs.Ordering.{nat_cmp}
use Rattle.std.specs.declared.cmp.Ordering.{Ordering}
use Rattle.std.specs.Cmp.Lexicographic.{slice_cmp}
use Rattle.std.specs.List.{AllByRecursion}
use Rattle.std.specs.Result.{IsOkAnd}
use Rattle.std.specs.FinMap.{FinMap, code, get, insert}
use Rattle.doc_io.specs.Causes.{InputsTold, raised}
use Rattle.doc_io.specs.FailingCalls.{fails_next}
use Rattle.doc_io.specs.declared.memory_inputs.Named.{Named}

-- names are told apart by their bytes
abbrev pub name_cmp : List ℕ → List ℕ → Ordering
name_cmp = slice_cmp nat_cmp

-- bytes by name
abbrev pub FileMap : Type 0
FileMap = FinMap name_cmp (List ℕ)

-- what a test sees of inputs in memory
pub record FilesInMemory : Type 0 where
  -- the files by name
  pub files : FileMap
  -- the places where each read stops
  pub cuts : List ℕ
  -- the numbers of the calls that fail, and how many calls there were
  pub failing : List ℕ
  pub calls : ℕ
  -- the bytes of the selected file, and how many of them were read
  pub selected : Option (List ℕ)
  pub place : ℕ
  -- the counts
  pub faults : ℕ
  pub missing : ℕ

-- it is stored as its fields, a pair of each and the others
abbrev pub inputs_code : Coded FilesInMemory
inputs_code =
    let bytes = coded_list coded_ℕ in
    code_by _
    (coded× (code bytes bytes) (coded× bytes (coded× bytes (coded× coded_ℕ
    (coded× (coded_option bytes) (coded× coded_ℕ (coded× coded_ℕ coded_ℕ)))))))
    (λ m. (
      m.files,
      (
        m.cuts,
        (
          m.failing,
          (
            m.calls,
            (m.selected, (m.place, (m.faults, m.missing))),
          ),
        ),
      ),
    ))
    (λ p. record {
      files = p.0;
      cuts = p.1.0;
      failing = p.1.1.0;
      calls = p.1.1.1.0;
      selected = p.1.1.1.1.0;
      place = p.1.1.1.1.1.0;
      faults = p.1.1.1.1.1.1.0;
      missing = p.1.1.1.1.1.1.1;
    })
    (λ _. refl)

-- files put in one after another, each in place of an earlier one of its name
abbrev pub put_in : FileMap → List Named → FileMap
put_in files [] = files
put_in files (file ∷ later) = put_in (insert files file.name file.bytes) later

-- the bytes of the file at an index, if there is one
abbrev pub bytes_at : List Named → Option ℕ → Option (List ℕ)
bytes_at files at =
    option_and_then (λ index. option_map (λ file. file.bytes) (slice_get files index)) at

-- what is left of the selected file; nothing, where none is selected
abbrev pub left_in : FilesInMemory → List ℕ
left_in m = drop m.place (unwrap_or m.selected [])

-- what it tells: all of its files, and what is left of the selected one
abbrev pub told_in : FilesInMemory → InputsTold
told_in m = record {
  files = Some (get m.files);
  rest = Some (left_in m);
  faults = m.faults;
  missing = m.missing;
}

-- after one call more
abbrev pub called : FilesInMemory → FilesInMemory
called m = record m { calls = raised m.calls }

-- after one call more, and with no file selected
abbrev pub deselected : FilesInMemory → FilesInMemory
deselected m = record (called m) { selected = None; place = 0 }

-- a name that no file has is missing, whatever the call's number; else the call fails by its number
pub record SelectsInMemory {E : Type 0} (old new : FilesInMemory) (name : List ℕ)
    (result : Result (Unit {0}) E) : Type 0 where
  pub absent : get old.files name ≡ None →
      IsErr result × (new ≡ record (deselected old) { missing = raised old.missing })
  pub failing : (bytes : List ℕ) → get old.files name ≡ Some bytes →
      fails_next old.failing old.calls ≡ true →
      IsErr result × (new ≡ record (deselected old) { faults = raised old.faults })
  pub found : (bytes : List ℕ) → get old.files name ≡ Some bytes →
      fails_next old.failing old.calls ≡ false →
      IsOk result × (new ≡ record (called old) { selected = Some bytes; place = 0 })

-- the greatest number that has a property
pub record IsGreatest (P : ℕ → Type 0) (n : ℕ) : Type 0 where
  pub holds : P n
  pub above : (m : ℕ) → P m → m ≤ n

-- no cut lies strictly inside the n bytes from a place on
abbrev pub IsUncut : List ℕ → ℕ → ℕ → Type 0
IsUncut cuts place n = AllByRecursion (λ cut. place < cut → place + n ≤ cut) cuts

-- a read gives the longest front of what is left that fits into the slice and is uncut
pub record GivesLongest (old new : FilesInMemory) (into into' : List ℕ) (n : ℕ) : Type 0 where
  pub longest : IsGreatest
      (λ n. (n ≤ min (length (left_in old)) (length into)) × IsUncut old.cuts old.place n) n
  pub given : into' ≡ take n (left_in old) ++ drop n into
  pub after : new ≡ record (called old) { place = old.place + n }

-- a read fails by the call's number alone
pub record ReadsInMemory {E : Type 0} (old new : FilesInMemory) (into into' : List ℕ)
    (result : Result ℕ E) : Type 0 where
  pub failing : fails_next old.failing old.calls ≡ true →
      IsErr result × (into' ≡ into) × (new ≡ record (called old) { faults = raised old.faults })
  pub gives : fails_next old.failing old.calls ≡ false →
      IsOkAnd result (GivesLongest old new into into')
