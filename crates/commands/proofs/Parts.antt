-- A script that is selected, and what is delivered of it.
use Rattle.std.proofs.Common.{◌≡◌, ◌⊎◌, inl, inr, ℕ, List, [], refl, sym, subst, arith, ◌≤◌, Option, Some, None, IfSome}
use Rattle.std.specs.Prelude.{Result, Ok, Err, IsNone, IsSomeAnd}
use Rattle.doc_io.specs.Causes.{Files, InputsTold, Rose, Selects, SinkTold}
use Rattle.doc_io.specs.LineReader.{ReaderValue}
use Rattle.script_answers.specs.Texts.{Text, status_of_end}
use Rattle.script_answers.specs.Delivering.{Breaks, Delivers}
use Rattle.commands.specs.Ends.{IsDelivered}
use Rattle.commands.specs.Parts.{OpensScript, SelectsScript}
use Rattle.input_files.specs.declared.refusal.Refusal.{Refusal}
use Rattle.input_files.specs.declared.refusal.Refusal.TheVariants.{ReadFault, Memory}
use Rattle.input_files.specs.declared.status.Status.{Status}

-- the replies to a script may be cut short, also where a read failed since
pub in_parts : (text : Text) (before mid after : InputsTold) (old new : SinkTold) (status : Status) → before.faults ≤ mid.faults
    → Delivers text.bytes (status_of_end text.whole) old new status ⊎ Breaks text.bytes text.parts mid after old new status
    → IsDelivered (Unit {0}) (Ok text) before after old new status
in_parts text before mid after old new status f (inl whole) = inl whole
in_parts text before mid after old new status f (inr out) = inr (
  tt,
  record {
    cause = elim out.cause [ inl memory ↦ inl memory | inr read ↦ inr (read.0, omega (arith, read.1, f)) ];
    front = out.front;
    between = out.between;
    later = out.later;
  },
)

-- the same, where a part before it had read
pub since : (parts : Type 0) (result : Result Text Refusal) (before mid after : InputsTold) (old new : SinkTold) (status : Status) → before.faults ≤ mid.faults
    → IsDelivered parts result mid after old new status → IsDelivered parts result before after old new status
since parts result before mid after old new status f (inl d) = inl d
since parts result before mid after old new status f (inr p) = inr (
  p.0,
  record {
    cause = elim p.1.cause [ inl memory ↦ inl memory | inr read ↦ inr (read.0, omega (arith, read.1, f)) ];
    front = p.1.front;
    between = p.1.between;
    later = p.1.later;
  },
)

-- a script that wasn't selected
pub not_selected : {E V : Type 0} (before after : InputsTold) (name : List ℕ) (e : E) → Selects before after name (Err e)
    → SelectsScript {V = V} before after name (Err ReadFault)
not_selected before after name e s = record {
  files = s.files;
  faults = s.faults;
  missing = s.missing;
  found = tt;
  cut = inl refl;
  fault = λ is. by before.files s.failed;
}
  where
    by : (files : Option Files) → Rose before.faults after.faults ⊎ (Rose before.missing after.missing × IfSome files (λ f. f name ≡ None))
        → Rose before.faults after.faults ⊎ (IsSomeAnd files (λ f. f name ≡ None) ⊎ (IsNone files × Rose before.missing after.missing))
    by files (inl rose) = inl rose
    by None (inr rose) = inr (inr (refl, rose.0))
    by (Some f) (inr rose) = inr (inl rose.1)

-- or that was, but not read
pub opens_not : {V : Type 0} (before after : InputsTold) (name : List ℕ) (r : Refusal) (result : Result ReaderValue Refusal) → result ≡ Err r
    → SelectsScript {V = V} before after name (Err r) → OpensScript before after name result
opens_not {V} before after name r result is s = subst (OpensScript before after name) (sym is) (record {
  selects = record {
    files = s.files;
    faults = s.faults;
    missing = s.missing;
    found = tt;
    cut = elim s.cut [ inl fault ↦ inl (let e = fault in cc) | inr memory ↦ inr (let e = memory in cc) ];
    fault = λ is. s.fault (let e = is in cc);
  };
  fresh = tt;
})

pub opens_nothing : {V : Type 0} (before after : InputsTold) (name : List ℕ) (v : V) (result : Result ReaderValue Refusal) → result ≡ Err Memory
    → SelectsScript {V = V} before after name (Ok v) → OpensScript before after name result
opens_nothing {V} before after name v result is s = subst (OpensScript before after name) (sym is) (record {
  selects = record {
    files = s.files;
    faults = s.faults;
    missing = s.missing;
    found = tt;
    cut = inr refl;
    fault = λ is. absurd (let e = is in cc);
  };
  fresh = tt;
})

pub opens : {V : Type 0} (before after : InputsTold) (name : List ℕ) (v : V) (reader : ReaderValue)
    → reader ≡ record { held = []; line = []; given = 0 } → SelectsScript {V = V} before after name (Ok v)
    → OpensScript before after name (Ok reader)
opens {V} before after name v reader is s = record {
  selects = record {
    files = s.files;
    faults = s.faults;
    missing = s.missing;
    found = s.found;
    cut = tt;
    fault = λ is. absurd (let e = is in cc);
  };
  fresh = is;
}
