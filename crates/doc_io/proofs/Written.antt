-- A text that is written in pieces, part by part: laws for whoever puts the parts.
use Rattle.std.proofs.Common.{◌≡◌, ◌≢◌, ℕ, ◌+◌, ◌<◌, ◌≤◌, List, [], ◌++◌, length, take, refl, ap, sym, ◌∙◌, subst, arith, append_assoc, append-nil, length-append, OnOk, OnErr, IsOk, IsErr, Option, Some, None}
use Rattle.std.specs.Prelude.{Result, Ok, Err}
use Rattle.std.proofs.Math.Seq.{take-append-add}
use Rattle.std.proofs.lemmas.List.{take-append-le}
use Rattle.doc_io.specs.Causes.{Rose, SinkTold}
use Rattle.doc_io.specs.Pieces.{Puts, piece_size}
use Rattle.doc_io.specs.Whole.{WritesAll}
use Rattle.std.specs.Io.KnownBytes.{Appends}
use Rattle.doc_io.proofs.Known.{appends_both}

-- a fact of one outcome, from another fact of it
on_ok : {E : Type 0} (r : Result (Unit {0}) E) (P Q : Type 0) → (P → Q) → OnOk r P → OnOk r Q
on_ok (Ok u) P Q f h = f h
on_ok (Err e) P Q f h = tt

on_err : {E : Type 0} (r : Result (Unit {0}) E) (P Q : Type 0) → (P → Q) → OnErr r P → OnErr r Q
on_err (Ok u) P Q f h = tt
on_err (Err e) P Q f h = f h

-- a list, and then a front of what comes behind it
front_behind : (a b c : SinkTold) (sent rest whole : List ℕ) (n : ℕ) → sent ++ rest ≡ whole → Appends a.written b.written sent
    → n ≤ length rest → Appends b.written c.written (take n rest)
    → (m : ℕ) × (m ≤ length whole) × Appends a.written c.written (take m whole)
front_behind a b c sent rest whole n is first small next = (
  length sent + n,
  omega (arith, length-append sent rest, ap length is),
  subst (Appends a.written c.written) (sym (take-append-add sent rest n) ∙ ap (take (length sent + n)) is)
      (appends_both a.written b.written c.written sent (take n rest) first next),
)

-- nothing is appended to bytes that stay
appends_nothing : (a : Option (List ℕ)) → Appends a a []
appends_nothing None = tt
appends_nothing (Some a) = sym (append-nil a)

-- what was held back was written, and then a text that is too long to be held back
pub written_behind : {E : Type 0} (a b c : SinkTold) (held text : List ℕ) (result : Result (Unit {0}) E)
    → WritesAll {E = E} a b held (Ok tt) → WritesAll b c text result
    → piece_size < length (held ++ text) → Puts a c held [] text result
written_behind a b c held text result first next long = record {
  faults = omega (arith, first.faults, next.faults);
  whole = on_ok result (Appends b.written c.written text) _
      (λ h. (held ++ text, append-nil (held ++ text), appends_both a.written b.written c.written held text first.whole h))
      next.whole;
  part = front_behind a b c held text (held ++ text) next.part.0 refl first.whole next.part.1 next.part.2;
  failed = on_err result (Rose b.faults c.faults) (Rose a.faults c.faults) (λ rose. omega (arith, first.faults)) next.failed;
  kept = λ short. absurd (omega arith);
}

-- nothing is put yet
pub puts_nothing : {E : Type 0} (a : SinkTold) → Puts {E = E} a a [] [] [] (Ok tt)
puts_nothing {E} a = record {
  faults = omega arith;
  whole = ([], refl, appends_nothing a.written);
  part = (0, omega arith, appends_nothing a.written);
  failed = tt;
  kept = λ short. (refl, refl, refl);
}

-- the parts of a text are as long as the text
length_parts : (held first next : List ℕ) → length (held ++ (first ++ next)) ≡ length (held ++ first) + length next
length_parts held first next = grind (arith, length-append)

-- one part, and then the next
pub puts_next : {E : Type 0} (a b c : SinkTold) (held mid left first next : List ℕ) (result : Result (Unit {0}) E)
    → Puts {E = E} a b held mid first (Ok tt) → Puts b c mid left next result → Puts a c held left (first ++ next) result
puts_next a b c held mid left first next result one two = record {
  faults = omega (arith, one.faults, two.faults);
  whole = on_ok result _ _ (λ h.
      (one.whole.0 ++ h.0, order h.0 h.1, appends_both a.written b.written c.written one.whole.0 h.0 one.whole.2 h.2))
      two.whole;
  part = front_behind a b c one.whole.0 (mid ++ next) (held ++ (first ++ next)) two.part.0 rest one.whole.2 two.part.1 two.part.2;
  failed = on_err result (Rose b.faults c.faults) (Rose a.faults c.faults) (λ rose. omega (arith, one.faults)) two.failed;
  kept = kept;
}
  where
    rest : one.whole.0 ++ (mid ++ next) ≡ held ++ (first ++ next)
    rest = sym (append_assoc one.whole.0 mid next) ∙ ap (λ l. l ++ next) one.whole.1 ∙ append_assoc held first next

    order : (sent : List ℕ) → sent ++ left ≡ mid ++ next → (one.whole.0 ++ sent) ++ left ≡ held ++ (first ++ next)
    order sent is = append_assoc one.whole.0 sent left ∙ ap (λ l. one.whole.0 ++ l) is ∙ rest

    kept : length (held ++ (first ++ next)) ≤ piece_size → IsOk result × (c ≡ a) × (left ≡ held ++ (first ++ next))
    kept short =
        let one_kept = one.kept (omega (arith, length_parts held first next)) in
        let same : mid ++ next ≡ held ++ (first ++ next) = ap (λ l. l ++ next) one_kept.2 ∙ append_assoc held first next in
        let two_kept = two.kept (subst (λ l. length l ≤ piece_size) (sym same) short) in
        (two_kept.0, two_kept.1 ∙ one_kept.1, two_kept.2 ∙ same)

-- a fault that is handed on, whatever would have come next
pub puts_cut : {E F : Type 0} (a b : SinkTold) (held left first next : List ℕ) (error : E) (result : Result (Unit {0}) F)
    → Puts a b held left first (Err error) → IsErr result → Puts a b held left (first ++ next) result
puts_cut a b held left first next error (Ok done) one is = absurd cc
puts_cut a b held left first next error (Err other) one is = record {
  faults = one.faults;
  whole = tt;
  part = (
    one.part.0,
    omega (arith, length_parts held first next, one.part.1),
    subst (Appends a.written b.written) front one.part.2,
  );
  failed = one.failed;
  kept = λ short. let none = (one.kept (omega (arith, length_parts held first next))).0 in absurd cc;
}
  where
    front : take one.part.0 (held ++ first) ≡ take one.part.0 (held ++ (first ++ next))
    front =
        sym (take-append-le one.part.0 (held ++ first) next one.part.1) ∙ ap (take one.part.0) (append_assoc held first next)

-- all of a text was put, and what is held back is written
pub sent_all : {E : Type 0} (a b c : SinkTold) (held text : List ℕ) (result : Result (Unit {0}) E)
    → Puts {E = E} a b [] held text (Ok tt) → (text ≡ [] → (b ≡ a) × (held ≡ [])) → WritesAll b c held result
    → WritesAll a c text result
sent_all a b c held text result puts nothing rest = record {
  faults = omega (arith, puts.faults, rest.faults);
  whole = on_ok result (Appends b.written c.written held) (Appends a.written c.written text)
      (λ h. subst (Appends a.written c.written) puts.whole.1
      (appends_both a.written b.written c.written puts.whole.0 held puts.whole.2 h)) rest.whole;
  part = front_behind a b c puts.whole.0 held text rest.part.0 puts.whole.1 puts.whole.2 rest.part.1 rest.part.2;
  failed = on_err result (Rose b.faults c.faults) (Rose a.faults c.faults) (λ rose. omega (arith, puts.faults)) rest.failed;
  empty = λ none. let was = nothing none in let end = rest.empty was.1 in (end.0, end.1 ∙ was.0);
}

-- a text that isn't empty was put as far as the fault
pub sent_front : {E : Type 0} (a b : SinkTold) (held text : List ℕ) (result : Result (Unit {0}) E)
    → Puts a b [] held text result → IsErr result → text ≢ [] → WritesAll a b text result
sent_front a b held text (Ok done) puts is some = absurd cc
sent_front a b held text (Err error) puts is some = record {
  faults = puts.faults;
  whole = tt;
  part = puts.part;
  failed = puts.failed;
  empty = λ none. absurd (some none);
}
