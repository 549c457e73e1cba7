-- How a reply of two pieces is written.
use Rattle.std.proofs.Common.{◌≡◌, ◌∙◌, sym, refl, subst, ℕ, ◌+◌, ◌≤◌, List, [], ◌∷◌, ◌++◌, length, take, arith, length-append}
use Rattle.std.specs.Prelude.{Result, Ok, Err, IsErr, IsOk}
use Rattle.std.proofs.Math.Seq.{take-append-add}
use Rattle.std.proofs.lemmas.List.{take-append-le}
use Rattle.std.specs.Io.KnownBytes.{Appends}
use Rattle.doc_io.specs.Causes.{SinkTold}
use Rattle.doc_io.specs.Whole.{WritesAll}
use Rattle.doc_io.proofs.Known.{appends_both}

both_empty : (xs ys : List ℕ) → xs ++ ys ≡ [] → (xs ≡ []) × (ys ≡ [])
both_empty [] ys h = (refl, h)
both_empty (x ∷ xs) ys h = absurd cc

module _ {E : Type 0} (a b c : SinkTold) (xs ys : List ℕ) where
  -- a front of the second behind the first
  part_behind : (result : Result (Unit {0}) E) → Appends a.written b.written xs → WritesAll b c ys result
      → (n : ℕ) × (n ≤ length (xs ++ ys)) × Appends a.written c.written (take n (xs ++ ys))
  part_behind result first next = (
    length xs + next.part.0,
    omega (arith, length-append xs ys, next.part.1),
    subst (Appends a.written c.written) (sym (take-append-add xs ys next.part.0))
        (appends_both a.written b.written c.written xs (take next.part.0 ys) first next.part.2),
  )

  empty_both : (result : Result (Unit {0}) E) → WritesAll {E = E} a b xs (Ok tt) → WritesAll b c ys result
      → xs ++ ys ≡ [] → IsOk result × (c ≡ a)
  empty_both result first next none =
      let each = both_empty xs ys none in
      let start = first.empty each.0 in
      let end = next.empty each.1 in
      (end.0, end.1 ∙ start.1)

  pub written_both : (result : Result (Unit {0}) E) → WritesAll {E = E} a b xs (Ok tt) → WritesAll b c ys result → WritesAll a c (xs ++ ys) result
  written_both (Ok u) first next = record {
    faults = omega (arith, first.faults, next.faults);
    whole = appends_both a.written b.written c.written xs ys first.whole next.whole;
    part = part_behind (Ok u) first.whole next;
    failed = tt;
    empty = empty_both (Ok u) first next;
  }
  written_both (Err e) first next = record {
    faults = omega (arith, first.faults, next.faults);
    whole = tt;
    part = part_behind (Err e) first.whole next;
    failed = omega (arith, first.faults, next.failed);
    empty = empty_both (Err e) first next;
  }

-- a fault in the first is handed on, whatever would have come next
pub written_first : {E : Type 0} (a b : SinkTold) (xs ys : List ℕ) (fault : E) (result : Result (Unit {0}) E) → IsErr result → WritesAll a b xs (Err fault) → WritesAll a b (xs ++ ys) result
written_first a b xs ys fault (Ok u) is first = absurd cc
written_first a b xs ys fault (Err e) is first = record {
  faults = first.faults;
  whole = tt;
  part = (
    first.part.0,
    omega (arith, length-append xs ys, first.part.1),
    subst (Appends a.written b.written) (sym (take-append-le first.part.0 xs ys first.part.1)) first.part.2,
  );
  failed = first.failed;
  empty = λ none. first.empty (both_empty xs ys none).0;
}
