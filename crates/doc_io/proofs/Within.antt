-- How much of a file a reader has taken.
use Rattle.std.proofs.Common.{◌≡◌, ℕ, ◌+◌, ◌<◌, ◌≤◌, List, [], ◌++◌, length, drop, ap, refl, sym, subst, ◌∙◌, arith, length-append, Result, Option, Some, None, IfSome, IsSome, inl}
use Rattle.std.proofs.lemmas.List.{append-nil}
use Rattle.std.proofs.Math.Seq.{drop-append_seam}
use Rattle.std.specs.Io.KnownBytes.{Consumes, IsAtEnd}
use Rattle.doc_io.specs.Causes.{Files, InputsTold}
use Rattle.doc_io.specs.Whole.{ConsumesAtMost, ConsumesSome, IsWithoutFront, ReadsSome, ReadsWithin}
use Rattle.doc_io.specs.declared.whole.ReadRefusal.{ReadRefusal}
use Rattle.doc_io.proofs.Known.{consumes_both}

-- one read more, while the bound holds
pub within_both : (a b c : Option (List ℕ)) (xs ys : List ℕ) (most : ℕ) → Consumes a b xs →
    Consumes b c ys → length xs + length ys ≤ most → ConsumesAtMost most a c
within_both a b c xs ys most h k short = (xs ++ ys, omega (arith, length-append xs ys), consumes_both a b c xs ys h k)

-- one read more that gave something, and then a look at the end
pub some_both : (a b c d : Option (List ℕ)) (xs ys : List ℕ) (most : ℕ) → Consumes a b xs →
    Consumes b c ys → Consumes c d [] → 0 < length ys → length xs + length ys ≤ most →
    (length xs + length ys ≡ most → IsAtEnd d) → ConsumesSome most a d
some_both a b c d xs ys most h k e some short full = (
  xs ++ ys,
  omega (arith, length-append xs ys, some),
  omega (arith, length-append xs ys, short),
  subst (λ (l : List ℕ). Consumes a d l) (append-nil (xs ++ ys)) (consumes_both a c d (xs ++ ys) [] (consumes_both a b c xs ys h k) e),
  λ all. full (sym (length-append xs ys) ∙ all),
)

pub within_end : (a b c d : Option (List ℕ)) (xs ys : List ℕ) (most : ℕ) → Consumes a b xs →
    Consumes b c ys → ConsumesAtMost 1 c d → length xs + length ys ≤ most → ConsumesAtMost (most + 1) a d
within_end a b c d xs ys most h k e short =
    within_both a c d (xs ++ ys) e.0 (most + 1) (consumes_both a b c xs ys h k) e.2 (omega (arith, length-append xs ys, short, e.1))

-- where the whole file was left at first, a front of the file is taken
without_front : (whole : List ℕ) (rest rest' : Option (List ℕ)) (most : ℕ) → rest ≡ Some whole →
    ConsumesAtMost most rest rest' → IsWithoutFront most whole rest'
without_front whole None rest' most e c = absurd (cc)
without_front whole (Some a) None most e c = absurd c.2
without_front whole (Some a) (Some b) most e c =
    let same : whole ≡ c.0 ++ b = cc in
    (length c.0, c.1, ap Some (sym (ap (drop (length c.0)) same ∙ drop-append_seam c.0 b)))

of_file : (file rest rest' : Option (List ℕ)) (most : ℕ) → IsSome file → rest ≡ file →
    ConsumesAtMost most rest rest' →
    (bytes : List ℕ) × (file ≡ Some bytes) × IsWithoutFront most bytes rest'
of_file None rest rest' most s e c = absurd (cc)
of_file (Some bytes) rest rest' most s e c = (bytes, refl, without_front bytes rest rest' most e c)

-- a reader of a selected file takes a front of it
pub reads_within : (before mid after : InputsTold) (name : List ℕ) (most : ℕ) (result : Result (List ℕ) ReadRefusal) →
    IfSome before.files (λ f. IsSome (f name) × (mid.rest ≡ f name)) → ConsumesAtMost most mid.rest after.rest →
    ReadsWithin most before after name result
reads_within before mid after name most result h c = by before.files h
  where
    by : (files : Option Files) → IfSome files (λ f. IsSome (f name) × (mid.rest ≡ f name)) →
        ReadsWithin most (record before { files = files }) after name result
    by None h = tt
    by (Some f) h = inl (of_file (f name) mid.rest after.rest most h.0 h.1 c)

some_of_file : (file rest rest' : Option (List ℕ)) (most : ℕ) → rest ≡ file → IsSome file → ConsumesSome most rest rest' →
    (taken left : List ℕ) × (file ≡ Some (taken ++ left)) × (0 < length taken) × (length taken ≤ most) × (rest' ≡ Some left)
    × (length taken ≡ most → left ≡ [])
some_of_file None rest rest' most e s c = absurd (cc)
some_of_file (Some bytes) None rest' most e s c = absurd (cc)
some_of_file (Some bytes) (Some a) None most e s c = absurd c.3
some_of_file (Some bytes) (Some a) (Some b) most e s c =
    (c.0, b, sym e ∙ ap Some c.3, c.1, c.2, refl, c.4)

-- a reader of a selected file that wants memory has taken some of it
pub reads_some : (before mid after : InputsTold) (name : List ℕ) (most : ℕ) →
    IfSome before.files (λ f. IsSome (f name) × (mid.rest ≡ f name)) → ConsumesSome most mid.rest after.rest →
    ReadsSome most before after name
reads_some before mid after name most h c = by before.files h
  where
    by : (files : Option Files) → IfSome files (λ f. IsSome (f name) × (mid.rest ≡ f name)) →
        ReadsSome most (record before { files = files }) after name
    by None h = tt
    by (Some f) h = some_of_file (f name) mid.rest after.rest most h.1 h.0 c
