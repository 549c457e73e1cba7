-- Loops that look for the choice whose text a word is.
use Rattle.std.proofs.Common.{◌≡◌, ◌∙◌, refl, sym, ℕ, ◌+◌, ◌<◌, zero, suc, Bool, true, false, if◌then◌else◌, List, [], ◌∷◌, length, take, get_or, Bor, Option, Some, None, add-one, arith}
use Rattle.std.specs.Str.{bytes_eq}
use Rattle.metrics_file.specs.Words.{choice_in}

taken : {X : Type 0} (b : Bool) (x : X) (o : Option X) → b ≡ true → (if b then Some x else o) ≡ Some x
taken true x o h = refl
taken false x o h = cc

passed : {X : Type 0} (b : Bool) (x : X) (o : Option X) → b ≡ false → (if b then Some x else o) ≡ o
passed true x o h = cc
passed false x o h = refl

not-taken : {X : Type 0} (b : Bool) (x : X) (o : Option X) → (if b then Some x else o) ≡ None → b ≡ false
not-taken true x o h = cc
not-taken false x o h = refl

-- the word is the text of the next choice
pub chosen : {X : Type 0} (choices : List (Bor (List ℕ) × X)) (i : ℕ) (d : Bor (List ℕ) × X) (word : List ℕ)
    → i < length choices → choice_in (take i choices) word ≡ None → bytes_eq word (get_or choices i d).0.now ≡ true
    → choice_in choices word ≡ Some (get_or choices i d).1
unfolding choice_in
chosen [] i d word below none is = absurd (omega arith)
chosen (c ∷ cs) zero d word below none is = taken (bytes_eq word c.0.now) c.1 (choice_in cs word) is
chosen (c ∷ cs) (suc i) d word below none is =
    let other : bytes_eq word c.0.now ≡ false = not-taken (bytes_eq word c.0.now) c.1 (choice_in (take i cs) word) none in
    let rest : choice_in (take i cs) word ≡ None =
    sym (passed (bytes_eq word c.0.now) c.1 (choice_in (take i cs) word) other) ∙ none in
    passed (bytes_eq word c.0.now) c.1 (choice_in cs word) other ∙ chosen cs i d word (omega arith) rest is

not-yet : {X : Type 0} (choices : List (Bor (List ℕ) × X)) (i : ℕ) (d : Bor (List ℕ) × X) (word : List ℕ)
    → i < length choices → choice_in (take i choices) word ≡ None → bytes_eq word (get_or choices i d).0.now ≡ false
    → choice_in (take (suc i) choices) word ≡ None
unfolding choice_in
not-yet [] i d word below none is = absurd (omega arith)
not-yet (c ∷ cs) zero d word below none is = passed (bytes_eq word c.0.now) c.1 None is
not-yet (c ∷ cs) (suc i) d word below none is =
    let other : bytes_eq word c.0.now ≡ false = not-taken (bytes_eq word c.0.now) c.1 (choice_in (take i cs) word) none in
    let rest : choice_in (take i cs) word ≡ None =
    sym (passed (bytes_eq word c.0.now) c.1 (choice_in (take i cs) word) other) ∙ none in
    passed (bytes_eq word c.0.now) c.1 (choice_in (take (suc i) cs) word) other ∙ not-yet cs i d word (omega arith) rest is

-- it isn't
pub none-more : {X : Type 0} (choices : List (Bor (List ℕ) × X)) (i : ℕ) (d : Bor (List ℕ) × X) (word : List ℕ)
    → i < length choices → choice_in (take i choices) word ≡ None → bytes_eq word (get_or choices i d).0.now ≡ false
    → choice_in (take (i + 1) choices) word ≡ None
none-more choices i d word below none is = rw add-one (not-yet choices i d word below none is)

-- the choice, or another value
abbrev pub or_other : {X : Type 0} → Option X → X → X
or_other None other = other
or_other (Some x) other = x

-- the same, test after test
abbrev pub tested : {X : Type 0} → List (Bor (List ℕ) × X) → List ℕ → X → X
tested [] word other = other
tested (choice ∷ choices) word other = if bytes_eq word choice.0.now then choice.1 else tested choices word other

pub with-other : {X : Type 0} (choices : List (Bor (List ℕ) × X)) (word : List ℕ) (other : X)
    → tested choices word other ≡ or_other (choice_in choices word) other
unfolding choice_in
with-other [] word other = refl
with-other (c ∷ cs) word other = by (bytes_eq word c.0.now) (with-other cs word other)
  where
    by : (b : Bool) → tested cs word other ≡ or_other (choice_in cs word) other
        → (if b then c.1 else tested cs word other) ≡ or_other (if b then Some c.1 else choice_in cs word) other
    by true h = refl
    by false h = h
