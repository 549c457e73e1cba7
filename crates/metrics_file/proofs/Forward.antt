-- Line after line gives what the first faulty line and all lines say.
use Rattle.std.proofs.Common.{◌≡◌, ◌==◌, Bool, true, arith, ◌≢◌, ◌∙◌, sym, ap, refl, ℕ, ◌+◌, List, [], ◌∷◌, ◌++◌, length, Result, Ok, Err, append_assoc, append-nil}
use Rattle.std.proofs.lemmas.Bool.Decides.{nat_tests}
use Rattle.std.proofs.lemmas.List.{length_push}
use Rattle.std.specs.Str.Lines.{lines}
use Rattle.font_metrics.specs.declared.fault.LineFault.{LineFault}
use Rattle.metrics_file.specs.declared.refusal.LineRefusal.{LineRefusal}
use Rattle.metrics_file.specs.declared.refusal.LineRefusal.TheVariants.{Fault as FaultyLine, Memory as NoMemory}
use Rattle.font_metrics.specs.Whole.{Given}
use Rattle.font_metrics.specs.Faults.{Step}
use Rattle.font_metrics.specs.Metrics.{MetricsValue}
use Rattle.metrics_file.specs.Reading.{Fault, fault_at, fault_or, nothing, after, after_first, kept, given_from, given_by, first_fault_behind, finished, numbered, metrics_or, lines_of, metrics_of}
use Rattle.metrics_file.specs.Reads.{Reads, Takes, refusal_at}

-- what follows a line, where it isn't faulty
abbrev pub continued : ℕ → Step Given → (Given → Result MetricsValue Fault) → Result MetricsValue Fault
continued number (Ok next) rest = rest next
continued number (Err fault) rest = Err (fault_at number fault)

-- what lines give behind so many others that have given something
abbrev pub from_line : ℕ → Given → List (List ℕ) → Result MetricsValue Fault
from_line number given [] = numbered (number + 1) (finished given)
from_line number given (line ∷ lines) =
    continued (number + 1) (after given line) (λ next. from_line (number + 1) next lines)

pub given_from-push : (g : Given) (lines : List (List ℕ)) (line : List ℕ)
    → given_from g (lines ++ line ∷ []) ≡ kept (given_from g lines) (after (given_from g lines) line)
given_from-push g [] line = refl
given_from-push g (l ∷ ls) line = given_from-push (kept g (after g l)) ls line

one_by_one : (first : List ℕ) (start : Given) (before lines : List (List ℕ)) → kept (nothing 1) (after_first first) ≡ start
    → metrics_or (first_fault_behind (first ∷ before) lines) (first ∷ (before ++ lines))
    ≡ from_line (length (first ∷ before)) (given_from start before) lines
one_by_one first start before [] begins =
    ap (λ l. numbered (length (first ∷ l) + 1) (finished (given_by (first ∷ l)))) (append-nil before)
    ∙ ap (λ g. numbered (length (first ∷ before) + 1) (finished (given_from g before))) begins
one_by_one first start before (line ∷ lines) begins =
    by (after (given_by (first ∷ before)) line) refl (one_by_one first start (before ++ line ∷ []) lines begins)
  where
    same : given_by (first ∷ before) ≡ given_from start before
    same = ap (λ g. given_from g before) begins

    by : (s : Step Given) → after (given_by (first ∷ before)) line ≡ s
        → metrics_or (first_fault_behind (first ∷ (before ++ line ∷ [])) lines) (first ∷ ((before ++ line ∷ []) ++ lines))
        ≡ from_line (length (first ∷ (before ++ line ∷ []))) (given_from start (before ++ line ∷ [])) lines
        → metrics_or
        (fault_or (length (first ∷ before) + 1) s (first_fault_behind (first ∷ (before ++ line ∷ [])) lines))
        (first ∷ (before ++ line ∷ lines))
        ≡ continued (length (first ∷ before) + 1) (after (given_from start before) line)
        (λ next. from_line (length (first ∷ before) + 1) next lines)
    by (Err fault) e more =
        ap (λ s. continued (length (first ∷ before) + 1) s (λ next. from_line (length (first ∷ before) + 1) next lines))
        (sym e ∙ ap (λ g. after g line) same)
    by (Ok next) e more =
        let step : after (given_from start before) line ≡ Ok next = ap (λ g. after g line) (sym same) ∙ e in
        ap (λ l. metrics_or (first_fault_behind (first ∷ (before ++ line ∷ [])) lines) (first ∷ l))
        (sym (append_assoc before (line ∷ []) lines))
        ∙ more
        ∙ ap (λ n. from_line n (given_from start (before ++ line ∷ [])) lines) (length_push (first ∷ before) line)
        ∙ ap (λ g. from_line (length (first ∷ before) + 1) g lines)
        (given_from-push start before line ∙ ap (kept (given_from start before)) step)
        ∙ ap (λ s. continued (length (first ∷ before) + 1) s (λ next. from_line (length (first ∷ before) + 1) next lines))
        (sym step)

pub from_first : (bytes first : List ℕ) (lines : List (List ℕ)) → lines_of bytes ≡ first ∷ lines
    → metrics_of bytes ≡ continued 1 (after_first first) (λ next. from_line 1 next lines)
unfolding metrics_of
from_first bytes first lines h =
    ap (λ l. metrics_or (first_fault_behind [] l) l) h
    ∙ by (after_first first) refl (λ start. one_by_one first start [] lines)
  where
    by : (s : Step Given) → after_first first ≡ s
        → ((start : Given) → kept (nothing 1) (after_first first) ≡ start
        → metrics_or (first_fault_behind (first ∷ []) lines) (first ∷ lines) ≡ from_line 1 start lines)
        → metrics_or (fault_or 1 s (first_fault_behind (first ∷ []) lines)) (first ∷ lines)
        ≡ continued 1 s (λ next. from_line 1 next lines)
    by (Err fault) e more = refl
    by (Ok next) e more = more next (ap (kept (nothing 1)) e)

-- a line's refusal is that of the file
pub stopped : (said : Result MetricsValue Fault) (number : ℕ) (s : Step Given) (new : Given)
    (rest : Given → Result MetricsValue Fault) (refusal : LineRefusal) → said ≡ continued number s rest
    → Takes s new (Err refusal) → Reads {X = MetricsValue} said (Err (refusal_at number refusal))
stopped said number s new rest (FaultyLine fault) h k =
    (fault_at number fault, h ∙ ap (λ t. continued number t rest) k, refl)
stopped said number s new rest NoMemory h k = tt

-- ---- the text that is left

pub more : (rest line left : List ℕ) (number : ℕ) (g : Given) → rest ≢ [] → lines_of rest ≡ line ∷ lines left
    → from_line number g (lines rest)
    ≡ continued (number + 1) (after g line) (λ next. from_line (number + 1) next (lines left))
more [] line left number g some h = absurd (some refl)
more (b ∷ bs) line left number g some h = ap (from_line number g) h

pub ended : (rest : List ℕ) (number : ℕ) (g : Given) → rest ≡ []
    → from_line number g (lines rest) ≡ numbered (number + 1) (finished g)
ended rest number g h = ap (λ r. from_line number g (lines r)) h

pub lacks : (said : Result MetricsValue Fault) (number : ℕ) (fault : LineFault) (s : Step MetricsValue)
    → said ≡ numbered number s → Err fault ≡ s → Reads {X = MetricsValue} said (Err (refusal_at number (FaultyLine fault)))
lacks said number fault s h k = (fault_at number fault, h ∙ ap (numbered number) (sym k), refl)

pub none_left : (rest : List ℕ) (b : Bool) → b ≡ (length rest == 0) → b ≡ true → rest ≡ []
none_left [] b h k = refl
none_left (x ∷ xs) b h k = let none : ⊥ = grind (arith, nat_tests) in absurd none
