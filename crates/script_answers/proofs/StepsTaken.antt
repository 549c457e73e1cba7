-- The steps of lines, one after another.
use Rattle.std.proofs.Common.{◌≡◌, inl, inr, ◌∙◌, ap, sym, refl, subst, ℕ, ◌+◌, ◌-◌, suc, Bool, true, false, List, [], ◌∷◌, ◌++◌, length, take, append_assoc, arith, Option, Some, None, IfSome}
use Rattle.std.proofs.Math.Seq.{take-append_seam}
use Rattle.std.specs.Prelude.{Result, Ok, Err, IsSomeAnd}
use Rattle.std.specs.Option.{option_map}
use Rattle.doc_io.specs.Causes.{InputsTold}
use Rattle.doc_io.specs.LineReader.{GivesLine, ReaderValue, behind_line, left_of, lines_of, most_lines}
use Rattle.doc_io.specs.declared.line_reader.Line.TheVariants.{Whole}
use Rattle.doc_io.proofs.LineLaws.{given_line, short_line}
use Rattle.script_answers.specs.Responders.{LineSteps, Responder, TakesForLines, after_all}
use Rattle.script_answers.specs.Script.{within}
use Rattle.script_answers.specs.Steps.{TakesForNext, TakesForScript, lines_left}
use Rattle.script_answers.specs.declared.stop.Stop.{Stop}
use Rattle.script_answers.proofs.Continuing.{within_more}

-- ---- one line after another

-- one more line
for_more : (R : Responder) (Takes : LineSteps R) (known : R.Known) (lines : List (List ℕ)) (line : List ℕ) (from mid to : ℕ) → TakesForLines R Takes known lines from mid
    → Takes (after_all R known lines) line mid to → TakesForLines R Takes known (lines ++ line ∷ []) from to
for_more R Takes known [] line from mid to steps more =
    (to, subst (λ n. Takes known line n to) steps more, refl)
for_more R Takes known (first ∷ lines) line from mid to steps more =
    (steps.0, steps.1, for_more R Takes (R.after_line known first) lines line steps.0 mid to steps.2 more)

after_more : (R : Responder) (Takes : LineSteps R) (known : R.Known) (lines : List (List ℕ)) (line : List ℕ)
    → after_all R known (lines ++ line ∷ []) ≡ R.after_line (after_all R known lines) line
after_more R Takes known [] line = refl
after_more R Takes known (first ∷ lines) line = after_more R Takes (R.after_line known first) lines line

-- the lines that are left, behind those that were answered
abbrev ComesBehind : List (List ℕ) → Option (List (List ℕ)) → Option (List (List ℕ)) → Type 0
ComesBehind lines all left = IfSome all (λ all. IsSomeAnd left (λ left. all ≡ lines ++ left))

behind_none : (all : Option (List (List ℕ))) → ComesBehind [] all all
behind_none None = tt
behind_none (Some all) = refl

behind_more : (lines : List (List ℕ)) (line : List ℕ) (all left left' : Option (List (List ℕ))) → ComesBehind lines all left
    → ComesBehind (line ∷ []) left left' → ComesBehind (lines ++ line ∷ []) all left'
behind_more lines line None left left' b c = tt
behind_more lines line (Some all) None left' b c = absurd b
behind_more lines line (Some all) (Some left) None b c = absurd c
behind_more lines line (Some all) (Some left) (Some left') b c =
    b ∙ ap (λ ls. lines ++ ls) c ∙ sym (append_assoc lines (line ∷ []) left')

-- what comes before is a front
front_of : (lines : List (List ℕ)) (all left : Option (List (List ℕ))) → ComesBehind lines all left
    → IfSome all (λ all. (n : ℕ) × (lines ≡ take n all))
front_of lines None left b = tt
front_of lines (Some all) None b = absurd b
front_of lines (Some all) (Some left) b =
    (length lines, sym (take-append_seam lines left) ∙ ap (take (length lines)) (sym b))

-- a line that is given is the first of those that are left
line_before : (reader next : ReaderValue) (now after : InputsTold) → GivesLine reader next now after (Ok Whole)
    → ComesBehind (next.line ∷ []) (lines_left reader now) (lines_left next after)
line_before reader next now after g = by (left_of reader now) refl
  where
    room : most_lines - reader.given ≡ suc (most_lines - (reader.given + 1))
    room = omega (arith, g.few refl)

    by : (left : Option (List ℕ)) → left_of reader now ≡ left
        → ComesBehind (next.line ∷ []) (option_map (λ bytes. within (most_lines - reader.given) (lines_of bytes)) left) (lines_left next after)
    by None e = tt
    by (Some bytes) e =
        let given = given_line (record { reader = reader; inputs = now }) (record { reader = next; inputs = after }) bytes e g in
        let lines = lines_of (behind_line bytes) in
        let more : within (most_lines - reader.given) (lines_of bytes) ≡ next.line ∷ within (most_lines - next.given) lines =
        (λ i. within (room i) (given.0 i)) ∙ within_more (most_lines - (reader.given + 1)) next.line lines (short_line next.line (g.short refl))
        ∙ (λ i. next.line ∷ within (most_lines - sym g.given i) lines) in
        subst (λ (o : Option (List ℕ)). IsSomeAnd (option_map (λ bytes. within (most_lines - next.given) (lines_of bytes)) o)
        (λ left. within (most_lines - reader.given) (lines_of bytes) ≡ (next.line ∷ []) ++ left))
        (sym given.1) more

-- ---- a run of lines

module _ (R : Responder) (Takes : LineSteps R) (known : R.Known) (reader : ReaderValue) (start : InputsTold) (from : ℕ) where
  -- how it stands after some lines
  pub record Took (known' : R.Known) (reader' : ReaderValue) (now : InputsTold) (to : ℕ) : Type 0 where
    pub lines : List (List ℕ)
    pub behind : ComesBehind lines (lines_left reader start) (lines_left reader' now)
    pub steps : TakesForLines R Takes known lines from to
    pub after : known' ≡ after_all R known lines

  pub took_none : Took known reader start from
  took_none = record { lines = []; behind = behind_none (lines_left reader start); steps = refl; after = refl }

  -- the lines so far
  pub took_all : (known' : R.Known) (reader' : ReaderValue) (now : InputsTold) (to : ℕ) → Took known' reader' now to
      → TakesForScript R Takes known (lines_left reader start) from to
  took_all known' reader' now to t = record {
    lines = t.lines;
    front = front_of t.lines (lines_left reader start) (lines_left reader' now) t.behind;
    steps = t.steps;
  }

  module _ (known' known'' : R.Known) (reader' next : ReaderValue) (now after : InputsTold) (mid to : ℕ)
      (t : Took known' reader' now mid) where
    pub took_more : known'' ≡ R.after_line known' next.line → GivesLine reader' next now after (Ok Whole)
        → Takes known' next.line mid to → Took known'' next after to
    took_more is g line = record {
      lines = t.lines ++ next.line ∷ [];
      behind = behind_more t.lines next.line (lines_left reader start) (lines_left reader' now) (lines_left next after) t.behind (line_before reader' next now after g);
      steps = for_more R Takes known t.lines next.line from mid to t.steps (subst (λ s. Takes s next.line mid to) t.after line);
      after = is ∙ ap (λ s. R.after_line s next.line) t.after ∙ sym (after_more R Takes known t.lines next.line);
    }

    -- nothing more
    pub took_same : to ≡ mid → Took known' reader' now to
    took_same none = subst (Took known' reader' now) (sym none) t

    pub took_no_more : to ≡ mid → TakesForScript R Takes known (lines_left reader start) from to
    took_no_more none = took_all known' reader' now to (took_same none)

-- how the run goes on, by what became of the next line
module _ (R : Responder) (Takes : LineSteps R) (known : R.Known) (reader : ReaderValue) (start : InputsTold) (from : ℕ) (known' known'' : R.Known)
    (reader' next : ReaderValue) (now after : InputsTold) (mid to : ℕ) (t : Took R Takes known reader start from known' reader' now mid) where
  pub takes_on : (result : Result Bool Stop) → result ≡ Ok true → known'' ≡ R.after_line known' next.line
      → GivesLine reader' next now after (Ok Whole) → TakesForNext R Takes known' reader' next now after mid to result
      → Took R Takes known reader start from known'' next after to
  takes_on result there is g n = took_more R Takes known reader start from known' known'' reader' next now after mid to t is g (n.line there)

  pub takes_no_more : (result : Result Bool Stop) → result ≡ Ok false → TakesForNext R Takes known' reader' next now after mid to result
      → TakesForScript R Takes known (lines_left reader start) from to
  takes_no_more result away n = took_no_more R Takes known reader start from known' known'' reader' next now after mid to t (n.end away)

  pub takes_last : (why : Stop) → TakesForNext R Takes known' reader' next now after mid to (Err why)
      → TakesForScript R Takes known (lines_left reader start) from to
  takes_last why n = elim n.stop [
    | inl none ↦ took_no_more R Takes known reader start from known' known'' reader' next now after mid to t none
    | inr line ↦
        took_all R Takes known reader start from (R.after_line known' next.line) next after to
        (took_more R Takes known reader start from known' (R.after_line known' next.line) reader' next now after mid to t refl line.0 line.1)
  ]

-- no line was answered
pub for_no_next : (R : Responder) (Takes : LineSteps R) (known : R.Known) (reader next : ReaderValue) (now after : InputsTold) (from to : ℕ) (why : Stop) (result : Result Bool Stop)
    → result ≡ Err why → to ≡ from → TakesForNext R Takes known reader next now after from to result
for_no_next R Takes known reader next now after from to why result is none =
    subst (TakesForNext R Takes known reader next now after from to) (sym is) (record { line = λ e. absurd cc; end = λ e. absurd cc; stop = inl none })

-- the reply to a line wasn't written
pub for_cut_next : (R : Responder) (Takes : LineSteps R) (known : R.Known) (reader next : ReaderValue) (now after : InputsTold) (from to : ℕ) (why : Stop) (result : Result Bool Stop)
    → result ≡ Err why → GivesLine reader next now after (Ok Whole) → Takes known next.line from to
    → TakesForNext R Takes known reader next now after from to result
for_cut_next R Takes known reader next now after from to why result is g line =
    subst (TakesForNext R Takes known reader next now after from to) (sym is) (record { line = λ e. absurd cc; end = λ e. absurd cc; stop = inr (g, line) })

-- ---- a script

pub for_no_lines : (R : Responder) (Takes : LineSteps R) (known : R.Known) (script : Option (List (List ℕ))) (from to : ℕ) → to ≡ from → TakesForScript R Takes known script from to
for_no_lines R Takes known script from to none = record { lines = []; front = by script; steps = none }
  where
    by : (script : Option (List (List ℕ))) → IfSome script (λ all. (n : ℕ) × ([] ≡ take n all))
    by None = tt
    by (Some all) = (0, refl)

abbrev pub Front : List (List ℕ) → Option (List (List ℕ)) → Type 0
Front lines script = IfSome script (λ all. (n : ℕ) × (lines ≡ take n all))
