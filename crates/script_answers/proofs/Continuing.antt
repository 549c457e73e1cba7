-- How the replies to the lines of a script make its output.
use Rattle.std.proofs.Common.{◌≡◌, ◌⊎◌, inl, inr, ◌∙◌, ap, sym, refl, subst, ℕ, ◌+◌, zero, suc, ◌≤◌, ◌&&◌, nat_le, Bool, true, false, cond, List, [], ◌∷◌, ◌++◌, length, take, append-nil, arith, Option, Some, None}
use Rattle.std.proofs.Math.Seq.{take-append-add, take-append_seam}
use Rattle.std.proofs.lemmas.List.{take-append-le}
use Rattle.std.specs.Prelude.{Err}
use Rattle.std.specs.List.{concat, list_all, take_while}
use Rattle.std.proofs.lemmas.List.Sums.{take_while-cons}
use Rattle.std.proofs.lemmas.Bool.Decides.{nat_tests}
use Rattle.std.specs.Io.KnownBytes.{Appends}
use Rattle.doc_io.specs.Causes.{InputsTold, Rose, SinkTold}
use Rattle.doc_io.proofs.Known.{appends_both, kept_of_nothing}
use Rattle.script_answers.specs.Responders.{Responder, all_replies, each_reply}
use Rattle.doc_io.specs.LineReader.{is_short}
use Rattle.script_answers.specs.Script.{within, is_within}
use Rattle.script_answers.specs.Lines.{Tells, status_of_stop}
use Rattle.script_answers.specs.Texts.{Text, replies_within, status_of_end}
use Rattle.script_answers.specs.Delivering.{Breaks, Delivers}
use Rattle.script_answers.specs.declared.stop.Stop.{Stop}
use Rattle.script_answers.specs.declared.stop.Stop.TheVariants as stop
use Rattle.input_files.specs.declared.status.Status.TheVariants.{ReadFault, WriteFault}

-- ---- limits

-- a line within its limit is answered before the others
pub within_more : (most : ℕ) (line : List ℕ) (lines : List (List ℕ)) → is_short line ≡ true
    → within (suc most) (line ∷ lines) ≡ line ∷ within most lines
unfolding within
within_more most line lines short =
    take_while-cons is_short line (take most lines) ∙ ap (λ b. cond b (line ∷ take_while is_short (take most lines)) []) short

-- the first line that passes a limit, and none behind it, isn't
within_none : (most : ℕ) (line : List ℕ) (lines : List (List ℕ)) → (most ≡ 0) ⊎ (is_short line ≡ false)
    → within most (line ∷ lines) ≡ []
unfolding within
within_none zero line lines h = refl
within_none (suc most) line lines (inl none) = absurd (omega (arith, none))
within_none (suc most) line lines (inr long) =
    take_while-cons is_short line (take most lines) ∙ ap (λ b. cond b (line ∷ take_while is_short (take most lines)) []) long

count_more : (n most : ℕ) → nat_le (suc n) (suc most) ≡ nat_le n most
count_more n most = grind (arith, nat_tests)

is_within_more : (most : ℕ) (line : List ℕ) (lines : List (List ℕ)) → is_short line ≡ true
    → is_within (suc most) (line ∷ lines) ≡ is_within most lines
unfolding is_within
is_within_more most line lines short =
    ap (λ b. nat_le (suc (length lines)) (suc most) && (b && list_all is_short lines)) short
    ∙ ap (λ b. b && list_all is_short lines) (count_more (length lines) most)

count_none : (n : ℕ) → nat_le (suc n) 0 ≡ false
count_none n = grind (arith, nat_tests)

and_false : (b c : Bool) → c ≡ false → (b && c) ≡ false
and_false true c h = h
and_false false c h = refl

is_within_none : (most : ℕ) (line : List ℕ) (lines : List (List ℕ)) → (most ≡ 0) ⊎ (is_short line ≡ false)
    → is_within most (line ∷ lines) ≡ false
unfolding is_within
is_within_none most line lines (inl none) =
    ap (λ m. nat_le (suc (length lines)) m && (is_short line && list_all is_short lines)) none
    ∙ ap (λ b. b && (is_short line && list_all is_short lines)) (count_none (length lines))
is_within_none most line lines (inr long) =
    and_false _ _ (ap (λ b. b && list_all is_short lines) long)

-- no line is left
nothing_within : (most : ℕ) → within most [] ≡ []
unfolding within
nothing_within zero = refl
nothing_within (suc most) = refl

nothing_passes : (most : ℕ) → is_within most [] ≡ true
unfolding is_within
nothing_passes most = let few : nat_le 0 most ≡ true = grind (arith, nat_tests) in ap (λ b. b && true) few

-- ---- the replies to what is left

pub more_replies : (R : Responder) (most : ℕ) (known : R.Known) (line : List ℕ) (lines : List (List ℕ)) → is_short line ≡ true
    → replies_within R (suc most) known (line ∷ lines)
    ≡ record { bytes = R.told_of known line ++ (replies_within R most (R.after_line known line) lines).bytes; parts = R.told_of known line ∷ (replies_within R most (R.after_line known line) lines).parts; whole = (replies_within R most (R.after_line known line) lines).whole }
more_replies R most known line lines short = λ i. record {
  bytes = all_replies R known (within_more most line lines short i);
  parts = each_reply R known (within_more most line lines short i);
  whole = is_within_more most line lines short i;
}

pub stopped_replies : (R : Responder) (most : ℕ) (known : R.Known) (line : List ℕ) (lines : List (List ℕ)) → (most ≡ 0) ⊎ (is_short line ≡ false)
    → replies_within R most known (line ∷ lines) ≡ record { bytes = []; parts = []; whole = false }
stopped_replies R most known line lines h = λ i. record {
  bytes = all_replies R known (within_none most line lines h i);
  parts = each_reply R known (within_none most line lines h i);
  whole = is_within_none most line lines h i;
}

pub no_replies : (R : Responder) (most : ℕ) (known : R.Known) → replies_within R most known [] ≡ record { bytes = []; parts = []; whole = true }
no_replies R most known = λ i. record {
  bytes = all_replies R known (nothing_within most i);
  parts = each_reply R known (nothing_within most i);
  whole = nothing_passes most i;
}

-- ---- what was written so far

-- what was written and the replies to what is left are the whole text
pub record Continues (wanted left : Text) (first now : SinkTold) : Type 0 where
  pub sent : List ℕ
  pub together : sent ++ left.bytes ≡ wanted.bytes
  -- in whole parts
  pub parts : List (List ℕ)
  pub split : sent ≡ concat parts
  pub parts_together : parts ++ left.parts ≡ wanted.parts
  pub whole : left.whole ≡ wanted.whole
  pub appended : Appends first.written now.written sent
  pub later : first.faults ≤ now.faults

-- nothing is appended to bytes that stay
pub appends_nothing : (a : Option (List ℕ)) → Appends a a []
appends_nothing None = tt
appends_nothing (Some a) = sym (append-nil a)

-- what was written is a front of the text
pub front_so_far : (wanted left : Text) (first now : SinkTold) → Continues wanted left first now
    → (n : ℕ) × Appends first.written now.written (take n wanted.bytes)
front_so_far wanted left first now c =
    (length c.sent, subst (Appends first.written now.written) (sym (take-append_seam c.sent left.bytes) ∙ ap (take (length c.sent)) c.together) c.appended)

-- of whole parts
between_so_far : (wanted left : Text) (first now : SinkTold) → Continues wanted left first now
    → (n : ℕ) × Appends first.written now.written (concat (take n wanted.parts))
between_so_far wanted left first now c =
    let fronts : c.parts ≡ take (length c.parts) wanted.parts = sym (take-append_seam c.parts left.parts) ∙ ap (take (length c.parts)) c.parts_together in
    (length c.parts, subst (Appends first.written now.written) (c.split ∙ ap concat fronts) c.appended)

no_write_fault : (whole : Bool) → ¬ (status_of_end whole ≡ WriteFault)
no_write_fault true e = cc
no_write_fault false e = cc

-- nothing more is to be written
pub closes : (wanted left : Text) (first now : SinkTold) (whole : Bool) → left ≡ record { bytes = []; parts = []; whole = whole }
    → Continues wanted left first now → Delivers wanted.bytes (status_of_end wanted.whole) first now (status_of_end whole)
closes wanted left first now whole is c =
    let all : c.sent ≡ wanted.bytes = sym (append-nil c.sent) ∙ ap (λ (o : Text). c.sent ++ o.bytes) (sym is) ∙ c.together in
    let same : status_of_end whole ≡ status_of_end wanted.whole = ap status_of_end (ap (λ (o : Text). o.whole) (sym is) ∙ c.whole) in
    let written : Appends first.written now.written wanted.bytes = subst (Appends first.written now.written) all c.appended in
    record {
      whole = inr (same, written);
      front = front_so_far wanted left first now c;
      fault = λ w. absurd (no_write_fault whole w);
      later = c.later;
      silent = λ none. (same, kept_of_nothing first.written now.written (subst (Appends first.written now.written) none written));
    }

-- a read failed before the next line
pub breaks_at_read : (wanted left : Text) (before after : InputsTold) (first now : SinkTold) → Continues wanted left first now
    → Rose before.faults after.faults → Breaks wanted.bytes wanted.parts before after first now ReadFault
breaks_at_read wanted left before after first now c rose = record {
  cause = inr (refl, rose);
  front = front_so_far wanted left first now c;
  between = between_so_far wanted left first now c;
  later = c.later;
}

-- a front of the next reply was written behind what was written before
front_more : (wanted left : Text) (first now later : SinkTold) (text others : List ℕ) (stop : Stop) → left.bytes ≡ text ++ others
    → Continues wanted left first now → Tells text now later (Err stop)
    → (n : ℕ) × Appends first.written later.written (take n wanted.bytes)
front_more wanted left first now later text others stop is c told =
    let n = told.front.0 in
    let whole : c.sent ++ (text ++ others) ≡ wanted.bytes = ap (λ bs. c.sent ++ bs) (sym is) ∙ c.together in (
      length c.sent + n,
      subst (Appends first.written later.written)
          (ap (λ bs. c.sent ++ bs) (sym (take-append-le n text others told.front.1)) ∙ sym (take-append-add c.sent (text ++ others) n) ∙ ap (take (length c.sent + n)) whole)
          (appends_both first.written now.written later.written c.sent (take n text) c.appended told.front.2),
    )

both_empty : (xs ys : List ℕ) → xs ++ ys ≡ [] → (xs ≡ []) × (ys ≡ [])
both_empty [] ys h = (refl, h)
both_empty (x ∷ xs) ys h = absurd cc

-- the reply to a line wasn't written
pub stops : (wanted left : Text) (before after : InputsTold) (first now later : SinkTold) (text others : List ℕ) (stop : Stop)
    → left.bytes ≡ text ++ others → Continues wanted left first now → Tells text now later (Err stop)
    → Delivers wanted.bytes (status_of_end wanted.whole) first later (status_of_stop stop)
    ⊎ Breaks wanted.bytes wanted.parts before after first later (status_of_stop stop)
stops wanted left before after first now later text others stop.WriteFault is c told = inl (record {
  whole = inl refl;
  front = front_more wanted left first now later text others stop.WriteFault is c told;
  fault = λ w. let rose = told.fault refl in omega (arith, c.later);
  later = omega (arith, c.later, told.later);
  silent = λ none.
      let left_none = (both_empty c.sent left.bytes (c.together ∙ none)).1 in
      let text_none = (both_empty text others (sym is ∙ left_none)).0 in
      absurd (told.silent text_none refl);
})
stops wanted left before after first now later text others stop.Memory is c told = inr (record {
  cause = inl refl;
  front = front_more wanted left first now later text others stop.Memory is c told;
  between = subst (λ (o : SinkTold). (n : ℕ) × Appends first.written o.written (concat (take n wanted.parts))) (sym (told.unmade refl))
      (between_so_far wanted left first now c);
  later = omega (arith, c.later, told.later);
})
stops wanted left before after first now later text others stop.ReadFault is c told =
    absurd (elim told.causes [ inl w ↦ cc | inr m ↦ cc ])
stops wanted left before after first now later text others stop.ScriptLimit is c told =
    absurd (elim told.causes [ inl w ↦ cc | inr m ↦ cc ])
