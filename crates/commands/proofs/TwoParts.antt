-- How the answers of two parts, one after the other, make the answer of both.
use Rattle.std.proofs.Common.{◌≡◌, ◌⊎◌, inl, inr, refl, ap, sym, ◌∙◌, subst, arith, Option, Some, None, IfSome, ◌≤◌}
use Rattle.std.specs.Prelude.{Result, Ok, Err, IsErrOf, IsSomeAnd, IsNone}
use Rattle.std.specs.Option.{option_map}
use Rattle.doc_io.specs.Causes.{Files, InputsTold}
use Rattle.input_files.specs.Files.{GivesOr}
use Rattle.line_replies.specs.Opening.{◌>>=◌}
use Rattle.commands.specs.Ends.{HasReadCause, IsCut, Answers}
use Rattle.input_files.specs.declared.refusal.Refusal.{Refusal}
use Rattle.input_files.specs.declared.refusal.Refusal.TheVariants.{ReadFault}

-- the same refusal, of another type of answer
pub cut_again : {A B : Type 0} (r : Refusal) → IsCut {V = A} (Err r) → IsCut {V = B} (Err r)
cut_again r (inl fault) = inl (let e = fault in cc)
cut_again r (inr memory) = inr (let e = memory in cc)

pub err_again : {A B : Type 0} (r s : Refusal) → IsErrOf {T = A} (Err r) s → IsErrOf {T = B} (Err r) s
err_again r s e = cc

pub ok_is_not_cut : {A : Type 0} (a : A) → IsCut (Ok a) → ⊥
ok_is_not_cut a (inl fault) = cc
ok_is_not_cut a (inr memory) = cc

-- an answer has one value
same_ok : {A : Type 0} (said : Result A Refusal) (a b : A) → said ≡ Ok a → said ≡ Ok b → a ≡ b
same_ok said a b e f = cc

-- a cause of a part is one of the whole
cause_of_more : (lacks lacks' : Files → Type 0) (before mid after : InputsTold) → mid.files ≡ before.files
    → before.faults ≤ mid.faults → before.missing ≤ mid.missing
    → ((f : Files) → before.files ≡ Some f → lacks f → lacks' f) → HasReadCause lacks mid after → HasReadCause lacks' before after
cause_of_more lacks lacks' before mid after same f m more (inl rose) = inl (omega arith)
cause_of_more lacks lacks' before mid after same f m more (inr (inl lack)) = inr (inl (by before.files refl (subst (λ o. IsSomeAnd o lacks) same lack)))
  where
    by : (files : Option Files) → before.files ≡ files → IsSomeAnd files lacks → IsSomeAnd files lacks'
    by None is h = h
    by (Some g) is h = more g is h
cause_of_more lacks lacks' before mid after same f m more (inr (inr untold)) = inr (inr (subst IsNone same untold.0, omega (arith, untold.1)))

-- ---- one part, and then the next

-- what the first part gives, and then the next
abbrev both : {A B : Type 0} → (Files → Result A Refusal) → (A → Files → Result B Refusal) → Files → Result B Refusal
both first next files = first files >>= λ value. next value files

module _ {A B : Type 0} (first : Files → Result A Refusal) (next : A → Files → Result B Refusal)
    (lacks : Files → Type 0) (lacks_next : A → Files → Type 0) (lacks_both : Files → Type 0)
    (which : (f : Files) → lacks_both f → lacks f ⊎ ((value : A) × (first f ≡ Ok value) × lacks_next value f))
    (before : InputsTold) where
  -- the first part was refused: there is no answer, and the next part isn't reached
  pub refused : (after : InputsTold) (r : Refusal) → ((f : Files) → lacks f → lacks_both f)
      → Answers (option_map first before.files) lacks before after (Err r)
      → Answers (option_map (both first next) before.files) lacks_both before after (Err r)
  refused after r more a = record {
    answer = answer before.files a.answer;
    fault = λ is. cause_of_more lacks lacks_both before before after refl (omega arith) (omega arith)
        (λ f there lack. more f lack) (a.fault (err_again r ReadFault is));
    lacking = lacking before.files refl a.answer;
    files = a.files;
    faults = a.faults;
    missing = a.missing;
  }
    where
      answer : (files : Option Files) → IfSome (option_map first files) (λ w. IsCut {V = A} (Err r) ⊎ (Err r ≡ w))
          → IfSome (option_map (both first next) files) (λ w. IsCut {V = B} (Err r) ⊎ (Err r ≡ w))
      answer None h = tt
      answer (Some f) (inl cut) = inl (cut_again r cut)
      answer (Some f) (inr same) = inr (ap (λ x. x >>= λ value. next value f) same)

      lacking : (files : Option Files) → before.files ≡ files
          → IfSome (option_map first files) (λ w. IsCut {V = A} (Err r) ⊎ (Err r ≡ w))
          → IsSomeAnd files lacks_both → IsCut {V = B} (Err r)
      lacking None is h lack = absurd lack
      lacking (Some f) is h lack = elim (which f lack) [
        | inl none ↦ cut_again r (a.lacking (subst (λ o. IsSomeAnd o lacks) (sym is) none))
        | inr later ↦ elim h [ inl cut ↦ cut_again r cut | inr same ↦ absurd (let e = same ∙ later.1 in cc) ]
      ]

  -- the first part gave a value: the next part decides
  pub continued : (mid after : InputsTold) (value : A) (result : Result B Refusal)
      → ((f : Files) → first f ≡ Ok value → lacks_next value f → lacks_both f)
      → Answers (option_map first before.files) lacks before mid (Ok value)
      → Answers (option_map (next value) mid.files) (lacks_next value) mid after result
      → Answers (option_map (both first next) before.files) lacks_both before after result
  continued mid after value result more a b = record {
    answer = answer before.files refl;
    fault = λ is. cause_of_more (lacks_next value) lacks_both before mid after a.files a.faults a.missing
        (λ f there lack. more f (given f there) lack) (b.fault is);
    lacking = lacking before.files refl;
    files = b.files ∙ a.files;
    faults = omega (arith, a.faults, b.faults);
    missing = omega (arith, a.missing, b.missing);
  }
    where
      given : (f : Files) → before.files ≡ Some f → first f ≡ Ok value
      given f is = elim (subst (λ o. IfSome (option_map first o) (λ w. IsCut (Ok value) ⊎ (Ok value ≡ w))) is a.answer) [
        | inl cut ↦ absurd (ok_is_not_cut value cut)
        | inr same ↦ sym same
      ]

      answer : (files : Option Files) → before.files ≡ files → IfSome (option_map (both first next) files) (λ w. IsCut result ⊎ (result ≡ w))
      answer None is = tt
      answer (Some f) is =
          elim (subst (λ o. IfSome (option_map (next value) o) (λ w. IsCut result ⊎ (result ≡ w))) (a.files ∙ is) b.answer) [
            | inl cut ↦ inl cut
            | inr same ↦ inr (same ∙ sym (ap (λ x. x >>= λ value. next value f) (given f is)))
          ]

      lacking : (files : Option Files) → before.files ≡ files → IsSomeAnd files lacks_both → IsCut result
      lacking None is lack = absurd lack
      lacking (Some f) is lack = elim (which f lack) [
        | inl none ↦ absurd (ok_is_not_cut value (a.lacking (subst (λ o. IsSomeAnd o lacks) (sym is) none)))
        | inr later ↦
            let same : later.0 ≡ value = same_ok (first f) later.0 value later.1 (given f is) in
            b.lacking (subst (λ o. IsSomeAnd o (lacks_next value)) (sym (a.files ∙ is)) (subst (λ v. lacks_next v f) same later.2))
      ]

-- what needs no file
pub without_files : {V : Type 0} (wanted result : Result V Refusal) (seen : InputsTold) → ¬ (wanted ≡ Err ReadFault) → GivesOr wanted result
    → Answers (option_map (λ f. wanted) seen.files) (λ f. ⊥) seen seen result
without_files wanted result seen own gives = record {
  answer = answer seen.files;
  fault = λ is. elim gives [ inl memory ↦ absurd (let e = sym is ∙ memory in cc) | inr same ↦ absurd (own (sym same ∙ is)) ];
  lacking = λ lack. absurd (none seen.files lack);
  files = refl;
  faults = omega arith;
  missing = omega arith;
}
  where
    answer : (files : Option Files) → IfSome (option_map (λ f. wanted) files) (λ w. IsCut result ⊎ (result ≡ w))
    answer None = tt
    answer (Some f) = elim gives [ inl memory ↦ inl (inr memory) | inr same ↦ inr same ]

    none : (files : Option Files) → IsSomeAnd files (λ f. ⊥) → ⊥
    none None lack = lack
    none (Some f) lack = lack
