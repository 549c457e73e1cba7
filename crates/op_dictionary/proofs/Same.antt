-- Texts, forms and operator lines that are the same are equal, and conversely.
use Rattle.std.proofs.Common.{◌≡◌, Bool, true, false, ◌&&◌, refl, ap, sym, ◌∙◌, arith, eq-eqb}
use Rattle.std.proofs.lemmas.Bool.{and_parts, and_from}
use Rattle.std.proofs.lemmas.Grind.{common_steps}
use Rattle.std.specs.Cmp.{IsEquivalence}
use Rattle.op_dictionary.specs.declared.operator.Form.{Form}
use Rattle.op_dictionary.specs.declared.operator.Form.TheVariants.{Prefix, Infix, Postfix}
use Rattle.op_dictionary.specs.declared.text.OpText.{OpText}
use Rattle.op_dictionary.specs.declared.text.OpText.TheVariants.{Empty, One, Two, Other}
use Rattle.op_dictionary.specs.Dictionary.{same_pair}
use Rattle.op_dictionary.specs.Kept.{same_key}
use Rattle.op_dictionary.specs.Pairs.{same_text, same_form}

pub same_text-equal : (t u : OpText) → same_text t u ≡ true → t ≡ u
same_text-equal Empty Empty h = refl
same_text-equal (One a) (One b) h = grind (arith, common_steps)
same_text-equal (Two a c) (Two b d) h = grind (arith, common_steps)
same_text-equal Other Other h = refl
same_text-equal Empty (One b) h = cc
same_text-equal Empty (Two b d) h = cc
same_text-equal Empty Other h = cc
same_text-equal (One a) Empty h = cc
same_text-equal (One a) (Two b d) h = cc
same_text-equal (One a) Other h = cc
same_text-equal (Two a c) Empty h = cc
same_text-equal (Two a c) (One b) h = cc
same_text-equal (Two a c) Other h = cc
same_text-equal Other Empty h = cc
same_text-equal Other (One b) h = cc
same_text-equal Other (Two b d) h = cc

same_text-self : (t : OpText) → same_text t t ≡ true
same_text-self Empty = refl
same_text-self (One a) = eq-eqb a a refl
same_text-self (Two a b) = λ i. eq-eqb a a refl i && eq-eqb b b refl i
same_text-self Other = refl

pub same_form-equal : (f g : Form) → same_form f g ≡ true → f ≡ g
same_form-equal Prefix Prefix h = refl
same_form-equal Infix Infix h = refl
same_form-equal Postfix Postfix h = refl
same_form-equal Prefix Infix h = cc
same_form-equal Prefix Postfix h = cc
same_form-equal Infix Prefix h = cc
same_form-equal Infix Postfix h = cc
same_form-equal Postfix Prefix h = cc
same_form-equal Postfix Infix h = cc

same_form-self : (f : Form) → same_form f f ≡ true
same_form-self Prefix = refl
same_form-self Infix = refl
same_form-self Postfix = refl

-- ---- pairs

-- a pair that is the same has the same text and form, and conversely
pub same-parts : (t u : OpText) (f g : Form) → (same_text t u && same_form f g) ≡ true → (t ≡ u) × (f ≡ g)
same-parts t u f g h =
    let p = and_parts (same_text t u) (same_form f g) h in (same_text-equal t u p.0, same_form-equal f g p.1)

pub same-from_parts : (t u : OpText) (f g : Form) → t ≡ u → f ≡ g → (same_text t u && same_form f g) ≡ true
same-from_parts t u f g e k =
    and_from (same_text t u) (same_form f g)
    (ap (same_text t) (sym e) ∙ same_text-self t) (ap (same_form f) (sym k) ∙ same_form-self f)

-- ---- operator lines

-- an equality that decides whether what it reads is the same
pub equivalence : {K T : Type 0} (E : K → K → Bool) (f : K → T) → ((x y : K) → E x y ≡ true → f x ≡ f y)
    → ((x y : K) → f x ≡ f y → E x y ≡ true) → IsEquivalence E
equivalence {K} E f to from = record {
  refl = λ x. from x x refl;
  symm = λ x y. alike (E x y) (E y x) (λ h. from y x (sym (to x y h))) (λ h. from x y (sym (to y x h)));
  congr = λ x y z h.
      alike (E x z) (E y z) (λ k. from y z (sym (to x y h) ∙ to x z k)) (λ k. from x z (to x y h ∙ to y z k));
}
  where
    alike : (a b : Bool) → (a ≡ true → b ≡ true) → (b ≡ true → a ≡ true) → a ≡ b
    alike true b h k = sym (h refl)
    alike false true h k = k refl
    alike false false h k = refl

pub same_pairs : IsEquivalence same_pair
same_pairs =
    equivalence {T = OpText × Form} same_pair (λ l. (l.text, l.form))
    (λ x y h. let p = same-parts x.text y.text x.form y.form h in λ i. (p.0 i, p.1 i))
    (λ x y h. same-from_parts x.text y.text x.form y.form (ap (λ p. p.0) h) (ap (λ p. p.1) h))

pub same_texts : IsEquivalence same_text
same_texts =
    equivalence same_text (λ t. t) same_text-equal (λ t u e. ap (same_text t) (sym e) ∙ same_text-self t)

pub same_keys : IsEquivalence same_key
same_keys =
    equivalence {T = OpText × Form} same_key (λ k. (k.text, k.form))
    (λ x y h. let p = same-parts x.text y.text x.form y.form h in λ i. (p.0 i, p.1 i))
    (λ x y h. same-from_parts x.text y.text x.form y.form (ap (λ p. p.0) h) (ap (λ p. p.1) h))
