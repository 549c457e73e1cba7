-- The characters of a text, taken one after another.
use Rattle.std.proofs.Common.{◌≡◌, ◌∙◌, ap, ℕ, List, [], ◌∷◌, ◌++◌, length, chars, arith}
use Rattle.std.proofs.lemmas.Str.{chars-nil, chars_past_char, IsUtf8-past_char}
use Rattle.std.specs.Str.{IsUtf8}
use lib.Utf8.{encode}

none_left : (rest : List ℕ) → length rest ≡ 0 → chars rest ≡ []
none_left [] e = chars-nil
none_left (b ∷ bs) e = absurd (omega (arith, e))

module _ (text first : List ℕ) (a : ℕ) (is : IsUtf8 text) (e : text ≡ encode a ++ first) where
  pub one_letter : length first ≡ 0 → chars text ≡ a ∷ []
  one_letter none = chars_past_char text first a is e ∙ ap (λ cs. a ∷ cs) (none_left first none)

  module _ (second : List ℕ) (b : ℕ) (f : first ≡ encode b ++ second) where
    pub two_letters : length second ≡ 0 → chars text ≡ a ∷ b ∷ []
    two_letters none =
        chars_past_char text first a is e ∙ ap (λ cs. a ∷ cs) (chars_past_char first second b (IsUtf8-past_char text first a is e) f)
        ∙ ap (λ cs. a ∷ b ∷ cs) (none_left second none)

    pub more_letters : (third : List ℕ) (c : ℕ) → second ≡ encode c ++ third → chars text ≡ a ∷ b ∷ c ∷ chars third
    more_letters third c g =
        let behind = IsUtf8-past_char text first a is e in
        chars_past_char text first a is e ∙ ap (λ cs. a ∷ cs) (chars_past_char first second b behind f)
        ∙ ap (λ cs. a ∷ b ∷ cs) (chars_past_char second third c (IsUtf8-past_char first second b behind f) g)
