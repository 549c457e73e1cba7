-- The first characters of a text.
use Rattle.std.proofs.Common.{◌≡◌, ◌∙◌, ap, ℕ, List, [], ◌∷◌, ◌++◌, length, chars, arith}
use Rattle.std.proofs.lemmas.Str.{chars-nil, chars_past_char, IsUtf8-past_char}
use Rattle.std.specs.Str.{IsUtf8}
use lib.Utf8.{encode}

none_left : (rest : List ℕ) → length rest ≡ 0 → chars rest ≡ []
none_left [] e = chars-nil
none_left (b ∷ bs) e = absurd (omega (arith, e))

pub only_one : (text first : List ℕ) (a : ℕ) → IsUtf8 text → text ≡ encode a ++ first → length first ≡ 0
    → chars text ≡ a ∷ []
only_one text first a is e none = chars_past_char text first a is e ∙ ap (λ cs. a ∷ cs) (none_left first none)

pub two_or_more : (text first : List ℕ) (a : ℕ) → IsUtf8 text → text ≡ encode a ++ first
    → (second : List ℕ) (b : ℕ) → first ≡ encode b ++ second → chars text ≡ a ∷ b ∷ chars second
two_or_more text first a is e second b f =
    chars_past_char text first a is e
    ∙ ap (λ cs. a ∷ cs) (chars_past_char first second b (IsUtf8-past_char text first a is e) f)
