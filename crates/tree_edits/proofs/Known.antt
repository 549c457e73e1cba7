-- A word that isn't a known one.
use Rattle.std.proofs.Common.{◌≡◌, sym, ℕ, List, false}
use Rattle.std.proofs.lemmas.Bool.{false_from_ne_true}
use Rattle.std.proofs.lemmas.Slice.Eq.{bytes_eq-Decides}
use Rattle.std.specs.Str.{bytes_eq}

pub off : {word known : List ℕ} → (word ≡ known → ⊥) → bytes_eq known word ≡ false
off {word} {known} other =
    false_from_ne_true (bytes_eq known word) (λ e. other (sym ((bytes_eq-Decides known word).0 e)))
