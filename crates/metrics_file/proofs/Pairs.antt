-- Steps one behind another give what their pairs give.
use Rattle.std.proofs.Common.{◌≡◌, refl, Ok, Err}
use Rattle.font_metrics.specs.Faults.{Step, ◌>>=◌, step_map, both}

pub four : {A B C D R : Type 0} (a : Step A) (b : Step B) (c : Step C) (d : Step D) (f : (A × B) × (C × D) → R)
    → (a >>= λ x. b >>= λ y. c >>= λ z. d >>= λ w. Ok (f ((x, y), (z, w)))) ≡ step_map f (both (both a b) (both c d))
four (Ok x) (Ok y) (Ok z) (Ok w) f = refl
four (Ok x) (Ok y) (Ok z) (Err fault) f = refl
four (Ok x) (Ok y) (Err fault) d f = refl
four (Ok x) (Err fault) c d f = refl
four (Err fault) b c d f = refl

pub five : {A B C D E R : Type 0} (a : Step A) (b : Step B) (c : Step C) (d : Step D) (e : Step E)
    (f : (A × B) × ((C × D) × E) → R)
    → (a >>= λ x. b >>= λ y. c >>= λ z. d >>= λ w. e >>= λ v. Ok (f ((x, y), ((z, w), v))))
    ≡ step_map f (both (both a b) (both (both c d) e))
five (Ok x) (Ok y) (Ok z) (Ok w) (Ok v) f = refl
five (Ok x) (Ok y) (Ok z) (Ok w) (Err fault) f = refl
five (Ok x) (Ok y) (Ok z) (Err fault) e f = refl
five (Ok x) (Ok y) (Err fault) d e f = refl
five (Ok x) (Err fault) c d e f = refl
five (Err fault) b c d e f = refl

pub three : {A B C R : Type 0} (a : Step A) (b : Step B) (c : Step C) (f : A × (B × C) → R)
    → (a >>= λ x. b >>= λ y. c >>= λ z. Ok (f (x, (y, z)))) ≡ step_map f (both a (both b c))
three (Ok x) (Ok y) (Ok z) f = refl
three (Ok x) (Ok y) (Err fault) f = refl
three (Ok x) (Err fault) c f = refl
three (Err fault) b c f = refl
