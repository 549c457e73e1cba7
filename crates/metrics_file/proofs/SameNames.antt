-- Names that are the same.
use Rattle.std.proofs.lemmas.Slice.Eq.{bytes_eq-Decides}
use Rattle.std.specs.Cmp.{IsEquivalence}
use Rattle.std.specs.Str.{bytes_eq}
use Rattle.op_dictionary.proofs.Same.{equivalence}

pub same_bytes : IsEquivalence bytes_eq
same_bytes = equivalence bytes_eq (λ b. b) (λ x y. (bytes_eq-Decides x y).0) (λ x y. (bytes_eq-Decides x y).1)
