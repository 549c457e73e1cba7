use Rattle.std.proofs.Common.{◌≡◌, subst, sym, ◌≤ℤ◌, to_z, of_z, w64, arith}
use Rattle.std.specs.Int.{int_max, int_min}
use Rattle.std.proofs.lemmas.Int.{to_z-of_z}
use Rattle.token_boxes.specs.Operator.{largest_size}
use Rattle.token_boxes.proofs.Between.{between}
use Rattle.token_boxes.proofs.sizes.most.Goals as goal

pub returns-clause-within : goal.returns-clause-within
returns-clause-within c =
    let is : to_z w64 (of_z w64 c.min.result) ≡ int_min (int_max c.in_ok-most.most c.args.least) largest_size = grind (arith, to_z-of_z) in
    subst (λ z. (c.args.least ≤ℤ z) × (z ≤ℤ largest_size)) (sym is) (between c.in_ok-most.most c.args.least c.requires.least_high)
