use Rattle.std.proofs.Common.{arith, lit<}
use Rattle.std.proofs.lemmas.Int.{to_z-of_z}
use Rattle.fixed_units.proofs.Within.{fits_i64}
use Rattle.radicals.specs.Placing.{root_with_index_of}
use Rattle.radicals.proofs.placing.root_with_index.Goals as goal

pub returns : goal.returns
unfolding root_with_index_of
returns c =
    let f1 = fits_i64 c.root_start-start.ensures.within (lit< tt) in
    grind (arith, to_z-of_z)
