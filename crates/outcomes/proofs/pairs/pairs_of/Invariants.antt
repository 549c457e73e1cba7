use Rattle.std.proofs.Common.{◌≡◌, All}
use Rattle.fixed_units.specs.Sums.{list_to}
use Rattle.layout_model.specs.Equations.{pair_at}
use Rattle.multiscripts.specs.Along.{IsPairStored}
use Rattle.outcomes.proofs.pairs.pairs_of.Given as goal

-- the pairs so far
abbrev pub invariant-loop-index : goal.invariant-loop-index
invariant-loop-index g l = record {
  value : l.pairs ≡ list_to l.index (pair_at l.e);
  stored : All IsPairStored l.pairs;
}
