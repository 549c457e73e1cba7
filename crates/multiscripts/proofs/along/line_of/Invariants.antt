use Rattle.std.proofs.Common.{◌≡◌}
use Rattle.multiscripts.specs.Along.{line_at}
use Rattle.multiscripts.proofs.along.line_of.Given as goal

-- how far the pairs so far reach
abbrev pub invariant-loop-pair : goal.invariant-loop-pair
invariant-loop-pair l = l.line ≡ line_at l.space l.base l.large l.pairs l.pair-index
