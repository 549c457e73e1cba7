use Rattle.std.proofs.Common.{◌≡◌, take, fold}
use Rattle.fixed_units.specs.Boxes.{joined}
use Rattle.multiscripts.specs.Heights.{moved}
use Rattle.multiscripts.proofs.heights.union.Given as goal

-- the scripts so far are joined to the base
abbrev pub invariant-loop-pair : goal.invariant-loop-pair
invariant-loop-pair l = l.all ≡ fold joined l.base (moved l.shifts (take l.pair-index l.pairs))
