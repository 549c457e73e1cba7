use Rattle.std.proofs.Common.{◌≡◌, take, fold}
use Rattle.fixed_units.specs.Boxes.{joined}
use Rattle.fixed_units.proofs.boxes.join_all.Given as goal

-- the boxes so far are joined
abbrev pub invariant-loop-frame : goal.invariant-loop-frame
invariant-loop-frame l = l.all ≡ fold joined l.initial.all (take l.frame-index l.others)
