use Rattle.std.proofs.Common.{◌≡◌, take, fold, map}
use Rattle.std.specs.Int.{int_max}
use Rattle.scripts.proofs.asking.widest.Given as goal

-- the largest width so far
abbrev pub invariant-loop-frame : goal.invariant-loop-frame
invariant-loop-frame l = l.widest ≡ fold int_max l.initial.widest (map (λ next. next.width) (take l.frame-index l.others))
