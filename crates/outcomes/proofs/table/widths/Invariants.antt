use Rattle.std.proofs.Common.{◌≡◌, map, take}
use Rattle.fixed_units.specs.declared.boxes.MathBox.{MathBox}
use Rattle.outcomes.proofs.table.widths.Given as goal

-- the boxes so far
abbrev pub invariant-loop-frame : goal.invariant-loop-frame
invariant-loop-frame l = l.widths ≡ map (λ (frame : MathBox). frame.width) (take l.frame-index l.frames)
