use Rattle.std.proofs.Common.{sym, subst, take, All}
use Rattle.fixed_units.specs.Boxes.{IsStored, farthest}
use Rattle.fixed_units.specs.Numbers.{IsWithin}
use Rattle.outcomes.proofs.Lists.{All-taken}
use Rattle.outcomes.proofs.CellBounds.{widths_in}
use Rattle.outcomes.proofs.table.widths.Goals as goal

pub returns-clause-within : goal.returns-clause-within
returns-clause-within c =
    let i = c.loop-frame.frame-index in
    let frames = c.args.frames.now in
    subst (All (IsWithin farthest)) (sym c.loop-frame.invariant) (widths_in (take i frames) (All-taken IsStored i frames c.requires))
