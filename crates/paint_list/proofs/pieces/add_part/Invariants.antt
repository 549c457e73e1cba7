use Rattle.std.proofs.Common.{◌≡◌, ◌++◌, replicate}
use Rattle.paint_list.specs.Running.{laid_from, start_after}
use Rattle.paint_list.proofs.pieces.add_part.Given as goal

-- the pieces so far, and where the next one begins
abbrev pub invariant-loop : goal.invariant-loop
invariant-loop l =
    let before = replicate l.counter l.part in
    record {
      paints : l.paints ≡ l.fn.paints ++ laid_from l.metrics l.built l.start before;
      next : l.next ≡ start_after l.metrics l.built l.start before;
    }
