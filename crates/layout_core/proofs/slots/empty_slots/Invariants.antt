use Rattle.std.proofs.Common.{◌≡◌, replicate, None}
use Rattle.layout_core.proofs.slots.empty_slots.Given as goal

-- the places so far
abbrev pub invariant-loop : goal.invariant-loop
invariant-loop l = l.slots.items ≡ replicate l.counter None
