use Rattle.std.proofs.Common.{◌≡◌, ◌++◌}
use Rattle.layout_core.specs.Slots.{filled}
use Rattle.layout_core.proofs.slots.filled.Given as goal

-- the children so far, and those that come
abbrev pub invariant-loop-slot : goal.invariant-loop-slot
invariant-loop-slot l = l.kids ++ filled l.slot-iterator.rest.items ≡ filled l.fn.slots.items
