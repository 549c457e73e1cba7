use Rattle.std.proofs.Common.{◌≡◌, ◌<◌, ◌^◌, true, take}
use Rattle.std.specs.List.{list_all}
use Rattle.layout_model.specs.Range.{offset_fits}
use Rattle.layout_model.proofs.range.are_inside.Given as goal

-- the bits of those so far tell of each of them
abbrev pub invariant-loop-offset : goal.invariant-loop-offset
invariant-loop-offset l = l.bits < 2 ^ 31 → list_all offset_fits (take l.offset-index l.offsets) ≡ true
