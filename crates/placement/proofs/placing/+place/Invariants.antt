use Rattle.std.proofs.Common.{◌≡◌, map, ◌++◌}
use Rattle.layout_model.specs.declared.laid.Laid.TheViews.{out-Laid}
use Rattle.placement.specs.Placing.{kids_at, placed}
use Rattle.placement.proofs.Showing.{kids_from}
use Rattle.placement.proofs.placing.+place.Given as goal

-- what the children from here on show completes what there is
abbrev pub invariant-place_kids-loop-index : goal.invariant-place_kids-loop-index
invariant-place_kids-loop-index l =
    l.items ++ kids_from l.x l.y l.offsets l.kids l.index
    ≡ l.fn.items ++ kids_at l.x l.y (out-Laid l.laid).outcome.offsets (map placed (out-Laid l.laid).kids)
