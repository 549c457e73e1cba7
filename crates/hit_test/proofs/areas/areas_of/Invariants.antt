use Rattle.std.proofs.Common.{◌≡◌, take, map}
use Rattle.std.specs.BTreeSet.{contains}
use Rattle.std.specs.Ordering.{nat_cmp}
use Rattle.std.specs.Prelude.{filter}
use Rattle.box_writer.specs.declared.placed.PlacedBox.{PlacedBox}
use Rattle.hit_test.specs.Hits.{boxes_of}
use Rattle.hit_test.specs.Selecting.{area_of}
use Rattle.hit_test.proofs.areas.areas_of.Given as goal

-- the areas of the items so far
abbrev pub invariant-loop-item : goal.invariant-loop-item
invariant-loop-item l =
    l.areas ≡ map area_of (filter (λ (box : PlacedBox). contains nat_cmp l.marked box.id.0) (boxes_of (take l.item-index l.items)))
