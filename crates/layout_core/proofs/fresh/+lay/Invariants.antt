use Rattle.std.proofs.Common.{◌≡◌, ◌+◌, true, map, take}
use Rattle.layout_core.specs.Slots.{with_laid}
use Rattle.layout_model.specs.Laws.{answer_of}
use Rattle.layout_model.proofs.Waves.{all_fit, count_below}
use Rattle.layout_core.proofs.fresh.+lay.Given as goal

-- the questions so far are answered, each child is kept at its place, and all that was made fits
abbrev pub invariant-ask_all-loop-asked : goal.invariant-ask_all-loop-asked
invariant-ask_all-loop-asked g l = record {
  told : l.answers ≡ map (answer_of l.metrics l.node) (take l.asked-index l.asked-items);
  kept : l.slots.items ≡ with_laid l.metrics l.node (take l.asked-index l.asked-items) l.initial.slots.items;
  count : l.steps ≡ l.initial.steps + count_below l.metrics l.node (take l.asked-index l.asked-items);
  fit : all_fit l.metrics l.node (take l.asked-index l.asked-items) ≡ true;
}
