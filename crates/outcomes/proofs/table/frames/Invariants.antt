use Rattle.std.proofs.Common.{◌≡◌, All, map, take}
use Rattle.fixed_units.specs.Boxes.{IsStored}
use Rattle.layout_model.specs.declared.outcome.Answer.{Answer}
use Rattle.outcomes.proofs.table.frames.Given as goal

-- the children so far
abbrev pub invariant-loop-index : goal.invariant-loop-index
invariant-loop-index g l = record {
  value : l.frames ≡ map (λ (answer : Answer). answer.frame) (take l.index l.e.kids);
  stored : All IsStored l.frames;
}
