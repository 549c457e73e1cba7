use Rattle.std.proofs.Common.{◌-◌, ◌≤◌}
use Rattle.seeded_edits.specs.Edits.{drawn_edits}
use Rattle.generator.proofs.Counting.{Continues}
use Rattle.generator.proofs.run.make_edits.Given as goal

-- the edits that are left continue what the ones before have begun
abbrev pub invariant-loop : goal.invariant-loop
invariant-loop g l = record {
  left : Continues l.initial.session.held (drawn_edits l.count l.seed) l.initial.steps l.session.held (drawn_edits (l.count - l.counter) l.draws) l.accepted l.steps;
  few : l.accepted ≤ l.counter;
}
