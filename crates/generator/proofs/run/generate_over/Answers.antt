use Rattle.std.proofs.Common.{subst}
use Rattle.math_tree.specs.Trees.{TreeValue}
use Rattle.edit_session.specs.Counts.{TakesVisits}
use Rattle.seeded_edits.specs.Edits.{drawn_edits}
use Rattle.generator.specs.Generated.{first_session}
use Rattle.generator.proofs.Counting.{none_taken}
use Rattle.generator.proofs.run.generate_over.Goals as goal

pub returns-in_err-session-clause-steps : goal.returns-in_err-session-clause-steps
returns-in_err-session-clause-steps g c = record {
  laid = c.start.new.steps;
  start = subst (λ (tree : TreeValue). TakesVisits c.args.metrics tree c.args.steps.now c.start.new.steps) c.requires c.start.ensures.visits;
  edits = none_taken (first_session c.args.metrics) (drawn_edits c.args.count c.args.seed) c.start.new.steps;
}
