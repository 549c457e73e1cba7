use Rattle.std.proofs.Common.{arith, []}
use Rattle.seeded_edits.specs.Edits.{drawn_edits}
use Rattle.generator.specs.Generated.{first_session}
use Rattle.generator.proofs.Counting.{none_taken}
use Rattle.generator.proofs.run.generate.Goals as goal

pub returns-in-Err-clause-steps : goal.returns-in-Err-clause-steps
returns-in-Err-clause-steps g c = record {
  laid = c.args.steps.now;
  start = record { pairs = []; steps = omega arith; visited = tt; apart = tt };
  edits = none_taken (first_session c.args.metrics) (drawn_edits c.args.count c.args.seed) c.args.steps.now;
}
