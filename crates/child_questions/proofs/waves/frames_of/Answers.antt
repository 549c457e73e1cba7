use Rattle.std.proofs.Common.{ap}
use Rattle.layout_model.specs.declared.outcome.Answer.{Answer}
use Rattle.layout_model.proofs.Told.{told_next}
use Rattle.child_questions.proofs.waves.frames_of.Goals as goal

pub loop-answered-preserved : goal.loop-answered-preserved
loop-answered-preserved g c =
    told_next (g.A.Answered.told) (λ (answer : Answer). answer.frame) c.args.answers.now c.loop-answered.answered-index c.answered-item.result c.loop-answered.frames c.push.new.self _
    c.loop-answered-test.true c.answered-item.is c.loop-answered.invariant (ap (λ (answer : Answer). answer.frame) c.answer.ensures) (c.in_ok-push.ensures {u = tt}).ok
