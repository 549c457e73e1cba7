use Rattle.std.proofs.Common.{◌≡◌, map, take}
use Rattle.layout_model.specs.declared.outcome.Answer.{Answer}
use Rattle.child_questions.proofs.waves.frames_of.Given as goal

-- the answers so far
abbrev pub invariant-loop-answered : goal.invariant-loop-answered
invariant-loop-answered g l = l.frames ≡ map (λ (answer : Answer). answer.frame) (map (g.A.Answered.told) (take l.answered-index l.answers))
