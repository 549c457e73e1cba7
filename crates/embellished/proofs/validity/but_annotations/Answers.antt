use Rattle.std.proofs.Common.{ap, not}
use Rattle.embellished.specs.Kinds.{is_annotation}
use Rattle.embellished.proofs.Keeping.{kept_more_of}
use Rattle.embellished.proofs.validity.but_annotations.Goals as goal

pub loop-kid-preserved : goal.loop-kid-preserved
loop-kid-preserved c =
    kept_more_of (λ kid. kid.laid) (λ kid. not (is_annotation kid)) c.args.kids.now c.loop-kid.kid-index _
    c.loop-kid-test.true c.loop-kid.invariant (ap not c.is_annotation.ensures) c.in_ok-push_if.ensures
