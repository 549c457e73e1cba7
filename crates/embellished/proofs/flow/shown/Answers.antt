use Rattle.std.proofs.Common.{◌∙◌, ap, [], ◌∷◌, ◌++◌, if◌then◌else◌}
use Rattle.embellished.specs.Flow.{may_show}
use Rattle.embellished.proofs.Keeping.{kept_more}
use Rattle.embellished.proofs.flow.shown.Goals as goal

pub loop-kid-preserved : goal.loop-kid-preserved
loop-kid-preserved g c =
    let laid = c.args.laid in
    let kind = g.T.LaidOut.kind in
    let kid = c.kid-item.result in
    kept_more (λ next. may_show laid (kind next)) c.args.kids.now c.loop-kid.kid-index kid
    c.loop-kid-test.true c.loop-kid.invariant
    (c.may_show.ensures ∙ ap (may_show laid) c.laid.ensures ∙ ap (λ next. may_show laid (kind next)) c.kid-item.is)
    (c.in_ok-push_if.ensures ∙ ap (λ next. c.loop-kid.flow.items ++ (if c.may_show.result then next ∷ [] else [])) c.kid-item.is)
