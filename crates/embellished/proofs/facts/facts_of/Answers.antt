use Rattle.std.proofs.Common.{◌≡◌, ◌∙◌, sym, ap, subst, true, map, IfOk}
use Rattle.embellished.specs.Facts.{facts_as, facts_over, laid_kind}
use Rattle.embellished.specs.Validity.{laid_as}
use Rattle.embellished.specs.Flow.{flow_by, shows_each}
use Rattle.embellished.proofs.InFlow.{each_in_flow}
use Rattle.embellished.proofs.facts.facts_of.Goals as goal

pub returns-then-shows_each : goal.returns-then-shows_each
unfolding facts_over
returns-then-shows_each c =
    let head = c.args.head.now in
    let kids = c.args.kids.now in
    let laid = c.in_ok-laid.laid in
    let same = c.as_slice-kids.ensures in
    let each : shows_each laid_kind laid kids ≡ true = ap (shows_each laid_kind laid) (sym same) ∙ sym c.shows_each.ensures ∙ c.if-shows_each.true in
    let flow = same ∙ sym (each_in_flow laid_kind laid kids each) in
    let whole = ap (facts_as head laid) flow ∙ ap (λ l. facts_as head l (flow_by laid_kind l kids)) (c.in_ok-laid.ensures {u = tt} ∙ ap (λ l. laid_as head.kind (map laid_kind l)) same) in
    subst (λ f. IfOk c.facts_as.result (λ facts. facts ≡ f)) whole c.facts_as.ensures
