use Rattle.embellished.specs.Seen.{seen_of}
use Rattle.layout_model.specs.Answers.{answers_in}
use Rattle.layout_model.specs.Layout.{equation}
use Rattle.layout_model.proofs.Spans.{equation_spans}
use Rattle.outcomes.proofs.Exactly.{fits_alike, kept_exactly, kept_fits, kept_spans}
use Rattle.outcomes.proofs.finishing.EquationsFinish.finish_replies.Goals as goal

pub returns-clause-ok : goal.returns-clause-ok
returns-clause-ok g c =
    let exact = equation c.args.metrics.now (seen_of (g.V.View.element c.args.view.now)) c.args.context.now (answers_in c.args.one.now) (answers_in c.args.two.now) in
    kept_exactly exact c.in_ok-outcome.field-0 c.storable.result (c.in_ok-outcome.ensures {u = tt}) c.storable.ensures.ok c.storable.ensures.fit

pub returns-clause-fit : goal.returns-clause-fit
returns-clause-fit g c =
    let exact = equation c.args.metrics.now (seen_of (g.V.View.element c.args.view.now)) c.args.context.now (answers_in c.args.one.now) (answers_in c.args.two.now) in
    kept_fits exact c.in_ok-outcome.field-0 c.storable.result (c.in_ok-outcome.ensures {u = tt}) c.storable.ensures.fit

pub returns-clause-range : goal.returns-clause-range
returns-clause-range g c =
    let exact = equation c.args.metrics.now (seen_of (g.V.View.element c.args.view.now)) c.args.context.now (answers_in c.args.one.now) (answers_in c.args.two.now) in
    λ refused. fits_alike exact c.in_ok-outcome.field-0 (c.in_ok-outcome.ensures {u = tt}) (c.storable.ensures.range refused)

pub returns-clause-spans : goal.returns-clause-spans
returns-clause-spans g c =
    let exact = equation c.args.metrics.now (seen_of (g.V.View.element c.args.view.now)) c.args.context.now (answers_in c.args.one.now) (answers_in c.args.two.now) in
    kept_spans exact c.storable.result
    (equation_spans c.args.metrics.now (seen_of (g.V.View.element c.args.view.now)) c.args.context.now (answers_in c.args.one.now) (answers_in c.args.two.now))
    (kept_exactly exact c.in_ok-outcome.field-0 c.storable.result (c.in_ok-outcome.ensures {u = tt}) c.storable.ensures.ok c.storable.ensures.fit)
