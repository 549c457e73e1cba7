use Rattle.std.proofs.Common.{◌≡◌, ◌∙◌, ap, subst}
use Rattle.font_metrics.specs.Taken.{IsTaken}
use Rattle.line_replies.specs.HistorySteps.{ring_of}
use Rattle.line_replies.proofs.Histories.{show_makes}
use Rattle.line_replies.proofs.history.show.Goals as goal

pub returns-in-Ok : goal.returns-in-Ok
returns-in-Ok c =
    let ring = c.args.ring.now in
    let same : c.metrics.result.now ≡ ring.base.session.held.metrics = c.metrics.ensures.exact ∙ ap (λ t. t.metrics) c.in-Ok.ensures.shows.unchanged in
    show_makes ring.base.session.held ring.past ring.future ring.depth (ring_of c.show.new.self) c.in-Ok.placed (subst IsTaken same c.is_taken.ensures)
    c.in-Ok.ensures.shows.stood c.in-Ok.ensures.shows.boxes c.in-Ok.ensures.unchanged
