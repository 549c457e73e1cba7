use Rattle.std.proofs.Common.{◌≡◌, ◌∙◌, ap, sym, subst}
use Rattle.font_metrics.specs.Metrics.{MetricsValue}
use Rattle.font_metrics.specs.Taken.{IsTaken}
use Rattle.math_tree.specs.Trees.{IsWhole, TreeValue}
use Rattle.edit_session.specs.Session.{KeptSession}
use Rattle.queries.proofs.answering.has_page.Goals as goal

pub returns : goal.returns
returns c =
    let tree = c.tree.ensures ∙ ap (λ (s : KeptSession). s.held.tree) c.layouts.ensures.exact in
    record {
      taken = subst IsTaken c.metrics.ensures.exact c.is_taken.ensures;
      whole = subst IsWhole tree c.root.ensures.whole;
      fit = c.metrics.ensures.fit;
    }
