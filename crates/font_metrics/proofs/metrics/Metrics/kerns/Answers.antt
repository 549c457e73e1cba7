use Rattle.std.proofs.Common.{◌∙◌, ap, subst, sym}
use Rattle.std.specs.List.{All}
use Rattle.font_metrics.specs.Metrics.{MetricsValue, items_of, kerns_of, kerns_at}
use Rattle.font_metrics.specs.Taken.{IsTaken, IsKern}
use Rattle.font_metrics.proofs.Finish.{whole_taken}
use Rattle.font_metrics.proofs.Values.{kerns_in}
use Rattle.font_metrics.proofs.metrics.Metrics.kerns.Goals as goal

pub returns-clause-value : goal.returns-clause-value
unfolding kerns_of
returns-clause-value c =
    c.items.ensures ∙ ap (λ (m : MetricsValue). items_of (kerns_at c.args.corner m.tables.kerns) c.args.glyph.0) c.self.view_is

pub returns-clause-items : goal.returns-clause-items
returns-clause-items c =
    subst (All IsKern) (sym (returns-clause-value c))
    (kerns_in c.args.self.now c.args.glyph.0 c.args.corner (subst IsTaken c.self.view_is (whole_taken c.self.inside c.self.invariant)))
