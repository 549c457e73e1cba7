use Rattle.std.proofs.Common.{◌∙◌, ◌≤◌, ap, subst, sym, length}
use Rattle.std.specs.List.{All}
use Rattle.font_metrics.specs.Metrics.{MetricsValue, items_of, parts_of, along}
use Rattle.font_metrics.specs.Taken.{IsTaken, IsPart}
use Rattle.font_metrics.proofs.Finish.{whole_taken}
use Rattle.font_metrics.proofs.Values.{parts_in, parts_few}
use Rattle.font_metrics.proofs.metrics.Metrics.assembly.Goals as goal

pub returns-clause-value : goal.returns-clause-value
unfolding parts_of
returns-clause-value c =
    c.items.ensures ∙ ap (λ (m : MetricsValue). items_of (along c.args.axis m.tables.parts) c.args.glyph.0) c.self.view_is

pub returns-clause-items : goal.returns-clause-items
returns-clause-items c =
    let m = c.args.self.now in
    subst (All (IsPart (length m.glyphs))) (sym (returns-clause-value c))
    (parts_in m c.args.glyph.0 c.args.axis (subst IsTaken c.self.view_is (whole_taken c.self.inside c.self.invariant)))

pub returns-clause-few : goal.returns-clause-few
returns-clause-few c =
    subst (λ l. length l ≤ 16) (sym (returns-clause-value c))
    (parts_few c.args.self.now c.args.glyph.0 c.args.axis (subst IsTaken c.self.view_is (whole_taken c.self.inside c.self.invariant)))
