use Rattle.std.proofs.Common.{rules, subst, sym}
use Rattle.font_metrics.specs.Metrics.{place_of_letter, missing_place, glyph_at}
use Rattle.font_metrics.specs.Taken.{IsTaken, IsInDesign, IsMeasured}
use Rattle.font_metrics.proofs.Bounds.{glyph_measured, glyph_in_design}
use Rattle.font_metrics.proofs.Finish.{whole_taken}
use Rattle.font_metrics.proofs.metrics.Metrics.glyph.Goals as goal

pub returns-clause-value : goal.returns-clause-value
unfolding place_of_letter missing_place glyph_at
returns-clause-value c = search rules

pub returns-clause-within : goal.returns-clause-within
returns-clause-within c =
    subst IsInDesign (sym (returns-clause-value c))
    (glyph_in_design c.args.self.now c.args.glyph.0 (subst IsTaken c.self.view_is (whole_taken c.self.inside c.self.invariant)) c.requires)

pub returns-clause-ranges : goal.returns-clause-ranges
returns-clause-ranges c =
    subst IsMeasured (sym (returns-clause-value c))
    (glyph_measured c.args.self.now c.args.glyph.0 (subst IsTaken c.self.view_is (whole_taken c.self.inside c.self.invariant)) c.requires)
