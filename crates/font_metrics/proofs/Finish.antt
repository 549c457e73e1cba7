-- What a file gives at its end.
use Rattle.std.proofs.Common.{◌≡◌, ◌∙◌, ap, sym, subst, ◌≤◌, codes, Some, Ok, refl}
use Rattle.std.specs.Option.{IfSome, IsSome}
use Rattle.font_metrics.specs.declared.fault.LineFault.TheVariants.{NoUpem, NoLine, NoXHeight, NoMissing}
use Rattle.font_metrics.specs.declared.given.Needed.{Needed}
use Rattle.font_metrics.specs.declared.metrics.Metrics.TheInside.{Inside}
use Rattle.font_metrics.specs.Faults.{or_fault}
use Rattle.font_metrics.specs.Metrics.{place_of_name}
use Rattle.font_metrics.specs.Whole.{Given, needed, metrics_with, IsUpem, IsLine, IsGiven, IsWhole, value_of}
use Rattle.font_metrics.specs.Taken.{IsTaken}
use Rattle.font_metrics.proofs.Steps.{same_Ok, had, found}

-- what metrics need was given
pub record AreThere (g : Given) (n : Needed) : Type 0 where
  pub upem : g.upem ≡ Some n.upem
  pub line : g.line ≡ Some n.line
  pub x_height : g.x_height ≡ Some n.x_height
  pub missing : place_of_name g.glyphs (codes "missing") ≡ Some n.missing

pub needs_are : (g : Given) (n : Needed) → needed g ≡ Ok n → AreThere g n
needs_are g n h =
    let u = had (or_fault NoUpem g.upem) _ n h in
    let l = had (or_fault NoLine g.line) _ n u.2 in
    let x = had (or_fault NoXHeight g.x_height) _ n l.2 in
    let p = had (or_fault NoMissing (place_of_name g.glyphs (codes "missing"))) _ n x.2 in
    let e = same_Ok _ n p.2 in
    record {
      upem = found g.upem NoUpem u.0 u.1 ∙ ap (λ (n : Needed). Some n.upem) e;
      line = found g.line NoLine l.0 l.1 ∙ ap (λ (n : Needed). Some n.line) e;
      x_height = found g.x_height NoXHeight x.0 x.1 ∙ ap (λ (n : Needed). Some n.x_height) e;
      missing = found (place_of_name g.glyphs (codes "missing")) NoMissing p.0 p.1 ∙ ap (λ (n : Needed). Some n.missing) e;
    }

pub missing_is : (g : Given) (n : Needed) → needed g ≡ Ok n → place_of_name g.glyphs (codes "missing") ≡ Some n.missing
missing_is g n h = (needs_are g n h).missing

-- what holds of all that lines give holds of their metrics
pub taken_of : (g : Given) (n : Needed) → IsGiven g → needed g ≡ Ok n → IsTaken (metrics_with n g)
taken_of g n h e =
    let there = needs_are g n e in
    let upem = subst (λ o. IfSome o IsUpem) there.upem h.upem in
    let line = subst (λ o. IfSome o IsLine) there.line h.line in
    record {
      version = h.version;
      known = h.known;
      upem_low = upem.0;
      upem_high = upem.1;
      line_ascent = line.0;
      line_descent = line.1;
      x_height = subst (λ o. IfSome o (λ n. n ≤ 65535)) there.x_height h.x_height;
      overlap = h.overlap;
      constants = h.constants.ranges;
      constants_ordered = h.constants.ordered;
      count = h.glyphs.count;
      glyphs = h.glyphs.ranges;
      names = h.glyphs.names;
      missing = subst IsSome (sym there.missing) refl;
      characters = h.characters.ranges;
      characters_ordered = h.characters.ordered;
      tables = h.tables;
      operators = h.operators.texts;
      operators_distinct = h.operators.distinct;
    }

pub whole_taken : (m : Inside) → IsWhole m → IsTaken (value_of m)
whole_taken m h = taken_of m.given m.needs h.given h.needs
