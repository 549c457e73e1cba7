use Rattle.std.proofs.Common.{◌∙◌, ◌^◌, ap, sym, subst, pos, lit<, arith, Option, ℤ}
use Rattle.std.specs.Option.{unwrap_or}
use Rattle.fixed_units.specs.Numbers.{IsWithin}
use Rattle.font_metrics.proofs.Scaling.{back64, within64}
use Rattle.font_metrics.proofs.Values.{or_within}
use Rattle.font_metrics.proofs.metrics.Metrics.design_value.Goals as goal

pub returns : goal.returns
returns c =
    let is = c.unwrap_or.ensures in
    let near : IsWithin (2 ^ 16) c.unwrap_or.result =
    subst (IsWithin (2 ^ 16)) (sym is) (or_within 0 c.given_value.result (omega arith) c.given_value.ensures.within) in
    record {
      value = back64 near (lit< tt) ∙ is ∙ ap (λ (o : Option ℤ). unwrap_or o (pos 0)) c.given_value.ensures.value;
      within = within64 near (lit< tt);
    }
