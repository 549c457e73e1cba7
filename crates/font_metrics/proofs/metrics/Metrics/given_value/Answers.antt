use Rattle.std.proofs.Common.{◌≡◌, ◌∙◌, ◌^◌, ap, sym, subst, lit<, nat_eq, Some, Option, ℤ}
use Rattle.std.specs.Map.{lookup}
use Rattle.std.specs.Option.{IfSome}
use Rattle.fixed_units.specs.Numbers.{IsWithin}
use Rattle.font_metrics.specs.Constants.{place_of_constant}
use Rattle.font_metrics.specs.Metrics.{MetricsValue, given_constant}
use Rattle.font_metrics.specs.Taken.{IsTaken, IsConstant}
use Rattle.font_metrics.proofs.Scaling.{back32, back64, within64}
use Rattle.font_metrics.proofs.Values.{given_in, given_within}
use Rattle.font_metrics.proofs.Finish.{whole_taken}
use Rattle.font_metrics.proofs.metrics.Metrics.given_value.Goals as goal

pub returns : goal.returns
returns c =
    let m = c.args.self.now in
    let at : Some c.in_ok-value.value ≡ given_constant m c.args.name =
    sym c.in_ok-value.was ∙ c.value.ensures ∙ ap (λ p. lookup (nat_eq p) c.self.inside.given.constants) c.place.ensures
    ∙ ap (λ (v : MetricsValue). given_constant v c.args.name) c.self.view_is in
    let near : IsWithin (2 ^ 16) c.in_ok-value.value =
    subst (λ (o : Option ℤ). IfSome o (IsWithin (2 ^ 16))) (sym at) (given_within m c.args.name (subst IsTaken c.self.view_is (whole_taken c.self.inside c.self.invariant))) in
    let same : c.from.result ≡ c.in_ok-value.value = c.from.ensures ∙ back32 near in
    let fits : IsWithin (2 ^ 16) c.from.result = subst (IsWithin (2 ^ 16)) (sym same) near in
    let value = ap (λ z. Some z) (back64 fits (lit< tt) ∙ same) ∙ at in
    record {
      value = value;
      within = within64 fits (lit< tt);
      range = subst (λ (o : Option ℤ). IfSome o (λ v. IsConstant (place_of_constant c.args.name, v))) (sym value)
          (given_in m c.args.name (subst IsTaken c.self.view_is (whole_taken c.self.inside c.self.invariant)));
    }
