use Rattle.std.proofs.Common.{◌∙◌, ◌^◌, ◌≤ℤ◌, ap, sym, subst, pos, lit<, arith, Option, ℤ}
use Rattle.std.specs.Option.{unwrap_or, IfSome}
use Rattle.fixed_units.specs.Numbers.{IsWithin}
use Rattle.font_metrics.specs.Constants.{place_of_constant}
use Rattle.font_metrics.specs.Metrics.{or_default}
use Rattle.font_metrics.specs.Taken.{IsConstant}
use Rattle.font_metrics.proofs.Scaling.{back64, within64}
use Rattle.font_metrics.proofs.Values.{or_within, default_within, first_percent, second_percent, other_percent, scale_down_in}
use Rattle.font_metrics.proofs.metrics.Metrics.percent.Goals as goal

pub returns-in-ScriptPercentScaleDown : goal.returns-in-ScriptPercentScaleDown
returns-in-ScriptPercentScaleDown c =
    let m = c.args.self.now in
    let is = c.or_default.ensures in
    let near : IsWithin (2 ^ 16) c.or_default.result =
    subst (IsWithin (2 ^ 16)) (sym is) (default_within 70 c.given_value-given.result (omega arith) c.given_value-given.ensures.within) in
    let value = back64 near (lit< tt) ∙ is ∙ ap (or_default (pos 70)) c.given_value-given.ensures.value ∙ first_percent m c.args.name c.in-ScriptPercentScaleDown.is in
    record {
      value = value;
      within = within64 near (lit< tt);
      scale_down = λ k. subst (λ z. (pos 1 ≤ℤ z) × (z ≤ℤ pos 200)) (sym value) (scale_down_in m c.args.name (subst (λ (o : Option ℤ). IfSome o (λ v. IsConstant (place_of_constant c.args.name, v))) c.given_value-given.ensures.value c.given_value-given.ensures.range) k);
    }

pub returns-in-ScriptScriptPercentScaleDown : goal.returns-in-ScriptScriptPercentScaleDown
returns-in-ScriptScriptPercentScaleDown c =
    let m = c.args.self.now in
    let is = c.or_default-in-ScriptScriptPercentScaleDown.ensures in
    let near : IsWithin (2 ^ 16) c.or_default-in-ScriptScriptPercentScaleDown.result =
    subst (IsWithin (2 ^ 16)) (sym is) (default_within 50 c.given_value-given.result (omega arith) c.given_value-given.ensures.within) in
    let value = back64 near (lit< tt) ∙ is ∙ ap (or_default (pos 50)) c.given_value-given.ensures.value ∙ second_percent m c.args.name c.in-ScriptScriptPercentScaleDown.is in
    record {
      value = value;
      within = within64 near (lit< tt);
      scale_down = λ k. subst (λ z. (pos 1 ≤ℤ z) × (z ≤ℤ pos 200)) (sym value) (scale_down_in m c.args.name (subst (λ (o : Option ℤ). IfSome o (λ v. IsConstant (place_of_constant c.args.name, v))) c.given_value-given.ensures.value c.given_value-given.ensures.range) k);
    }

pub returns-in_default : goal.returns-in_default
returns-in_default c =
    let m = c.args.self.now in
    let is = c.unwrap_or.ensures in
    let near : IsWithin (2 ^ 16) c.unwrap_or.result =
    subst (IsWithin (2 ^ 16)) (sym is) (or_within 60 c.given_value-given.result (omega arith) c.given_value-given.ensures.within) in
    let value =
    back64 near (lit< tt) ∙ is ∙ ap (λ (o : Option ℤ). unwrap_or o (pos 60)) c.given_value-given.ensures.value
    ∙ sym (other_percent m c.args.name c.requires.percent c.in_default.not-ScriptPercentScaleDown c.in_default.not-ScriptScriptPercentScaleDown) in
    record {
      value = value;
      within = within64 near (lit< tt);
      scale_down = λ k. subst (λ z. (pos 1 ≤ℤ z) × (z ≤ℤ pos 200)) (sym value) (scale_down_in m c.args.name (subst (λ (o : Option ℤ). IfSome o (λ v. IsConstant (place_of_constant c.args.name, v))) c.given_value-given.ensures.value c.given_value-given.ensures.range) k);
    }
