use Rattle.std.proofs.Common.{rules, ◌≡◌, ◌∙◌, refl, sym, ap, min, arith, eqb-true, length, [], FitsSigned, w64}
use Rattle.std.proofs.lemmas.Int.{to_z-of_z}
use Rattle.std.proofs.lemmas.List.{nil_from_length}
use Rattle.font_metrics.specs.Metrics.{MetricsValue}
use Rattle.style_scope.specs.declared.style.Style.{Style}
use Rattle.style_scope.specs.Rules.{by_direction, by_display, by_level, by_size}
use Rattle.style_scope.specs.Styles.{by_attributes}
use Rattle.style_scope.proofs.scope.by_attributes.Goals as goal

-- without attributes an element keeps its style, but for a depth past the last
without_any : (m : MetricsValue) (parent style : Style) → by_attributes m parent [] style ≡ record style { depth = min 15 style.depth }
unfolding by_attributes by_direction by_display by_level by_size
without_any m parent style = refl

pub returns-then-is_empty-clause-value : goal.returns-then-is_empty-clause-value
returns-then-is_empty-clause-value c =
    let m = c.args.metrics.now in
    let parent = c.args.parent.now in
    let style = c.args.style in
    let none : c.args.attributes.now ≡ [] = sym c.as_slice.ensures.all ∙ nil_from_length c.as_slice.result.now (eqb-true (length c.as_slice.result.now) 0 (sym c.is_empty.ensures ∙ c.if-is_empty.true)) in
    let fits : FitsSigned w64 style.base = search rules in
    let base = to_z-of_z w64 style.base fits in
    let depth : c.min.result ≡ min 15 style.depth = omega (arith, c.min.ensures) in
    (λ i. record style { base = base i; depth = depth i })
    ∙ (sym (without_any m parent style) ∙ ap (λ attributes. by_attributes m parent attributes style) (sym none))
