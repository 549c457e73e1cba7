use Rattle.std.proofs.Common.{◌≡◌, ◌∙◌, ap, arith, lit<, length, pos, ◌≤ℤ◌, ◌^◌, subst, sym, ℤ, true≢false, Option}
use Rattle.std.specs.Prelude.{is_some}
use Rattle.font_metrics.proofs.Scaling.{back64, size_in}
use Rattle.embellished.specs.Seen.{seen_of}
use Rattle.style_scope.specs.Sizes.{size_of}
use Rattle.style_scope.specs.declared.style.Style.{Style}
use Rattle.layout_model.specs.Contexts.{kid_style}
use Rattle.layout_model.specs.Elements.{Element}
use Rattle.layout_model.specs.Range.{is_font_size}
use Rattle.layout_model.proofs.FontSizes.{font_size_found}
use Rattle.outcomes.proofs.Kids.{size_found}
use Rattle.outcomes.proofs.element.Element.size_of_kid.Goals as goal

pub style_of_kid-style-requires-clause-within : goal.style_of_kid-style-requires-clause-within
style_of_kid-style-requires-clause-within g c =
    let shown : length (seen_of (g.V.View.element c.self.inside.view.now)).kids ≡ length c.args.self.now.seen.kids =
    ap (λ (e : Element). length e.seen.kids) c.self.view_is in
    omega (arith, shown, c.requires)

pub style_of_kid-style-requires-clause-size : goal.style_of_kid-style-requires-clause-size
style_of_kid-style-requires-clause-size g c =
    subst (λ (size : ℤ). size ≤ℤ pos (2 ^ 20)) c.self.invariant.is_font c.self.invariant.high

pub unreachable-requires : goal.unreachable-requires
unreachable-requires g c =
    let m = c.self.inside.metrics.now in
    let style = c.style_of_kid-style in
    let shown : length (seen_of (g.V.View.element c.self.inside.view.now)).kids ≡ length c.args.self.now.seen.kids =
    ap (λ (e : Element). length e.seen.kids) c.self.view_is in
    let sized = ap (λ (s : Style). is_font_size (size_of m s)) style.ensures.value ∙ c.self.invariant.fonts c.args.index (omega (arith, shown, c.requires)) in
    let found = font_size_found m style.result c.font_size.result c.font_size.ensures.value c.font_size.ensures.within in
    true≢false (sym sized ∙ sym found ∙ ap (λ (f : Option ℤ). is_some f) c.in-None.is)

pub returns-clause-value : goal.returns-clause-value
returns-clause-value g c =
    let m = c.self.inside.metrics.now in
    let style = c.style_of_kid-style in
    let found = c.in-Some.ensures {u = tt} in
    back64 (size_in c.in-Some.size found.within.low found.within.high) (lit< tt)
    ∙ size_found m style.result c.in-Some.size found.value
    ∙ ap (size_of m) style.ensures.value
    ∙ ap (λ (e : Element). size_of e.metrics (kid_style e.metrics e.seen e.context.style c.args.index)) c.self.view_is

pub returns-clause-low : goal.returns-clause-low
returns-clause-low g c =
    let found = c.in-Some.ensures {u = tt} in
    subst (λ (size : ℤ). pos 0 ≤ℤ size) (sym (back64 (size_in c.in-Some.size found.within.low found.within.high) (lit< tt))) found.within.low

pub returns-clause-high : goal.returns-clause-high
returns-clause-high g c =
    let found = c.in-Some.ensures {u = tt} in
    subst (λ (size : ℤ). size ≤ℤ pos (2 ^ 20)) (sym (back64 (size_in c.in-Some.size found.within.low found.within.high) (lit< tt))) found.within.high
