use Rattle.std.proofs.Common.{◌≡◌, ◌∙◌, ap, arith, ℤ, pos, ◌+ℤ◌, ◌-ℤ◌, w64, to_z, of_z, lit<, rules}
use Rattle.std.specs.Int.{int_max}
use Rattle.std.specs.Prelude.{neg_ℤ}
use Rattle.fixed_units.proofs.Signed.{signed}
use Rattle.fixed_units.proofs.Within.{difference_in, natural_in, sum_in}
use Rattle.font_metrics.proofs.Scaling.{back64}
use Rattle.paint_list.specs.Svg.{head_line, window_line}
use Rattle.paint_list.proofs.tags.head_line.Goals as goal

none_less : (z : ℤ) → (pos 0 -ℤ z) ≡ neg_ℤ z
none_less z = omega (arith, signed)

pub returns : goal.returns
unfolding head_line
returns c =
    let frame = c.args.frame.now in
    let is = c.requires in
    let ascent : to_z w64 (of_z w64 frame.ascent) ≡ frame.ascent = back64 is.ascent (lit< tt) in
    let descent : to_z w64 (of_z w64 frame.descent) ≡ frame.descent = back64 is.descent (lit< tt) in
    let width : to_z w64 (of_z w64 frame.width) ≡ frame.width = back64 is.width (lit< tt) in
    let top : to_z w64 (of_z w64 (pos 0 -ℤ to_z w64 (of_z w64 frame.ascent))) ≡ neg_ℤ frame.ascent =
    (λ i. to_z w64 (of_z w64 (pos 0 -ℤ ascent i))) ∙ back64 (difference_in (natural_in 0) is.ascent) (lit< tt) ∙ none_less frame.ascent in
    let height : to_z w64 (of_z w64 (to_z w64 (of_z w64 frame.ascent) +ℤ to_z w64 (of_z w64 frame.descent))) ≡ frame.ascent +ℤ frame.descent =
    (λ i. to_z w64 (of_z w64 (ascent i +ℤ descent i))) ∙ back64 (sum_in is.ascent is.descent) (lit< tt) in
    let wide : c.max.result ≡ int_max frame.width (pos 0) = c.max.ensures.value ∙ ap (λ z. int_max z (pos 0)) width in
    let high : c.max-2.result ≡ int_max (frame.ascent +ℤ frame.descent) (pos 0) = c.max-2.ensures.value ∙ ap (λ z. int_max z (pos 0)) height in
    let wide_back : to_z w64 (of_z w64 c.max.result) ≡ c.max.result = search rules in
    let high_back : to_z w64 (of_z w64 c.max-2.result) ≡ c.max-2.result = search rules in
    c.window_line.ensures ∙ (λ i. window_line (top i) ((wide_back ∙ wide) i) ((high_back ∙ high) i))
