use Rattle.std.proofs.Common.{◌≡◌, ◌∙◌, ◌^◌, ap, subst, sym, lit<, to_z, FitsSigned}
use Rattle.std.specs.Int.{w128}
use Rattle.fixed_units.specs.Numbers.{IsWithin}
use Rattle.fixed_units.proofs.Within.{fits_i128, natural_in, negation_in}
use Rattle.font_metrics.proofs.Scaling.{back128}
use Rattle.layout_model.specs.Direction.{turned}
use Rattle.outcomes.specs.Reach.{reached}
use Rattle.outcomes.proofs.Casts.{comes_back, fits_back}
use Rattle.outcomes.proofs.Reach.{reached_by, reached_within, turned_back, unturned}
use Rattle.outcomes.proofs.direction.turned.Goals.{then-rtl, else-rtl}
use Rattle.outcomes.proofs.direction.turned.Goals as goal

pub mirrored-x-requires : goal.mirrored-x-requires
mirrored-x-requires c = subst (IsWithin (2 ^ 66)) (sym (back128 c.requires (lit< tt))) c.requires

pub overflow_sub-max : goal.overflow_sub-max
overflow_sub-max c = fits_i128 (negation_in (natural_in (2 ^ 60))) (lit< tt)

pub overflow_cast-result : goal.overflow_cast-result
overflow_cast-result c =
    let low : FitsSigned w128 c.min.result = record { sfits = c.min.type_inv } in
    let told = reached_by (to_z w128 c.if-rtl.x-bits) c.min.result c.max.result low c.min.ensures.value c.max.ensures.value in
    fits_back c.max.result (reached_within _ c.max.result told)

pub returns : goal.returns
returns c =
    let a = c.args in
    let y = to_z w128 c.if-rtl.x-bits in
    let low : FitsSigned w128 c.min.result = record { sfits = c.min.type_inv } in
    let told = reached_by y c.min.result c.max.result low c.min.ensures.value c.max.ensures.value in
    let is : y ≡ turned a.rtl a.whole a.part a.x =
    elim c.if-rtl.branch as (λ _. y ≡ turned a.rtl a.whole a.part a.x) [
      | then-rtl w ↦ turned_back a.rtl a.whole a.part a.x w.mirrored-x.result y c.ranges.whole c.ranges.x c.requires (record { sfits = w.mirrored-x.type_inv }) w.x-is w.mirrored-x.ensures w.if-rtl.true
      | else-rtl w ↦ unturned a.rtl a.whole a.part a.x w.from-x.result y c.ranges.x (record { sfits = w.from-x.type_inv }) w.x-is w.from-x.ensures w.if-rtl.false
    ] in
    comes_back c.max.result (reached_within _ c.max.result told) ∙ told ∙ ap reached is
