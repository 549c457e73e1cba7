use Rattle.std.proofs.Common.{◌≡◌, SFits, ◌∙◌, ap, subst, sym, lit<, lit≤, to_z, of_z, w64, ◌*ℤ◌, pos, ◌^◌, ◌≤ℤ◌, ◌<ℤ◌, arith}
use Rattle.fixed_units.specs.Numbers.{IsWithin, rounded}
use Rattle.fixed_units.proofs.Within.{fits_i64, product_in, widened, quotient_in}
use Rattle.fixed_units.proofs.Signed.{signed}
use Rattle.font_metrics.proofs.Scaling.{back64, product_back, upem_back}
use Rattle.font_metrics.proofs.metrics.scaled.Goals as goal

pub overflow_mul-value : goal.overflow_mul-value
overflow_mul-value c =
    let parts : to_z w64 (of_z w64 c.args.value) *ℤ to_z w64 (of_z w64 c.args.size) ≡ c.args.value *ℤ c.args.size =
    λ i. back64 c.requires.value_in (lit< tt) i *ℤ back64 c.requires.size_in (lit< tt) i in
    subst (SFits w64) (sym parts) (fits_i64 (product_in c.requires.value_in c.requires.size_in) (lit< tt))

pub round-requires-clause-positive : goal.round-requires-clause-positive
round-requires-clause-positive c =
    let den = upem_back c.args.upem c.from-2.result c.ranges.upem.fits c.from-2.ensures in
    let above : pos 0 <ℤ pos c.args.upem = omega (arith, signed) in
    subst (λ z. pos 0 <ℤ z) (sym den) above

pub round-requires-clause-num_in : goal.round-requires-clause-num_in
round-requires-clause-num_in c =
    let num = product_back c.args.value c.args.size c.from.result c.requires.value_in c.requires.size_in c.from.ensures in
    subst (IsWithin (2 ^ 126)) (sym num) (widened (2 ^ 126) (product_in c.requires.value_in c.requires.size_in) (lit≤ tt))

pub round-requires-clause-result_in : goal.round-requires-clause-result_in
round-requires-clause-result_in c =
    let num = product_back c.args.value c.args.size c.from.result c.requires.value_in c.requires.size_in c.from.ensures in
    let den = upem_back c.args.upem c.from-2.result c.ranges.upem.fits c.from-2.ensures in
    let least : pos 16 ≤ℤ pos c.args.upem = omega (arith, signed) in
    let small : IsWithin (2 ^ 36) (rounded (c.args.value *ℤ c.args.size) (pos c.args.upem)) =
    quotient_in (pos c.args.upem) (lit< tt) least (product_in c.requires.value_in c.requires.size_in) in
    subst (IsWithin (2 ^ 62)) (λ i. rounded (sym num i) (sym den i)) (widened (2 ^ 62) small (lit≤ tt))

pub returns : goal.returns
returns c =
    let num = product_back c.args.value c.args.size c.from.result c.requires.value_in c.requires.size_in c.from.ensures in
    let den = upem_back c.args.upem c.from-2.result c.ranges.upem.fits c.from-2.ensures in
    let least : pos 16 ≤ℤ pos c.args.upem = omega (arith, signed) in
    let small : IsWithin (2 ^ 36) (rounded (c.args.value *ℤ c.args.size) (pos c.args.upem)) =
    quotient_in (pos c.args.upem) (lit< tt) least (product_in c.requires.value_in c.requires.size_in) in
    record { value = ap (λ z. to_z w64 (of_z w64 z)) (c.round.ensures.value ∙ (λ i. rounded (num i) (den i))) ∙ back64 small (lit< tt) }
