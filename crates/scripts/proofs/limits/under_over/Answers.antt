use Rattle.std.proofs.Common.{◌≡◌, Option, ℤ, to_z, of_z, w64, arith, subst}
use Rattle.std.proofs.lemmas.Int.{to_z-of_z}
use Rattle.fixed_units.specs.declared.boxes.MathBox.{MathBox}
use Rattle.scripts.specs.declared.limits.Extent.{Extent}
use Rattle.scripts.specs.declared.limits.Placed.{Placed}
use Rattle.scripts.specs.declared.parts.Limits.{Limits}
use Rattle.scripts.specs.Limits.{whole_of, attached_of, limits_of, placed_if, under_limit_of, over_limit_of}
use Rattle.scripts.proofs.limits.under_over.Goals as goal

-- the steps in one
laid_out : (base : MathBox) (under below over above : Option Placed) (alone lower all : Extent) (result : Limits)
    → under ≡ below → over ≡ above → alone ≡ whole_of base → lower ≡ attached_of alone under → all ≡ attached_of lower over
    → result ≡ limits_of base all under over
    → result ≡ limits_of base (attached_of (attached_of (whole_of base) below) above) below above
laid_out base under below over above alone lower all result u o w l a r = cc

pub returns : goal.returns
returns c =
    let base = c.args.base.now in
    let metrics = c.args.metrics.now in
    let size : to_z w64 (of_z w64 c.args.size) ≡ c.args.size = grind (arith, to_z-of_z) in
    let under = subst (λ (n : ℤ). c.under_if-under.result ≡ placed_if (λ part. under_limit_of metrics base part c.args.case c.args.accentunder n) c.args.under)
    size c.under_if-under.ensures.value in
    let over = subst (λ (n : ℤ). c.over_if-over.result ≡ placed_if (λ part. over_limit_of metrics base part c.args.case c.args.accent n) c.args.over)
    size c.over_if-over.ensures.value in
    laid_out _ _ _ _ _ _ _ _ _ under over c.whole.ensures.value c.attached.ensures.value c.attached-extent.ensures.value c.limits.ensures
