use Rattle.std.proofs.Common.{◌∙◌, refl, arith}
use Rattle.std.proofs.lemmas.Bool.{and_from}
use Rattle.std.proofs.lemmas.List.Folds.{list_all_more}
use Rattle.std.proofs.lemmas.Nat.{le_or_l, le_or_r}
use Rattle.layout_model.specs.Range.{offset_fits}
use Rattle.layout_model.proofs.range.are_inside.Goals as goal

pub loop-offset-init : goal.loop-offset-init
loop-offset-init c = λ h. refl

pub loop-offset-preserved : goal.loop-offset-preserved
loop-offset-preserved c = λ h.
    let offsets = c.args.offsets.now in
    let i = c.loop-offset.offset-index in
    let so_far = c.loop-offset.bits in
    let more = c.bits_of-bits.result in
    list_all_more offset_fits offsets i _ c.loop-offset-test.true
    ∙ and_from _ _ (c.loop-offset.invariant (omega (arith, h, le_or_l so_far more))) (c.bits_of-bits.ensures (omega (arith, h, le_or_r so_far more)))
