use Rattle.std.proofs.Common.{◌≡◌, ◌∙◌, sym, ap, arith, lit<, w64, to_z, of_z, ℕ, ℤ, ◌+ℤ◌, pos, slice_index_or}
use Rattle.fixed_units.proofs.Sums.{list_to-zero}
use Rattle.fixed_units.proofs.Within.{sum_in}
use Rattle.font_metrics.proofs.Scaling.{back64, within64}
use Rattle.layout_model.specs.Elements.{offset}
use Rattle.outcomes.proofs.Lists.{number_at, pushed_next}
use Rattle.outcomes.proofs.row.along_offsets.Goals as goal

pub loop-index-init : goal.loop-index-init
loop-index-init c =
    let made = c.in_ok-places.ensures {u = tt} in
    record { places = made.items ∙ sym (list_to-zero _); len = made.len; room = made.exact }

pub push_reserved-requires : goal.push_reserved-requires
push_reserved-requires c = omega (arith, c.loop-index-test.true, c.loop-index.invariant.len, c.loop-index.invariant.room)

pub loop-index-preserved : goal.loop-index-preserved
loop-index-preserved c =
    let start = to_z w64 (of_z w64 c.args.start) in
    let y = to_z w64 (of_z w64 c.args.y) in
    let i = c.loop-index.index in
    let numbers = c.args.offsets.now in
    let x = slice_index_or numbers i (pos 0) in
    let x_in = number_at numbers i c.requires.offsets in
    let pushed = c.push_reserved.ensures in
    let so_far = c.loop-index.invariant in
    let sum : to_z w64 (of_z w64 (start +ℤ to_z w64 (of_z w64 x))) ≡ start +ℤ x =
    back64 (sum_in (within64 c.requires.start (lit< tt)) (within64 x_in (lit< tt))) (lit< tt)
    ∙ ap (λ (z : ℤ). start +ℤ z) (back64 x_in (lit< tt)) in
    record {
      places =
          pushed_next i (λ (kid : ℕ). offset kid (start +ℤ slice_index_or numbers kid (pos 0)) y) c.loop-index.places.items _ _ pushed.items so_far.places
          (ap (λ (z : ℤ). offset i z y) sum);
      len = omega (arith, pushed.len, so_far.len);
      room = pushed.capacity ∙ so_far.room;
    }
