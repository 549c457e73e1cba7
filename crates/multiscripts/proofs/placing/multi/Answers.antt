use Rattle.std.proofs.Common.{◌≡◌, ◌∙◌, ◌^◌, refl, ap, length, arith, lit<, lit≤, ℤ, ◌+ℤ◌, to_z, of_z, w64}
use Rattle.std.proofs.lemmas.Int.{to_z-of_z}
use Rattle.fixed_units.proofs.Within.{widened, sum_in, fits_i64}
use Rattle.font_metrics.specs.Metrics.{constant_of}
use Rattle.font_metrics.specs.declared.constants.ConstName.TheVariants.{SpaceAfterScript}
use Rattle.multiscripts.specs.Along.{line_at, sub_spots_of, sup_spots_of}
use Rattle.multiscripts.specs.Heights.{all_shifts_of}
use Rattle.multiscripts.proofs.Placed.{all_placed}
use Rattle.multiscripts.proofs.placing.multi.Goals as goal

pub line_of-line-requires-clause-space_in : goal.line_of-line-requires-clause-space_in
line_of-line-requires-clause-space_in c =
    let f = fits_i64 c.constant-space.ensures.within (lit< tt) in
    let w = widened (2 ^ 32) c.constant-space.ensures.within (lit≤ tt) in
    grind (arith, to_z-of_z)

pub overflow_add-end : goal.overflow_add-end
overflow_add-end c =
    let ahead = c.line_of-line.ensures.within.ahead in
    let f = fits_i64 ahead (lit< tt) in
    let g = fits_i64 c.requires.base_fits.width (lit< tt) in
    let h = fits_i64 (sum_in ahead c.requires.base_fits.width) (lit< tt) in
    grind (arith, to_z-of_z)

pub overflow_add-width : goal.overflow_add-width
overflow_add-width c =
    let line = c.line_of-line.ensures.within in
    let ends = sum_in line.ahead c.requires.base_fits.width in
    let f = fits_i64 line.ahead (lit< tt) in
    let g = fits_i64 line.behind (lit< tt) in
    let h = fits_i64 ends (lit< tt) in
    let i = fits_i64 (sum_in ends line.behind) (lit< tt) in
    grind (arith, to_z-of_z)

pub place_pairs-requires-clause-space_in : goal.place_pairs-requires-clause-space_in
place_pairs-requires-clause-space_in c =
    let f = fits_i64 c.constant-space.ensures.within (lit< tt) in
    let w = widened (2 ^ 32) c.constant-space.ensures.within (lit≤ tt) in
    grind (arith, to_z-of_z)

pub place_pairs-requires-clause-end_in : goal.place_pairs-requires-clause-end_in
place_pairs-requires-clause-end_in c =
    let ahead = c.line_of-line.ensures.within.ahead in
    let end = sum_in ahead c.requires.base_fits.width in
    let f = fits_i64 ahead (lit< tt) in
    let g = fits_i64 end (lit< tt) in
    let w = widened (2 ^ 51) end (lit≤ tt) in
    grind (arith, to_z-of_z)

pub returns : goal.returns
returns c =
    let line = c.line_of-line.ensures.within in
    let ahead = fits_i64 line.ahead (lit< tt) in
    let behind = fits_i64 line.behind (lit< tt) in
    let ends = sum_in line.ahead c.requires.base_fits.width in
    let f = fits_i64 ends (lit< tt) in
    let g = fits_i64 (sum_in ends line.behind) (lit< tt) in
    let h = fits_i64 c.constant-space.ensures.within (lit< tt) in
    let up = fits_i64 c.all_shifts-shifts.ensures.within.up (lit< tt) in
    let down = fits_i64 c.all_shifts-shifts.ensures.within.down (lit< tt) in
    let end = c.line_of-line.result.ahead +ℤ c.args.base.now.width in
    let width = end +ℤ c.line_of-line.result.behind in
    let m = c.args.metrics.now in
    let base = c.args.base.now in
    let large = c.args.large in
    let items = c.as_slice-items.result.now in
    let shifts = c.all_shifts-shifts.result in
    let size : to_z w64 (of_z w64 c.args.size) ≡ c.args.size = grind (arith, to_z-of_z) in
    let space : to_z w64 (of_z w64 c.constant-space.result) ≡ c.constant-space.result = grind (arith, to_z-of_z) in
    let at : to_z w64 (of_z w64 (to_z w64 (of_z w64 c.line_of-line.result.ahead) +ℤ to_z w64 (of_z w64 base.width))) ≡ end = grind (arith, to_z-of_z) in
    let whole = all_placed m base large c.args.cramped c.args.pairs.now items c.args.size c.constant-space.result
    c.all_shifts-shifts.result c.line_of-line.result c.union-all.result end width c.half.result c.in_ok-spots.spots.subs c.in_ok-spots.spots.sups
    c.as_slice-items.ensures (c.constant-space.ensures.value ∙ ap (λ (n : ℤ). constant_of m SpaceAfterScript n) size)
    (c.all_shifts-shifts.ensures.value ∙ ap (λ (n : ℤ). all_shifts_of m n c.args.cramped base items) size)
    (c.line_of-line.ensures.value ∙ ap (λ (n : ℤ). line_at n base large items (length items)) space)
    refl refl (grind (arith, to_z-of_z)) c.union-all.ensures
    ((c.in_ok-spots.ensures {u = tt}).subs ∙ (λ k. sub_spots_of (space k) (at k) base large items shifts.down (length items)))
    ((c.in_ok-spots.ensures {u = tt}).sups ∙ (λ k. sup_spots_of (space k) (at k) base large items shifts.up (length items))) in
    grind (arith, to_z-of_z)
