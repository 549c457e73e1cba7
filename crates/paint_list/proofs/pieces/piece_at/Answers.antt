use Rattle.std.proofs.Common.{ap, arith, w64, lit<, FitsSigned}
use Rattle.std.proofs.lemmas.Int.{to_z-of_z}
use Rattle.fixed_units.proofs.Within.{difference_in, fits_i64, sum_in}
use Rattle.font_metrics.proofs.Scaling.{size_in}
use Rattle.paint_list.specs.Pieces.{piece_along, piece_at}
use Rattle.paint_list.proofs.pieces.piece_at.Goals as goal

pub returns-in-Inline : goal.returns-in-Inline
unfolding piece_at
returns-in-Inline c =
    let built = c.args.built.now in
    let is = c.requires.built in
    let f1 : FitsSigned w64 built.x = fits_i64 is.right (lit< tt) in
    let f2 : FitsSigned w64 built.y = fits_i64 is.down (lit< tt) in
    let f3 : FitsSigned w64 built.size = fits_i64 (size_in built.size is.size_low is.size_high) (lit< tt) in
    let f4 = fits_i64 (sum_in is.right c.requires.start) (lit< tt) in
    let f5 : FitsSigned w64 c.args.start = fits_i64 c.requires.start (lit< tt) in
    let e = ap (λ axis. piece_along axis c.args.metrics.now built c.args.part.now c.args.start) c.in-Inline.is in
    grind (arith, to_z-of_z)

pub returns-in-Block : goal.returns-in-Block
unfolding piece_at
returns-in-Block c =
    let built = c.args.built.now in
    let is = c.requires.built in
    let f1 : FitsSigned w64 built.x = fits_i64 is.right (lit< tt) in
    let f2 : FitsSigned w64 built.y = fits_i64 is.down (lit< tt) in
    let f3 : FitsSigned w64 built.size = fits_i64 (size_in built.size is.size_low is.size_high) (lit< tt) in
    let f4 = fits_i64 (difference_in is.down c.requires.start) (lit< tt) in
    let f5 : FitsSigned w64 c.args.start = fits_i64 c.requires.start (lit< tt) in
    let f6 = fits_i64 c.ink_below.ensures.near (lit< tt) in
    let f7 = fits_i64 (difference_in (difference_in is.down c.requires.start) c.ink_below.ensures.near) (lit< tt) in
    let e = ap (λ axis. piece_along axis c.args.metrics.now built c.args.part.now c.args.start) c.in-Block.is in
    grind (arith, to_z-of_z)
