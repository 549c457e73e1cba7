-- How far the heights and the kerns of radicals reach.
use Rattle.std.proofs.Common.{◌^◌, lit≤, lit<, ℤ, pos, ◌+ℤ◌, arith}
use Rattle.fixed_units.specs.Boxes.{IsBoxWithin, IsStored}
use Rattle.fixed_units.specs.Numbers.{IsWithin}
use Rattle.fixed_units.specs.declared.boxes.MathBox.{MathBox}
use Rattle.fixed_units.proofs.Signed.{signed}
use Rattle.fixed_units.proofs.Within.{natural_in, widened, sum_in, difference_in, max_in, product_in, quotient_in}
use Rattle.radicals.specs.declared.lengths.RootLengths.{RootLengths}
use Rattle.radicals.specs.declared.lengths.IndexLengths.{IndexLengths}
use Rattle.radicals.specs.Equation.{IsRow, IsRootBox, top_of, root_frame_of, root_start_of, share_of, index_height_of}
use Rattle.radicals.specs.Lengths.{AreRootLengthsWithin, AreIndexLengthsWithin}

pub top_in : (font : RootLengths) (base : MathBox) → AreRootLengthsWithin (2 ^ 32) font → IsRow base → IsWithin (2 ^ 34) (top_of font base)
unfolding top_of
top_in font base f p = widened (2 ^ 34) (sum_in (sum_in p.ink_ascent f.gap) f.thickness) (lit≤ tt)

pub root_frame_in : (font : RootLengths) (base surd : MathBox) → AreRootLengthsWithin (2 ^ 32) font → IsRow base → IsBoxWithin (2 ^ 41) surd
    → IsRootBox (root_frame_of font base surd)
unfolding root_frame_of
root_frame_in font base surd f p s =
    let top = top_in font base f p in
    let foot = difference_in (sum_in s.ink_ascent s.ink_descent) top in
    record {
      width = widened (2 ^ 51) (sum_in s.width p.width) (lit≤ tt);
      ascent = widened (2 ^ 43) (max_in p.ascent (sum_in top f.extra)) (lit≤ tt);
      descent = widened (2 ^ 43) (max_in p.descent foot) (lit≤ tt);
      ink_ascent = widened (2 ^ 43) (max_in p.ink_ascent top) (lit≤ tt);
      ink_descent = widened (2 ^ 43) (max_in p.ink_descent foot) (lit≤ tt);
    }

pub root_start_in : (font : IndexLengths) (index : MathBox) → AreIndexLengthsWithin (2 ^ 32) font → IsStored index
    → IsWithin (2 ^ 34) (root_start_of font index)
unfolding root_start_of
root_start_in font index f p =
    widened (2 ^ 34) (sum_in (sum_in (max_in f.kern_before (natural_in 0)) p.width)
    (max_in f.kern_after (difference_in (natural_in 0) p.width))) (lit≤ tt)

pub share_in : (percent length : ℤ) → IsWithin (2 ^ 16) percent → IsWithin (2 ^ 44) length → IsWithin (2 ^ 54) (share_of percent length)
unfolding share_of
share_in percent length p q = quotient_in {m = 2 ^ 54} {k = 64} (pos 100) (lit< tt) (omega (arith, signed)) (product_in p q)

pub index_height_in : (font : IndexLengths) (root index : MathBox) → AreIndexLengthsWithin (2 ^ 32) font → IsRootBox root → IsStored index
    → IsWithin (2 ^ 55) (index_height_of font root index)
unfolding index_height_of
index_height_in font root index f r p =
    let share = share_in font.raise (root.ink_ascent +ℤ root.ink_descent) f.raise (sum_in r.ink_ascent r.ink_descent) in
    widened (2 ^ 55) (sum_in (difference_in share r.ink_descent) p.ink_descent) (lit≤ tt)
