-- Which boxes can be stored.
use Rattle.std.proofs.Common.{◌≡◌, ◌↔◌, refl, ◌+◌, ◌≤◌, ℤ, pos, neg_ℤ, Bool, true, false, ◌&&◌, IsTrue, arith}
use Rattle.std.proofs.lemmas.Bool.{and_from, and_parts}
use Rattle.std.specs.Prelude.{int_le}
use borrow.Author.Differences.{up, down, le-false}
use Rattle.fixed_units.specs.Boxes.{farthest, is_stored, is_box_stored, IsStored}
use Rattle.fixed_units.specs.Numbers.{IsWithin}
use Rattle.fixed_units.specs.declared.boxes.MathBox.{MathBox}
use Rattle.fixed_units.proofs.Signed.{signed}

low : ℤ → Bool
low z = int_le (neg_ℤ (pos farthest)) z

high : ℤ → Bool
high z = int_le z (pos farthest)

within : (z : ℤ) → is_stored z ≡ true → IsWithin farthest z
unfolding is_stored low high
within z e =
    let p = and_parts (low z) (high z) e in
    record { low = omega (arith, signed, p.0); high = omega (arith, signed, p.1) }

true_at_most : (a b : ℤ) → up a + down b ≤ up b + down a → int_le a b ≡ true
true_at_most a b h = by (int_le a b) refl
  where
    by : (t : Bool) → int_le a b ≡ t → t ≡ true
    by true e = refl
    by false e = absurd (omega (arith, le-false a b e))

stored : (z : ℤ) → IsWithin farthest z → is_stored z ≡ true
unfolding is_stored low high
stored z p =
    and_from (low z) (high z) (true_at_most (neg_ℤ (pos farthest)) z (omega (arith, signed, p)))
    (true_at_most z (pos farthest) (omega (arith, signed, p)))

pub box_within : (frame : MathBox) → is_box_stored frame ≡ true → IsStored frame
box_within f e =
    let a = and_parts (is_stored f.width && is_stored f.ascent && is_stored f.descent && is_stored f.ink_ascent && is_stored f.ink_descent && is_stored f.italic) (is_stored f.accent) e in
    let b = and_parts (is_stored f.width && is_stored f.ascent && is_stored f.descent && is_stored f.ink_ascent && is_stored f.ink_descent) (is_stored f.italic) a.0 in
    let c = and_parts (is_stored f.width && is_stored f.ascent && is_stored f.descent && is_stored f.ink_ascent) (is_stored f.ink_descent) b.0 in
    let d = and_parts (is_stored f.width && is_stored f.ascent && is_stored f.descent) (is_stored f.ink_ascent) c.0 in
    let g = and_parts (is_stored f.width && is_stored f.ascent) (is_stored f.descent) d.0 in
    let h = and_parts (is_stored f.width) (is_stored f.ascent) g.0 in
    record {
      width = within f.width h.0;
      ascent = within f.ascent h.1;
      descent = within f.descent g.1;
      ink_ascent = within f.ink_ascent d.1;
      ink_descent = within f.ink_descent c.1;
      italic = within f.italic b.1;
      accent = within f.accent a.1;
    }

pub box_stored : (frame : MathBox) → IsStored frame → is_box_stored frame ≡ true
box_stored f s =
    and_from _ _ (and_from _ _ (and_from _ _ (and_from _ _ (and_from _ _ (and_from _ _
    (stored f.width s.width) (stored f.ascent s.ascent)) (stored f.descent s.descent))
    (stored f.ink_ascent s.ink_ascent)) (stored f.ink_descent s.ink_descent)) (stored f.italic s.italic))
    (stored f.accent s.accent)

pub boxes_stored : (frame : MathBox) (stored : Bool) → stored ≡ is_box_stored frame → IsTrue stored ↔ IsStored frame
boxes_stored frame stored e = (λ is. box_within frame (rw e at is), λ s. rw e (box_stored frame s))
