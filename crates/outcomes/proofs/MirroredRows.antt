-- Rows from right to left.
use Rattle.std.proofs.Common.{◌≡◌, ◌∙◌, ap, subst, sym, lit<, ◌^◌, ℕ, ◌+◌, ℤ, pos, ◌+ℤ◌, arith, Bool, true, ◌&&◌, cond, nat_eq, length, slice_index_or, w64, to_z, of_z}
use Rattle.std.specs.Int.{w128}
use Rattle.fixed_units.specs.Boxes.{IsBoxWithin, IsStored, farthest}
use Rattle.fixed_units.specs.Numbers.{IsWithin}
use Rattle.fixed_units.specs.declared.boxes.MathBox.{MathBox}
use Rattle.fixed_units.proofs.Signed.{signed}
use Rattle.fixed_units.proofs.Within.{fits_i64}
use Rattle.font_metrics.proofs.Scaling.{back64}
use Rattle.layout_model.specs.Direction.{mirrored, turned}
use Rattle.layout_model.specs.Elements.{Element, frame_at, row_frame, row_x}
use Rattle.layout_model.specs.declared.context.Context.{Context}
use Rattle.row_stretch.specs.declared.parts.Row.{Row}
use Rattle.outcomes.proofs.Casts.{told_wide}

mirrored_in : (whole part x : ℤ) → IsWithin (2 ^ 50) whole → IsWithin farthest part → IsWithin (2 ^ 61) x → IsWithin (2 ^ 61 + 2 ^ 52) (mirrored whole part x)
unfolding mirrored
mirrored_in whole part x w p h = record {
  low = omega (arith, signed, w.low, w.high, p.low, p.high, h.low, h.high);
  high = omega (arith, signed, w.low, w.high, p.low, p.high, h.low, h.high);
}

-- where a child stands, reckoned in 128 bits
module _ (e : Element) (row : Row) (index : ℕ) (context : Context) (frame : MathBox) (x part exact : ℤ)
    (width : IsWithin (2 ^ 50) row.frame.width) (x_in : IsWithin (2 ^ 61) x) (stored : IsStored frame) (frame_is : frame ≡ frame_at e index)
    (x_is : x ≡ slice_index_or row.offsets index (pos 0)) (context_is : context ≡ e.context) (rtl : context.style.rtl ≡ true)
    (part_is : part ≡ to_z w64 (of_z w64 frame.width))
    (exact_is : exact ≡ mirrored (to_z w64 (of_z w64 row.frame.width)) (to_z w128 (of_z w128 part)) (to_z w64 (of_z w64 x))) where
  plainly : exact ≡ mirrored row.frame.width frame.width x
  plainly =
      exact_is
      ∙ (λ i. mirrored (back64 width (lit< tt) i) (told_wide frame.width part (fits_i64 stored.width (lit< tt)) part_is i) (back64 x_in (lit< tt) i))

  pub within_row : IsWithin (2 ^ 61 + 2 ^ 52) exact
  within_row = subst (IsWithin (2 ^ 61 + 2 ^ 52)) (sym plainly) (mirrored_in row.frame.width frame.width x width stored.width x_in)

  pub row_x_is : exact ≡ row_x e row index
  row_x_is =
      let turns : e.context.style.rtl ≡ true = ap (λ (c : Context). c.style.rtl) (sym context_is) ∙ rtl in
      plainly
      ∙ (λ i. mirrored row.frame.width (frame_is i).width (x_is i))
      ∙ sym (ap (λ (b : Bool). turned b row.frame.width (frame_at e index).width (slice_index_or row.offsets index (pos 0))) turns)

-- the box of a row with an only child
pub lone_frame : (e : Element) (row : Row) → e.context.style.rtl ≡ true → length e.seen.kids ≡ 1
    → row_frame e row ≡ record row.frame { accent = row_x e row 0 +ℤ (frame_at e 0).accent }
unfolding row_frame
lone_frame e row turns one =
    λ i. cond (turns i && nat_eq (one i) 1) (record row.frame { accent = row_x e row 0 +ℤ (frame_at e 0).accent }) row.frame

-- a box that is written again with another accent
pub with_accent : (frame : MathBox) (accent told : ℤ) → IsBoxWithin (2 ^ 50) frame → told ≡ accent
    → ◌≡◌ {A = MathBox} (record {
      width = to_z w64 (of_z w64 frame.width);
      ascent = to_z w64 (of_z w64 frame.ascent);
      descent = to_z w64 (of_z w64 frame.descent);
      ink_ascent = to_z w64 (of_z w64 frame.ink_ascent);
      ink_descent = to_z w64 (of_z w64 frame.ink_descent);
      italic = to_z w64 (of_z w64 frame.italic);
      accent = told;
    }) (record frame { accent = accent })
with_accent frame accent told h e = λ i. record {
  width = back64 h.width (lit< tt) i;
  ascent = back64 h.ascent (lit< tt) i;
  descent = back64 h.descent (lit< tt) i;
  ink_ascent = back64 h.ink_ascent (lit< tt) i;
  ink_descent = back64 h.ink_descent (lit< tt) i;
  italic = back64 h.italic (lit< tt) i;
  accent = e i;
}
