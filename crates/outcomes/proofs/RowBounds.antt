-- How far a row of children that can be stored reaches.
use Rattle.std.proofs.Common.{◌≡◌, ◌≢◌, refl, subst, sym, ℕ, zero, suc, ◌^◌, ◌<◌, ◌≤◌, arith, lit≤, Bool, List, length, map, All}
use Rattle.std.proofs.lemmas.List.Elements.{All-map}
use Rattle.fixed_units.specs.Boxes.{IsBoxWithin, all_joined, farthest}
use Rattle.fixed_units.specs.Numbers.{IsWithin}
use Rattle.fixed_units.proofs.Unions.{all_joined_in}
use Rattle.fixed_units.proofs.Within.{half_in, sum_in, widened}
use Rattle.row_stretch.specs.declared.parts.RowKid.{RowKid}
use Rattle.row_stretch.specs.Equation.{IsKidStored, accent_of, frame_of_kid, offset_of, room_of, row_of}
use Rattle.row_stretch.proofs.Rows.{accent_of-one, accent_of-other, ahead_at_in, italic_before_in, kid_stored, offset_of-is, room_of_in}
use Rattle.outcomes.proofs.Lists.{All-list_to}
use Rattle.outcomes.specs.Rows.{IsRowWithin}

module _ (s : Bool) (kids : List RowKid) (few : length kids ≤ 65535) (all : All IsKidStored kids) where
  room : (n : ℕ) → n ≤ length kids → IsWithin (2 ^ 48) (room_of s kids n)
  room n l = widened (2 ^ 48) (room_of_in s kids n l all) (omega (arith, few, l))

  offset_in : (i : ℕ) → i < length kids → IsWithin (2 ^ 49) (offset_of s kids i)
  offset_in i l =
      subst (IsWithin (2 ^ 49)) (sym (offset_of-is s kids i))
      (widened (2 ^ 49) (sum_in (room i (omega arith)) (ahead_at_in s kids i l all)) (lit≤ tt))

  middle : length kids ≢ 1 → IsWithin (2 ^ 50) (accent_of s kids)
  middle other =
      subst (IsWithin (2 ^ 50)) (sym (accent_of-other s kids other))
      (widened (2 ^ 50) (half_in (room (length kids) (omega arith))) (lit≤ tt))

  accent_at : (n : ℕ) → length kids ≡ n → IsWithin (2 ^ 50) (accent_of s kids)
  accent_at zero e = middle (λ h. omega (arith, e, h))
  accent_at (suc zero) e =
      subst (IsWithin (2 ^ 50)) (sym (accent_of-one s kids e))
      (widened (2 ^ 50) (sum_in (ahead_at_in s kids 0 (omega (arith, e)) all) (kid_stored kids 0 (omega (arith, e)) all).frame.accent) (lit≤ tt))
  accent_at (suc (suc n)) e = middle (λ h. omega (arith, e, h))

  joined : IsBoxWithin farthest (all_joined (map frame_of_kid kids))
  joined = all_joined_in farthest (map frame_of_kid kids) (All-map (IsBoxWithin farthest) frame_of_kid kids (λ k d l. (all k d l).frame))

  pub row_within : IsRowWithin (row_of s kids)
  row_within = record {
    frame = record {
      width = widened (2 ^ 50) (room (length kids) (omega arith)) (lit≤ tt);
      ascent = widened (2 ^ 50) joined.ascent (lit≤ tt);
      descent = widened (2 ^ 50) joined.descent (lit≤ tt);
      ink_ascent = widened (2 ^ 50) joined.ink_ascent (lit≤ tt);
      ink_descent = widened (2 ^ 50) joined.ink_descent (lit≤ tt);
      italic = widened (2 ^ 50) (italic_before_in kids (length kids) (omega arith) all) (lit≤ tt);
      accent = accent_at (length kids) refl;
    };
    heights = record {
      width = widened (2 ^ 50) (room (length kids) (omega arith)) (lit≤ tt);
      ascent = joined.ascent;
      descent = joined.descent;
      ink_ascent = joined.ink_ascent;
      ink_descent = joined.ink_descent;
    };
    offsets = All-list_to (IsWithin (2 ^ 61)) (length kids) (offset_of s kids) (λ i l. widened (2 ^ 61) (offset_in i l) (lit≤ tt));
  }
