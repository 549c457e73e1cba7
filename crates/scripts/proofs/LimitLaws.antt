-- Limits keep their gaps and stand inside their box.
use Rattle.std.proofs.Common.{◌≡◌, arith, Bool, true, Option, Some, None, IfSome, [], ◌∷◌, ℤ, pos, ◌+ℤ◌, ◌-ℤ◌, ◌≤ℤ◌}
use Rattle.fixed_units.specs.Boxes.{IsUnion, raised}
use Rattle.fixed_units.specs.Numbers.{halved}
use Rattle.fixed_units.specs.declared.boxes.MathBox.{MathBox}
use Rattle.fixed_units.proofs.Rounding.{halved-parts}
use Rattle.fixed_units.proofs.Signed.{signed}
use Rattle.fixed_units.proofs.Unions.{all_joined_is_union}
use Rattle.font_metrics.specs.Metrics.{MetricsValue}
use Rattle.scripts.specs.Laws.{least_of, KeepGaps, boxes_of, IsInside, StandInside, IsCentred, AccentsMeet}
use Rattle.scripts.specs.LimitGaps.{above_of, below_of, distance_of}
use Rattle.scripts.specs.Limits.{lean_of, middle_of, under_x_of, over_x_of, under_limit_of, over_limit_of, whole_of, attached_of, spot_in_of, limits_of, placed_if, under_over_of}
use Rattle.scripts.specs.declared.limits.Extent.{Extent}
use Rattle.scripts.specs.declared.limits.Placed.{Placed}
use Rattle.scripts.specs.declared.parts.LimitCase.{LimitCase}
use Rattle.scripts.specs.declared.parts.LimitCase.TheVariants.{Plain, Stretchy}
use Rattle.scripts.specs.declared.spacing.Gap.{Gap}
use Rattle.scripts.specs.declared.spacing.Gap.TheVariants.{Limit, Stack, Accent, Bar}

-- ---- gaps
distance_keeps : (gap : Gap) (base limit : ℤ) → least_of gap ≤ℤ (distance_of gap base limit -ℤ limit -ℤ base)
unfolding distance_of
distance_keeps (Limit rise least) base limit = omega (arith, signed)
distance_keeps (Stack shift least) base limit = omega (arith, signed)
distance_keeps (Accent height) base limit = omega (arith, signed)
distance_keeps (Bar gap extra) base limit = omega (arith, signed)

module _ (m : MetricsValue) (base : MathBox) (case : LimitCase) (accent accentunder : Bool) (size : ℤ) where
  abbrev below : Option MathBox → Option Placed
  below under = placed_if (λ part. under_limit_of m base part case accentunder size) under

  abbrev above : Option MathBox → Option Placed
  above over = placed_if (λ part. over_limit_of m base part case accent size) over

  abbrev extent : Option MathBox → Option MathBox → Extent
  extent under over = attached_of (attached_of (whole_of base) (below under)) (above over)

  under_keeps : (under over : Option MathBox)
      → IfSome under (λ part. least_of (below_of m case accentunder size)
      ≤ℤ (((under_over_of m base under over case accent accentunder size).under.y -ℤ part.ink_ascent) -ℤ (pos 0 +ℤ base.ink_descent)))
  unfolding limits_of spot_in_of under_limit_of
  under_keeps None over = tt
  under_keeps (Some part) over =
      let d = distance_keeps (below_of m case accentunder size) base.ink_descent part.ink_ascent in
      omega (arith, signed, d)

  over_keeps : (under over : Option MathBox)
      → IfSome over (λ part. least_of (above_of m case accent size)
      ≤ℤ ((pos 0 -ℤ base.ink_ascent) -ℤ ((under_over_of m base under over case accent accentunder size).over.y +ℤ part.ink_descent)))
  unfolding limits_of spot_in_of over_limit_of
  over_keeps under None = tt
  over_keeps under (Some part) =
      let d = distance_keeps (above_of m case accent size) base.ink_ascent part.ink_descent in
      omega (arith, signed, d)

  pub keep_gaps : (under over : Option MathBox)
      → KeepGaps (above_of m case accent size) (below_of m case accentunder size) base under over
      (under_over_of m base under over case accent accentunder size)
  unfolding limits_of
  keep_gaps under over = record { below_base = under_keeps under over; above_base = over_keeps under over }

  -- ---- the box
  pub limits_are_a_union : (under over : Option MathBox)
      → IsUnion (boxes_of m base under over case accent accentunder size) (under_over_of m base under over case accent accentunder size).frame
  unfolding limits_of attached_of whole_of
  limits_are_a_union None None =
      let all = all_joined_is_union base [] in
      record { ascent = all.ascent; descent = all.descent; ink_ascent = all.ink_ascent; ink_descent = all.ink_descent }
  limits_are_a_union (Some under) None =
      let all = all_joined_is_union base ((under_limit_of m base under case accentunder size).frame ∷ []) in
      record { ascent = all.ascent; descent = all.descent; ink_ascent = all.ink_ascent; ink_descent = all.ink_descent }
  limits_are_a_union None (Some over) =
      let all = all_joined_is_union base ((over_limit_of m base over case accent size).frame ∷ []) in
      record { ascent = all.ascent; descent = all.descent; ink_ascent = all.ink_ascent; ink_descent = all.ink_descent }
  limits_are_a_union (Some under) (Some over) =
      let all = all_joined_is_union base ((under_limit_of m base under case accentunder size).frame ∷ (over_limit_of m base over case accent size).frame ∷ []) in
      record { ascent = all.ascent; descent = all.descent; ink_ascent = all.ink_ascent; ink_descent = all.ink_descent }

-- ---- inside
not_after : (a b c : ℤ) → a ≤ℤ b → b ≤ℤ c → a ≤ℤ c
not_after a b c p q = omega (arith, signed)

alone : (width : ℤ) → (pos 0 +ℤ width) ≤ℤ width
alone width = omega (arith, signed)

-- where all is moved right by what begins before the base
begins : (start x : ℤ) → start ≤ℤ x → pos 0 ≤ℤ (x -ℤ start)
begins start x h = omega (arith, signed)

ends : (start end x width : ℤ) → (x +ℤ width) ≤ℤ end → (x -ℤ start +ℤ width) ≤ℤ (end -ℤ start)
ends start end x width h = omega (arith, signed)

start_kept : (extent : Extent) (part : Option Placed) → (attached_of extent part).start ≤ℤ extent.start
unfolding attached_of
start_kept extent None = omega (arith, signed)
start_kept extent (Some part) = omega (arith, signed)

end_kept : (extent : Extent) (part : Option Placed) → extent.end ≤ℤ (attached_of extent part).end
unfolding attached_of
end_kept extent None = omega (arith, signed)
end_kept extent (Some part) = omega (arith, signed)

starts_inside : (extent : Extent) (part : Placed) → (attached_of extent (Some part)).start ≤ℤ part.x
unfolding attached_of
starts_inside extent part = omega (arith, signed)

ends_inside : (extent : Extent) (part : Placed) → (part.x +ℤ part.frame.width) ≤ℤ (attached_of extent (Some part)).end
unfolding attached_of
ends_inside extent part = omega (arith, signed)

module _ (m : MetricsValue) (base : MathBox) (case : LimitCase) (accent accentunder : Bool) (size : ℤ) where
  base_inside : (under over : Option MathBox)
      → let limits = under_over_of m base under over case accent accentunder size in IsInside limits.frame.width base limits.base
  unfolding limits_of whole_of
  base_inside under over =
      let first = attached_of (whole_of base) (below m base case accent accentunder size under) in
      let s = start_kept (whole_of base) (below m base case accent accentunder size under) in
      let t = start_kept first (above m base case accent accentunder size over) in
      let e = end_kept (whole_of base) (below m base case accent accentunder size under) in
      let f = end_kept first (above m base case accent accentunder size over) in
      let all = extent m base case accent accentunder size under over in
      record {
        start = begins all.start (pos 0) (not_after all.start first.start (pos 0) t s);
        end = ends all.start all.end (pos 0) base.width (not_after _ _ _ (alone base.width) (not_after base.width first.end all.end e f));
      }

  under_inside : (under over : Option MathBox)
      → let limits = under_over_of m base under over case accent accentunder size in IfSome under (λ part. IsInside limits.frame.width part limits.under)
  unfolding limits_of spot_in_of under_limit_of raised
  under_inside None over = tt
  under_inside (Some part) over =
      let placed = under_limit_of m base part case accentunder size in
      let first = attached_of (whole_of base) (Some placed) in
      let s = starts_inside (whole_of base) placed in
      let t = start_kept first (above m base case accent accentunder size over) in
      let e = ends_inside (whole_of base) placed in
      let f = end_kept first (above m base case accent accentunder size over) in
      let all = extent m base case accent accentunder size (Some part) over in
      record {
        start = begins all.start placed.x (not_after all.start first.start placed.x t s);
        end = ends all.start all.end placed.x part.width (not_after (placed.x +ℤ part.width) first.end all.end e f);
      }

  over_inside : (under over : Option MathBox)
      → let limits = under_over_of m base under over case accent accentunder size in IfSome over (λ part. IsInside limits.frame.width part limits.over)
  unfolding limits_of spot_in_of over_limit_of raised
  over_inside under None = tt
  over_inside under (Some part) =
      let placed = over_limit_of m base part case accent size in
      let first = attached_of (whole_of base) (below m base case accent accentunder size under) in
      let s = starts_inside first placed in
      let e = ends_inside first placed in
      let all = extent m base case accent accentunder size under (Some part) in
      record { start = begins all.start placed.x s; end = ends all.start all.end placed.x part.width e }

  pub stand_inside : (under over : Option MathBox) → StandInside base under over (under_over_of m base under over case accent accentunder size)
  stand_inside under over = record { base_is = base_inside under over; under_is = under_inside under over; over_is = over_inside under over }

-- ---- in the middle, and over an accent
middle_low : (base part start : ℤ)
    → (halved (base -ℤ part) -ℤ halved (pos 0) -ℤ start -ℤ (pos 0 -ℤ start)) ≤ℤ ((pos 0 -ℤ start +ℤ base) -ℤ (halved (base -ℤ part) -ℤ halved (pos 0) -ℤ start +ℤ part))
middle_low base part start = omega (arith, signed, halved-parts (base -ℤ part), halved-parts (pos 0))

middle_high : (base part start : ℤ)
    → ((pos 0 -ℤ start +ℤ base) -ℤ (halved (base -ℤ part) -ℤ halved (pos 0) -ℤ start +ℤ part)) ≤ℤ (halved (base -ℤ part) -ℤ halved (pos 0) -ℤ start -ℤ (pos 0 -ℤ start) +ℤ pos 1)
middle_high base part start = omega (arith, signed, halved-parts (base -ℤ part), halved-parts (pos 0))

pub under_plain : (m : MetricsValue) (base under : MathBox) (over : Option MathBox) (accent accentunder : Bool) (size : ℤ)
    → let limits = under_over_of m base (Some under) over Plain accent accentunder size in IsCentred base under limits.base limits.under
unfolding limits_of spot_in_of under_limit_of under_x_of middle_of lean_of
under_plain m base under over accent accentunder size =
    let all = extent m base Plain accent accentunder size (Some under) over in
    record { low = middle_low base.width under.width all.start; high = middle_high base.width under.width all.start }

pub under_stretchy : (m : MetricsValue) (base under : MathBox) (over : Option MathBox) (accent accentunder : Bool) (size : ℤ)
    → let limits = under_over_of m base (Some under) over Stretchy accent accentunder size in IsCentred base under limits.base limits.under
unfolding limits_of spot_in_of under_limit_of under_x_of middle_of lean_of
under_stretchy m base under over accent accentunder size =
    let all = extent m base Stretchy accent accentunder size (Some under) over in
    record { low = middle_low base.width under.width all.start; high = middle_high base.width under.width all.start }

base_meets : (accent start : ℤ) → (pos 0 -ℤ start) +ℤ accent ≡ accent -ℤ start
base_meets accent start = omega (arith, signed)

over_meets : (base over start : ℤ) → (base -ℤ over -ℤ start) +ℤ over ≡ base -ℤ start
over_meets base over start = omega (arith, signed)

pub accents_over : (m : MetricsValue) (base over : MathBox) (under : Option MathBox) (accentunder : Bool) (size : ℤ)
    → AccentsMeet base over (under_over_of m base under (Some over) Plain true accentunder size)
unfolding limits_of spot_in_of over_limit_of over_x_of
accents_over m base over under accentunder size =
    let all = extent m base Plain true accentunder size under (Some over) in
    record { of_base = base_meets base.accent all.start; of_over = over_meets base.accent over.accent all.start }
