-- How far targets reach.
use Rattle.std.proofs.Common.{◌≡◌, refl, lit≤, ◌+◌, ◌*◌, ◌^◌, ℤ, pos, ◌+ℤ◌, ◌-ℤ◌, ◌*ℤ◌, ◌≤ℤ◌, ◌<ℤ◌, int_lt, int_le, Bool, true, false, cond, Option, Some, None, IfSome, arith}
use Rattle.std.specs.Int.{int_max}
use borrow.Author.Differences.{le-false}
use Rattle.fixed_units.specs.Numbers.{IsWithin, rounded, halved}
use Rattle.fixed_units.specs.declared.pull.Pull.{Pull}
use Rattle.fixed_units.specs.declared.pull.Pull.TheVariants.{Free, Block, Inline}
use Rattle.fixed_units.proofs.Signed.{signed}
use Rattle.fixed_units.proofs.Within.{natural_in, sum_in, difference_in, product_in, rounded_in, half_in, max_in, min_in, widened}
use Rattle.glyph_assembly.specs.Targets.{Span, total, evened, covering, centred, resized, at_most, bounded, width_at_most, target_of, IsStretch, AreSizes, IsInReach}

pub covering_in : (a d axis : ℤ) (symmetric : Bool) → IsWithin (2 ^ 30) a → IsWithin (2 ^ 30) d → IsWithin (2 ^ 32) axis
    → IsWithin (9 * 2 ^ 30) (covering (a, d) symmetric axis).0 × IsWithin (9 * 2 ^ 30) (covering (a, d) symmetric axis).1
unfolding evened
covering_in a d axis true p q r =
    let reach = max_in (difference_in p r) (sum_in q r) in
    (sum_in reach r, difference_in reach r)
covering_in a d axis false p q r = (widened (9 * 2 ^ 30) p (lit≤ tt), widened (9 * 2 ^ 30) q (lit≤ tt))

-- an ascent, and what it leaves of a size
rest_in : (ascent size : ℤ) → IsWithin (13 * 2 ^ 58 + 2 ^ 32) ascent → IsWithin (2 ^ 28) size → IsInReach (ascent, size -ℤ ascent)
rest_in ascent size p q = record {
  ascent = widened (7 * 2 ^ 59) p (lit≤ tt);
  descent = widened (7 * 2 ^ 59) (difference_in q p) (lit≤ tt);
  total = record { low = let l = q.low in omega (arith, signed); high = let h = q.high in omega (arith, signed) };
}

centred_in : (size axis : ℤ) → IsWithin (2 ^ 28) size → IsWithin (2 ^ 32) axis → IsInReach (centred size axis)
unfolding centred
centred_in size axis p r =
    rest_in (halved size +ℤ axis) size (widened (13 * 2 ^ 58 + 2 ^ 32) (sum_in (half_in p) r) (lit≤ tt)) p

module _ (span : Span) (axis : ℤ) (above : IsWithin (9 * 2 ^ 30) span.0) (below : IsWithin (9 * 2 ^ 30) span.1) (r : IsWithin (2 ^ 32) axis) where
  resized_in : (size : ℤ) → pos 0 <ℤ total span → IsWithin (2 ^ 28) size → IsInReach (resized span size axis)
  unfolding resized
  resized_in size positive p =
      let share = rounded_in (total span) positive (product_in (difference_in above r) p) in
      rest_in (int_max (rounded ((span.0 -ℤ axis) *ℤ size) (total span) +ℤ axis) (pos 0)) size (max_in (sum_in share r) (natural_in 0)) p

  span_in : IsInReach span
  span_in = record {
    ascent = widened (7 * 2 ^ 59) above (lit≤ tt);
    descent = widened (7 * 2 ^ 59) below (lit≤ tt);
    total = widened (2 ^ 35) (sum_in above below) (lit≤ tt);
  }

  at_most_in : (most : Option ℤ) → pos 0 <ℤ total span → IfSome most (λ most. (pos 0 ≤ℤ most) × (most ≤ℤ pos (2 ^ 28))) → IsInReach (at_most span most axis)
  at_most_in None positive p = span_in
  at_most_in (Some most) positive p = by (int_lt most (total span))
    where
      by : (v : Bool) → IsInReach (cond v (resized span most axis) span)
      by true = resized_in most positive (record { low = omega (arith, signed, p.0); high = p.1 })
      by false = span_in

  bounded_in : (least : ℤ) (most : Option ℤ) → AreSizes least most → IsInReach (bounded span least most axis)
  unfolding bounded
  bounded_in least most sizes = by (int_le (total span) (pos 0)) refl
    where
      small : IsWithin (2 ^ 28) least
      small = record { low = omega (arith, signed, sizes.low); high = sizes.high }

      cap : (most : Option ℤ) → IfSome most (λ most. (least ≤ℤ most) × (most ≤ℤ pos (2 ^ 28))) → IfSome most (λ most. (pos 0 ≤ℤ most) × (most ≤ℤ pos (2 ^ 28)))
      cap None p = p
      cap (Some most) p = (omega (arith, signed, sizes.low, p.0), p.1)

      within : (v : Bool) → pos 0 <ℤ total span → IsInReach (cond v (resized span least axis) (at_most span most axis))
      within true positive = resized_in least positive small
      within false positive = at_most_in most positive (cap most sizes.cap)

      by : (v : Bool) → int_le (total span) (pos 0) ≡ v
          → IsInReach (cond v (centred least axis) (cond (int_lt (total span) least) (resized span least axis) (at_most span most axis)))
      by true e = centred_in least axis small r
      by false e =
          let l = le-false (total span) (pos 0) e in
          within (int_lt (total span) least) (omega (arith, signed))

width_in : (width : ℤ) (most : Option ℤ) (least : ℤ) → IsWithin (2 ^ 30) width → AreSizes least most → IsWithin (2 ^ 30) (width_at_most width most)
width_in width None least p sizes = p
width_in width (Some most) least p sizes =
    let q : IsWithin (2 ^ 28) most = record { low = omega (arith, signed, sizes.low, sizes.cap); high = sizes.cap.1 } in
    widened (2 ^ 30) (min_in q p) (lit≤ tt)

pub target_in : (pull : Pull) (symmetric : Bool) (least : ℤ) (most : Option ℤ) (axis : ℤ)
    → IsStretch pull → AreSizes least most → IsWithin (2 ^ 32) axis → IsInReach (target_of pull symmetric least most axis)
unfolding target_of
target_in Free symmetric least most axis p sizes r = absurd p
target_in (Block a d) symmetric least most axis p sizes r =
    let c = covering_in a d axis symmetric p.0 p.1 r in
    bounded_in (covering (a, d) symmetric axis) axis c.0 c.1 r least most sizes
target_in (Inline width) symmetric least most axis p sizes r =
    let q : IsWithin (2 ^ 28) least = record { low = omega (arith, signed, sizes.low); high = sizes.high } in
    let w = max_in q (width_in width most least p sizes) in
    record {
      ascent = widened (7 * 2 ^ 59) w (lit≤ tt);
      descent = widened (7 * 2 ^ 59) (natural_in 0) (lit≤ tt);
      total = widened (2 ^ 35) (sum_in w (natural_in 0)) (lit≤ tt);
    }
