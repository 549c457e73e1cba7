-- What is taken reaches the target, unless nothing does.
use Rattle.std.proofs.Common.{◌≡◌, refl, ℕ, ℤ, ◌-◌, ◌*◌, ◌<ℤ◌, int_le, nat_lt, inl, inr, Bool, true, false, cond, length, Option, Some, None, MatchOption, arith}
use Rattle.std.proofs.lemmas.Bool.{and_parts, ltb-true}
use Rattle.std.specs.List.{All, slice_get}
use Rattle.std.specs.Option.{option_map_or}
use borrow.Author.Differences.{le-true, le-false}
use Rattle.fixed_units.proofs.Signed.{signed}
use Rattle.font_metrics.specs.Metrics.{MetricsValue, variants_of, parts_of}
use Rattle.font_metrics.specs.declared.glyph.GlyphId.{GlyphId}
use Rattle.font_metrics.specs.declared.growth.Variant.{Variant}
use Rattle.op_dictionary.specs.declared.operator.Axis.{Axis}
use Rattle.glyph_assembly.specs.declared.sums.Sums.{Sums}
use Rattle.glyph_assembly.specs.Counts.{grows, Grows, least_count, greatest_overlap}
use Rattle.glyph_assembly.specs.Glyphs.{reach_at}
use Rattle.glyph_assembly.specs.Laws.{IsShort, IsFirstReaching, FallsShort, NothingReaches, IsChosen}
use Rattle.glyph_assembly.specs.Pieces.{sums_of, widest_overlap}
use Rattle.glyph_assembly.specs.Shaping.{base, larger, first_reaching, largest_glyph, assembly_of, assembly_or_glyph, shaped_of}
use Rattle.glyph_assembly.proofs.GreatestOverlap.{overlap_is}
use Rattle.glyph_assembly.proofs.LeastCount.{least_count_is_least}
use Rattle.glyph_assembly.proofs.Taken.{first_reaching_is}

grows_from : (s : Sums) → grows s ≡ true → Grows s
grows_from s e =
    let p = and_parts (nat_lt 0 s.extender_count) (nat_lt (s.overlap * s.extender_count) s.extender_length) e in
    record { some = ltb-true 0 s.extender_count p.0; longer = ltb-true (s.overlap * s.extender_count) s.extender_length p.1 }

module _ (m : MetricsValue) (place : ℕ) (axis : Axis) (target size : ℤ) where
  assembled : FallsShort m place axis target size → grows (sums_of m size (parts_of m place axis)) ≡ true
      → IsChosen m place axis target size (assembly_of m (parts_of m place axis) axis target size).shape
  unfolding assembly_of
  assembled short e =
      let s = sums_of m size (parts_of m place axis) in
      let least = least_count_is_least s target (grows_from s e) in
      let widest = widest_overlap m size (least_count s target) (parts_of m place axis) in
      record {
        short = short;
        times = least_count s target;
        over = greatest_overlap s target (least_count s target) widest;
        count_is = refl;
        overlap_is = refl;
        least = least;
        reaches = (overlap_is s target (least_count s target) widest least.enough).reaches;
      }

  outreached : (last : Option Variant) → NothingReaches m place axis target size
      → IsChosen m place axis target size (option_map_or (λ variant. larger m size variant.glyph) last (base m place size)).shape
  outreached None nothing = inr nothing
  outreached (Some variant) nothing = inr nothing

  assembly_or : (valid : Bool) → grows (sums_of m size (parts_of m place axis)) ≡ valid → FallsShort m place axis target size
      → IsChosen m place axis target size (cond valid (assembly_of m (parts_of m place axis) axis target size)
      (largest_glyph m place size (variants_of m place axis))).shape
  assembly_or true e short = assembled short e
  assembly_or false e short =
      let variants = variants_of m place axis in
      outreached (slice_get variants (length variants - 1)) (record { short = short; assembly = e })

  found_or : (found : Option GlyphId) → reach_at m place axis size <ℤ target
      → MatchOption found (All (IsShort m size target) (variants_of m place axis)) (IsFirstReaching m size target (variants_of m place axis))
      → IsChosen m place axis target size (option_map_or (larger m size) found (assembly_or_glyph m place axis target size)).shape
  found_or None less all = assembly_or (grows (sums_of m size (parts_of m place axis))) refl (record { glyph = less; variants = all })
  found_or (Some glyph) less is = inl is

  reached_or : (reached : Bool) → int_le target (reach_at m place axis size) ≡ reached
      → IsChosen m place axis target size (cond reached (base m place size)
      (option_map_or (larger m size) (first_reaching m size target (variants_of m place axis)) (assembly_or_glyph m place axis target size))).shape
  reached_or true e =
      let l = le-true target (reach_at m place axis size) e in
      inl (omega (arith, signed))
  reached_or false e =
      let l = le-false target (reach_at m place axis size) e in
      found_or (first_reaching m size target (variants_of m place axis)) (omega (arith, signed))
      (first_reaching_is m size target (variants_of m place axis))

pub chosen : (m : MetricsValue) (place : ℕ) (axis : Axis) (target size : ℤ)
    → IsChosen m place axis target size (shaped_of m place axis target size).shape
unfolding shaped_of
chosen m place axis target size = reached_or m place axis target size (int_le target (reach_at m place axis size)) refl
