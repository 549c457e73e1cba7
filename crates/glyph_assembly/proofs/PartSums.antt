-- The sums over the parts so far, with one part more.
use Rattle.std.proofs.Common.{◌≡◌, ◌∙◌, ap, ℕ, ◌+◌, ◌<◌, Bool, false, not, cond, List, length, get_or, take, sum_by, count_by, ℤ, pos, ◌^◌, w64, to_z, of_z, lit<, arith}
use Rattle.std.specs.List.{All}
use Rattle.std.proofs.lemmas.List.Elements.{All-get_or}
use Rattle.std.proofs.lemmas.List.Sums.{sum_by_more}
use Rattle.fixed_units.specs.Numbers.{IsWithin}
use Rattle.fixed_units.proofs.Signed.{signed}
use Rattle.font_metrics.proofs.Scaling.{back64}
use Rattle.font_metrics.specs.Metrics.{MetricsValue}
use Rattle.font_metrics.specs.Taken.{IsLength, IsPart}
use Rattle.font_metrics.specs.declared.growth.Part.{Part}
use Rattle.glyph_assembly.specs.Pieces.{full_at, fixed_full, extender_full}

-- what stands for a part that isn't there
abbrev pub no_part : Part
no_part = record { glyph = record { 0 = 0 }; extender = false; start = pos 0; end = pos 0; full = pos 0 }

pub record IsBack (part : Part) : Type 0 where
  pub start : to_z w64 (of_z w64 part.start) ≡ part.start
  pub end : to_z w64 (of_z w64 part.end) ≡ part.end
  pub full : to_z w64 (of_z w64 part.full) ≡ part.full

-- what machine numbers hold of a part is what the file says
pub length_back : (z : ℤ) → IsLength z → to_z w64 (of_z w64 z) ≡ z
length_back z h =
    let within : IsWithin (2 ^ 16) z = record { low = omega (arith, signed); high = omega (arith, signed) } in
    back64 within (lit< tt)

pub part_back : (n : ℕ) (parts : List Part) (i : ℕ) (d : Part) → All (IsPart n) parts → i < length parts → IsBack (get_or parts i d)
part_back n parts i d all below =
    let is = All-get_or (IsPart n) parts i d below all in
    record { start = length_back _ is.start; end = length_back _ is.end; full = length_back _ is.full }

module _ (m : MetricsValue) (size : ℤ) (parts : List Part) (i : ℕ) (d : Part) (below : i < length parts) where
  pub fixed_full-more : (v : Bool) → (get_or parts i d).extender ≡ v
      → sum_by (fixed_full m size) (take (i + 1) parts) ≡ sum_by (fixed_full m size) (take i parts) + cond v 0 (full_at m size (get_or parts i d))
  fixed_full-more v is =
      sum_by_more (fixed_full m size) parts i d below
      ∙ ap (λ (v : Bool). sum_by (fixed_full m size) (take i parts) + cond v 0 (full_at m size (get_or parts i d))) is

  pub extender_full-more : (v : Bool) → (get_or parts i d).extender ≡ v
      → sum_by (extender_full m size) (take (i + 1) parts) ≡ sum_by (extender_full m size) (take i parts) + cond v (full_at m size (get_or parts i d)) 0
  extender_full-more v is =
      sum_by_more (extender_full m size) parts i d below
      ∙ ap (λ (v : Bool). sum_by (extender_full m size) (take i parts) + cond v (full_at m size (get_or parts i d)) 0) is

  pub fixed_count-more : (v : Bool) → (get_or parts i d).extender ≡ v
      → count_by (λ part. not part.extender) (take (i + 1) parts) ≡ count_by (λ part. not part.extender) (take i parts) + cond (not v) 1 0
  fixed_count-more v is =
      sum_by_more (λ part. cond (not part.extender) 1 0) parts i d below
      ∙ ap (λ (v : Bool). count_by (λ part. not part.extender) (take i parts) + cond (not v) 1 0) is

  pub extender_count-more : (v : Bool) → (get_or parts i d).extender ≡ v
      → count_by (λ part. part.extender) (take (i + 1) parts) ≡ count_by (λ part. part.extender) (take i parts) + cond v 1 0
  extender_count-more v is =
      sum_by_more (λ part. cond part.extender 1 0) parts i d below
      ∙ ap (λ (v : Bool). count_by (λ part. part.extender) (take i parts) + cond v 1 0) is
