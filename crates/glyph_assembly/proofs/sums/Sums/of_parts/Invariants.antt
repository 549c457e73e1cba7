use Rattle.std.proofs.Common.{◌≡◌, ◌*◌, ◌≤◌, ◌^◌, not, take, sum_by, count_by}
use Rattle.font_metrics.specs.Metrics.{overlap_of}
use Rattle.glyph_assembly.specs.Glyphs.{length_at}
use Rattle.glyph_assembly.specs.Pieces.{fixed_full, extender_full}
use Rattle.glyph_assembly.proofs.sums.Sums.of_parts.Given as goal

-- the sums over the parts so far, and how large they are
abbrev pub invariant-loop-part : goal.invariant-loop-part
invariant-loop-part l = record {
  fixed_length : l.sums.fixed_length ≡ sum_by (fixed_full l.metrics l.fn.size) (take l.part-index l.parts);
  fixed_count : l.sums.fixed_count ≡ count_by (λ part. not part.extender) (take l.part-index l.parts);
  extender_length : l.sums.extender_length ≡ sum_by (extender_full l.metrics l.fn.size) (take l.part-index l.parts);
  extender_count : l.sums.extender_count ≡ count_by (λ part. part.extender) (take l.part-index l.parts);
  overlap : l.sums.overlap ≡ length_at l.metrics l.fn.size (overlap_of l.metrics);
  fixed_small : l.sums.fixed_length ≤ l.part-index * 2 ^ 32;
  extender_small : l.sums.extender_length ≤ l.part-index * 2 ^ 32;
  few_fixed : l.sums.fixed_count ≤ l.part-index;
  few_extenders : l.sums.extender_count ≤ l.part-index;
  overlap_small : l.sums.overlap ≤ 2 ^ 32;
}
