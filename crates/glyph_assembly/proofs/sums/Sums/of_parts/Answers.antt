use Rattle.std.proofs.Common.{to_z, of_z, w64, get_or, ◌≡◌, ◌∙◌, ap, arith, true, false, take, lit<}
use Rattle.std.proofs.lemmas.List.{take_all}
use Rattle.font_metrics.proofs.Scaling.{back64, size_in}
use Rattle.glyph_assembly.specs.declared.sums.Sums.{Sums}
use Rattle.glyph_assembly.specs.Glyphs.{length_at}
use Rattle.glyph_assembly.specs.Pieces.{full_at, sums_of}
use Rattle.glyph_assembly.proofs.PartSums.{no_part, part_back, fixed_full-more, extender_full-more, fixed_count-more, extender_count-more}
use Rattle.glyph_assembly.proofs.sums.Sums.of_parts.Goals as goal
use Rattle.glyph_assembly.proofs.sums.Sums.of_parts.Goals.{then-part, else-part}

pub loop-part-preserved : goal.loop-part-preserved
loop-part-preserved c =
    let m = c.args.metrics.now in
    let size = to_z w64 (of_z w64 c.args.size) in
    let i = c.loop-part.part-index in
    let parts = c.args.parts.now in
    let below = c.loop-part-test.true in
    let back = part_back _ parts i no_part c.requires.parts below in
    elim c.if-part.branch [
      | then-part w ↦
          let full : c.length_at-full.result ≡ full_at m size (get_or parts i no_part) = c.length_at-full.ensures.value ∙ ap (length_at m size) back.full in
          let f = fixed_full-more m size parts i no_part below true w.if-part.true in
          let fc = fixed_count-more m size parts i no_part below true w.if-part.true in
          let e = extender_full-more m size parts i no_part below true w.if-part.true in
          let ec = extender_count-more m size parts i no_part below true w.if-part.true in
          let sf = ap (λ (s : Sums). s.fixed_length) w.sums-is in
          let sfc = ap (λ (s : Sums). s.fixed_count) w.sums-is in
          let se = ap (λ (s : Sums). s.extender_length) w.sums-is in
          let sec = ap (λ (s : Sums). s.extender_count) w.sums-is in
          let so = ap (λ (s : Sums). s.overlap) w.sums-is in
          record {
            fixed_length = omega arith;
            fixed_count = omega arith;
            extender_length = omega arith;
            extender_count = omega arith;
            overlap = so ∙ c.loop-part.invariant.overlap;
            fixed_small = omega arith;
            extender_small = omega arith;
            few_fixed = omega arith;
            few_extenders = omega arith;
            overlap_small = omega arith;
          }
      | else-part w ↦
          let full : c.length_at-full.result ≡ full_at m size (get_or parts i no_part) = c.length_at-full.ensures.value ∙ ap (length_at m size) back.full in
          let f = fixed_full-more m size parts i no_part below false w.if-part.false in
          let fc = fixed_count-more m size parts i no_part below false w.if-part.false in
          let e = extender_full-more m size parts i no_part below false w.if-part.false in
          let ec = extender_count-more m size parts i no_part below false w.if-part.false in
          let sf = ap (λ (s : Sums). s.fixed_length) w.sums-is in
          let sfc = ap (λ (s : Sums). s.fixed_count) w.sums-is in
          let se = ap (λ (s : Sums). s.extender_length) w.sums-is in
          let sec = ap (λ (s : Sums). s.extender_count) w.sums-is in
          let so = ap (λ (s : Sums). s.overlap) w.sums-is in
          record {
            fixed_length = omega arith;
            fixed_count = omega arith;
            extender_length = omega arith;
            extender_count = omega arith;
            overlap = so ∙ c.loop-part.invariant.overlap;
            fixed_small = omega arith;
            extender_small = omega arith;
            few_fixed = omega arith;
            few_extenders = omega arith;
            overlap_small = omega arith;
          }
    ]

pub returns-clause-value : goal.returns-clause-value
returns-clause-value c =
    let m = c.args.metrics.now in
    let parts = c.args.parts.now in
    let back = back64 (size_in c.args.size c.requires.size_low c.requires.size_high) (lit< tt) in
    let all = take_all c.loop-part.part-index parts c.loop-part-test.false in
    let over : sums_of m (to_z w64 (of_z w64 c.args.size)) (take c.loop-part.part-index parts) ≡ sums_of m c.args.size parts = λ k. sums_of m (back k) (all k) in
    let made : c.loop-part.sums ≡ sums_of m (to_z w64 (of_z w64 c.args.size)) (take c.loop-part.part-index parts) = λ k. record {
      fixed_length = c.loop-part.invariant.fixed_length k;
      fixed_count = c.loop-part.invariant.fixed_count k;
      extender_length = c.loop-part.invariant.extender_length k;
      extender_count = c.loop-part.invariant.extender_count k;
      overlap = c.loop-part.invariant.overlap k;
    } in
    made ∙ over
