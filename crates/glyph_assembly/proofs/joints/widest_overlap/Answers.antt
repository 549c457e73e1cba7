use Rattle.std.proofs.Common.{◌≡◌, ◌∙◌, ap, sym, subst, ◌≤◌, ◌^◌, cond, get_or, take, to_z, of_z, w64, lit<, IfSome}
use Rattle.std.proofs.lemmas.List.{take_all}
use Rattle.std.proofs.lemmas.List.Sums.{fold_more}
use Rattle.font_metrics.proofs.Scaling.{back64, size_in}
use Rattle.glyph_assembly.specs.Chains.{repeated}
use Rattle.glyph_assembly.specs.Glyphs.{length_at}
use Rattle.glyph_assembly.specs.Pieces.{repeats, widest_overlap}
use Rattle.glyph_assembly.proofs.PartSums.{no_part, part_back}
use Rattle.glyph_assembly.proofs.Rows.{empty, with_part, widest_is, small_repeated}
use Rattle.glyph_assembly.proofs.joints.widest_overlap.Goals as goal
use Rattle.glyph_assembly.proofs.joints.widest_overlap.Goals.{then-part, else-part}

pub loop-part-preserved : goal.loop-part-preserved
loop-part-preserved c =
    let m = c.args.metrics.now in
    let size = to_z w64 (of_z w64 c.args.size) in
    let parts = c.args.parts.now in
    let i = c.loop-part.part-index in
    let part = get_or parts i no_part in
    let back = part_back _ parts i no_part c.requires.parts c.loop-part-test.true in
    let start : c.length_at-start.result ≡ length_at m size part.start = c.length_at-start.ensures.value ∙ ap (length_at m size) back.start in
    let end : c.length_at-end.result ≡ length_at m size part.end = c.length_at-end.ensures.value ∙ ap (length_at m size) back.end in
    let times : c.if-part.repeats ≡ repeats c.args.count part =
    elim c.if-part.branch [
      | then-part w ↦ w.repeats-is ∙ sym (ap (λ v. cond v c.args.count 1) w.if-part.true)
      | else-part w ↦ w.repeats-is ∙ sym (ap (λ v. cond v c.args.count 1) w.if-part.false)
    ] in
    record {
      chain = c.repeated-chain.ensures ∙ (λ k. repeated (c.loop-part.invariant.chain k) (start k) (end k) (times k))
          ∙ sym (fold_more (with_part m size c.args.count) empty parts i no_part c.loop-part-test.true);
      small = subst (λ chain. IfSome chain.widest (λ widest. widest ≤ 2 ^ 32)) (sym c.repeated-chain.ensures)
          (small_repeated (2 ^ 32) c.if-part.repeats c.loop-part.chain c.length_at-start.result c.length_at-end.result
          c.length_at-start.ensures.within c.loop-part.invariant.small);
    }

pub returns-clause-value : goal.returns-clause-value
returns-clause-value c =
    let m = c.args.metrics.now in
    let parts = c.args.parts.now in
    let back = back64 (size_in c.args.size c.requires.size_low c.requires.size_high) (lit< tt) in
    ap (λ chain. chain.widest) c.loop-part.invariant.chain
    ∙ widest_is m (to_z w64 (of_z w64 c.args.size)) c.args.count (take c.loop-part.part-index parts)
    ∙ (λ k. widest_overlap m (back k) c.args.count (take_all c.loop-part.part-index parts c.loop-part-test.false k))
