use Rattle.std.proofs.Common.{◌≡◌, ◌∙◌, sym, ap, subst, refl, pos, ◌+◌, ◌*◌, ◌^◌, ◌≤◌, ◌<◌, ◌++◌, length, take, get_or, replicate, append-nil, append_assoc, arith, rules, w64, to_z, of_z}
use Rattle.std.proofs.Math.Seq.{take-length}
use Rattle.std.proofs.lemmas.List.Elements.{All-take}
use Rattle.fixed_units.specs.Numbers.{IsWithin}
use Rattle.fixed_units.proofs.Within.{natural_in, widened}
use Rattle.font_metrics.specs.Taken.{IsPart}
use Rattle.paint_list.specs.Paints.{most_paints}
use Rattle.paint_list.specs.Pieces.{pieces_of, times}
use Rattle.paint_list.specs.Running.{laid_from, start_after}
use Rattle.paint_list.proofs.Running.{after-append, after_within, built_is_laid, laid-append, no_part, pieces-few, pieces-length-more, pieces-more, pieces_are_parts}
use Rattle.paint_list.proofs.pieces.add_pieces.Goals as goal

pub loop-part-init : goal.loop-part-init
unfolding laid_from start_after pieces_of
loop-part-init c = record { paints = sym (append-nil c.args.paints.now); start = refl }

pub add_part-requires-clause-few : goal.add_part-requires-clause-few
add_part-requires-clause-few c =
    let count = c.args.built.now.count in
    let parts = c.assembly-parts.result.now in
    let i = c.loop-part.part-index in
    let within : i < length parts = search rules in
    let few : length (pieces_of count parts) ≤ most_paints =
    subst (λ ps. length (pieces_of count ps) ≤ most_paints) (sym c.assembly-parts.ensures.value) c.requires.few in
    omega (arith, pieces-length-more count parts i no_part (get_or parts i no_part) within refl, pieces-few count parts (i + 1), few)

pub add_part-requires-clause-start : goal.add_part-requires-clause-start
add_part-requires-clause-start c =
    let m = c.args.metrics.now in
    let built = c.args.built.now in
    let parts = c.assembly-parts.result.now in
    let i = c.loop-part.part-index in
    let few : length (pieces_of built.count parts) ≤ most_paints =
    subst (λ ps. length (pieces_of built.count ps) ≤ most_paints) (sym c.assembly-parts.ensures.value) c.requires.few in
    let are = pieces_are_parts (IsPart (length m.glyphs)) built.count (take i parts) (All-take (IsPart (length m.glyphs)) i parts c.assembly-parts.ensures.items) in
    let none : IsWithin (0 * 2 ^ 34) (pos 0) = widened (0 * 2 ^ 34) (natural_in 0) (omega arith) in
    let there = after_within m built (pos 0) 0 (pieces_of built.count (take i parts)) c.is_taken.ensures c.requires.built are none in
    subst (IsWithin (2 ^ 59)) (sym c.loop-part.invariant.start) (widened (2 ^ 59) there (omega (arith, pieces-few built.count parts i, few)))

pub loop-part-preserved : goal.loop-part-preserved
loop-part-preserved c =
    let m = c.args.metrics.now in
    let built = c.args.built.now in
    let parts = c.assembly-parts.result.now in
    let i = c.loop-part.part-index in
    let part = get_or parts i no_part in
    let within : i < length parts = search rules in
    let before = pieces_of built.count (take i parts) in
    let more = pieces-more built.count parts i no_part part within refl in
    let added = c.in_ok-start.ensures {u = tt} in
    let back : to_z w64 (of_z w64 c.in_ok-start.start) ≡ c.in_ok-start.start = search rules in
    record {
      paints = added.added
          ∙ (λ k. c.loop-part.invariant.paints k ++ laid_from m built (c.loop-part.invariant.start k) (replicate (times built.count part) part))
          ∙ append_assoc c.args.paints.now (laid_from m built (pos 0) before) (laid_from m built (start_after m built (pos 0) before) (replicate (times built.count part) part))
          ∙ ap (λ l. c.args.paints.now ++ l) (sym (laid-append m built (pos 0) before (replicate (times built.count part) part)) ∙ ap (laid_from m built (pos 0)) (sym more));
      start = back ∙ added.next
          ∙ ap (λ s. start_after m built s (replicate (times built.count part) part)) c.loop-part.invariant.start
          ∙ sym (after-append m built (pos 0) before (replicate (times built.count part) part)) ∙ ap (start_after m built (pos 0)) (sym more);
    }

pub returns : goal.returns
returns c =
    let m = c.args.metrics.now in
    let built = c.args.built.now in
    let parts = c.assembly-parts.result.now in
    let end : c.loop-part.part-index ≡ length parts = search rules in
    c.loop-part.invariant.paints
    ∙ ap (λ ps. c.args.paints.now ++ laid_from m built (pos 0) (pieces_of built.count ps)) (ap (λ n. take n parts) end ∙ take-length parts ∙ c.assembly-parts.ensures.value)
    ∙ ap (λ l. c.args.paints.now ++ l) (sym (built_is_laid m built))
