use Rattle.std.proofs.Common.{◌≡◌, ◌∙◌, ap, sym, subst, rules, ◌^◌, to_z, of_z, w64, FitsSigned, lit<, get_or, take, fold, map, length, ◌∷◌}
use Rattle.std.proofs.lemmas.Int.{to_z-of_z}
use Rattle.std.proofs.lemmas.List.{take_all, map_more}
use Rattle.std.proofs.lemmas.List.Elements.{All-get_or, All-tail}
use Rattle.std.proofs.lemmas.List.Sums.{fold_push}
use Rattle.std.specs.Int.{int_max}
use Rattle.std.specs.List.{All}
use Rattle.fixed_units.specs.Numbers.{IsWithin}
use Rattle.fixed_units.proofs.Within.{max_in}
use Rattle.font_metrics.proofs.Scaling.{back64, size_in}
use Rattle.font_metrics.specs.Taken.{IsPart}
use Rattle.glyph_assembly.specs.Pieces.{measure_of, largest}
use Rattle.glyph_assembly.proofs.PartSums.{no_part}
use Rattle.glyph_assembly.proofs.assembly.largest.Goals as goal
use Rattle.glyph_assembly.proofs.assembly.largest.Goals.{In-Some, After-max-most}

behind_first : (c : In-Some) → c.args.parts.now ≡ c.in-Some.first.now ∷ c.in-Some.others.now
behind_first c = (c.in-Some.ensures {u = tt}).cases.0

pub measured-requires-clause-glyph : goal.measured-requires-clause-glyph
measured-requires-clause-glyph c =
    let is = IsPart (length c.args.metrics.now.glyphs) in
    let all = All-tail is _ _ (subst (All is) (behind_first (goal.at.measured-requires-clause-glyph c).In-Some) c.requires.parts) in
    (All-get_or is c.in-Some.others.now c.loop-part.part-index no_part c.loop-part-test.true all).glyph

-- one part more
more : (c : After-max-most) → to_z w64 (of_z w64 c.max-most.result)
    ≡ int_max (to_z w64 c.loop-part.most-bits) (measure_of c.args.measure c.args.metrics.now (to_z w64 (of_z w64 c.args.size)) (get_or c.in-Some.others.now c.loop-part.part-index no_part))
more c =
    let fits : FitsSigned w64 c.max-most.result = search rules in
    to_z-of_z w64 c.max-most.result fits ∙ c.max-most.ensures.value
    ∙ ap (int_max (to_z w64 c.loop-part.most-bits)) (back64 c.measured.ensures.within (lit< tt) ∙ c.measured.ensures.value)

pub loop-part-preserved : goal.loop-part-preserved
loop-part-preserved c =
    let m = c.args.metrics.now in
    let size = to_z w64 (of_z w64 c.args.size) in
    let others = c.in-Some.others.now in
    let i = c.loop-part.part-index in
    let f = measure_of c.args.measure m size in
    let start = to_z w64 (of_z w64 c.measured-most.result) in
    let most = more (goal.at.loop-part-preserved c).After-max-most in
    let next = subst (IsWithin (2 ^ 32)) c.measured.ensures.value c.measured.ensures.within in
    record {
      most = most ∙ ap (λ z. int_max z (f (get_or others i no_part))) c.loop-part.invariant.most
          ∙ sym (fold_push int_max start (map f (take i others)) (f (get_or others i no_part)))
          ∙ sym (ap (fold int_max start) (map_more f others i no_part c.loop-part-test.true));
      within = subst (IsWithin (2 ^ 32)) (sym most) (max_in c.loop-part.invariant.within next);
    }

pub returns-clause-value : goal.returns-clause-value
returns-clause-value c =
    let m = c.args.metrics.now in
    let others = c.in-Some.others.now in
    let back = back64 (size_in c.args.size c.requires.size_low c.requires.size_high) (lit< tt) in
    let all = take_all c.loop-part.part-index others c.loop-part-test.false in
    let start = back64 c.measured-most.ensures.within (lit< tt) ∙ c.measured-most.ensures.value in
    c.loop-part.invariant.most
    ∙ (λ k. fold int_max (start k) (map (measure_of c.args.measure m (to_z w64 (of_z w64 c.args.size))) (all k)))
    ∙ (λ k. largest (map (measure_of c.args.measure m (back k)) (c.in-Some.first.now ∷ others)))
    ∙ sym (ap (λ parts. largest (map (measure_of c.args.measure m c.args.size) parts)) (behind_first (goal.at.returns-clause-value c).In-Some))
