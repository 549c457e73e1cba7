use Rattle.std.proofs.Common.{◌∙◌, ap, sym, subst, arith, lit<}
use Rattle.font_metrics.proofs.Scaling.{back64}
use Rattle.glyph_assembly.specs.Counts.{IsGreatestOverlap, greatest_overlap}
use Rattle.glyph_assembly.proofs.GreatestOverlap.{greatest_only, no_wider, no_joint}
use Rattle.glyph_assembly.proofs.counts.greatest_overlap.Goals as goal
use Rattle.glyph_assembly.proofs.counts.greatest_overlap.Goals.{in_default-via-in-Some+else-sums-widest, in_default-via-in_default}

pub returns-in-Some : goal.returns-in-Some
returns-in-Some c =
    let target = back64 c.requires.target_in (lit< tt) in
    let greatest = subst (λ t. IsGreatestOverlap c.args.sums.now t c.args.count c.in-Some.widest c.fitting.result) target c.fitting.ensures in
    greatest_only c.args.sums.now c.args.target c.args.count _ _ greatest
    ∙ ap (greatest_overlap c.args.sums.now c.args.target c.args.count) (sym c.in-Some.is)

pub returns-in_default : goal.returns-in_default
returns-in_default c =
    elim c.in_default.branch [
      | in_default-via-in-Some+else-sums-widest w ↦ no_wider c.args.sums.now c.args.target c.args.count _ (omega arith)
          ∙ ap (greatest_overlap c.args.sums.now c.args.target c.args.count) (sym w.in-Some.is)
      | in_default-via-in_default w ↦ no_joint c.args.sums.now c.args.target c.args.count
          ∙ ap (greatest_overlap c.args.sums.now c.args.target c.args.count) (sym w.in_default.is)
    ]
