use Rattle.std.proofs.Common.{rules, ◌≡◌, ◌∙◌, ap, sym, subst, arith, lit<, ◌*◌, ◌^◌, w64, FitsSigned}
use Rattle.std.proofs.lemmas.Int.{to_z-of_z}
use Rattle.fixed_units.specs.Numbers.{IsWithin}
use Rattle.font_metrics.proofs.Scaling.{back64}
use Rattle.glyph_assembly.specs.Targets.{Span, IsStretch, IsInReach, covering, bounded, target_of}
use Rattle.glyph_assembly.proofs.Reach.{covering_in, target_in}
use Rattle.glyph_assembly.proofs.targets.target.Goals as goal
use Rattle.glyph_assembly.proofs.targets.target.Goals.{In-Block, After-covering-span}

asked : (c : In-Block) → IsWithin (2 ^ 30) c.in-Block.ascent × IsWithin (2 ^ 30) c.in-Block.descent
asked c = subst IsStretch c.in-Block.is c.requires.pull

covered : (c : After-covering-span) → c.covering-span.result ≡ covering (c.in-Block.ascent, c.in-Block.descent) c.args.properties.now.symmetric c.args.axis_height
covered c =
    let pull = asked (goal.at.After-covering-span c).In-Block in
    c.covering-span.ensures
    ∙ (λ i. covering (back64 pull.0 (lit< tt) i, back64 pull.1 (lit< tt) i) c.args.properties.now.symmetric (back64 c.requires.axis_in (lit< tt) i))

pub bounded-requires-clause-ascent_in : goal.bounded-requires-clause-ascent_in
bounded-requires-clause-ascent_in c =
    let pull = asked (goal.at.bounded-requires-clause-ascent_in c).In-Block in
    subst (λ (span : Span). IsWithin (9 * 2 ^ 30) span.0) (sym (covered (goal.at.bounded-requires-clause-ascent_in c).After-covering-span))
    (covering_in c.in-Block.ascent c.in-Block.descent c.args.axis_height c.args.properties.now.symmetric pull.0 pull.1 c.requires.axis_in).0

pub bounded-requires-clause-descent_in : goal.bounded-requires-clause-descent_in
bounded-requires-clause-descent_in c =
    let pull = asked (goal.at.bounded-requires-clause-descent_in c).In-Block in
    subst (λ (span : Span). IsWithin (9 * 2 ^ 30) span.1) (sym (covered (goal.at.bounded-requires-clause-descent_in c).After-covering-span))
    (covering_in c.in-Block.ascent c.in-Block.descent c.args.axis_height c.args.properties.now.symmetric pull.0 pull.1 c.requires.axis_in).1

pub returns-in-Block-clause-value : goal.returns-in-Block-clause-value
unfolding target_of
returns-in-Block-clause-value c =
    let span = covered (goal.at.returns-in-Block-clause-value c).After-covering-span in
    let fits : FitsSigned w64 c.args.least = search rules in
    let least = to_z-of_z w64 c.args.least fits in
    c.bounded.ensures ∙ (λ i. bounded (span i) (least i) c.args.most (back64 c.requires.axis_in (lit< tt) i))
    ∙ sym (ap (λ pull. target_of pull c.args.properties.now.symmetric c.args.least c.args.most c.args.axis_height) c.in-Block.is)

pub returns-in-Block-clause-within : goal.returns-in-Block-clause-within
returns-in-Block-clause-within c =
    subst IsInReach (sym (returns-in-Block-clause-value c))
    (target_in c.args.pull c.args.properties.now.symmetric c.args.least c.args.most c.args.axis_height c.requires.pull c.requires.sizes c.requires.axis_in)

pub returns-in-Inline-clause-value : goal.returns-in-Inline-clause-value
unfolding target_of
returns-in-Inline-clause-value c = grind (arith, to_z-of_z)

pub returns-in-Inline-clause-within : goal.returns-in-Inline-clause-within
returns-in-Inline-clause-within c =
    subst IsInReach (sym (returns-in-Inline-clause-value c))
    (target_in c.args.pull c.args.properties.now.symmetric c.args.least c.args.most c.args.axis_height c.requires.pull c.requires.sizes c.requires.axis_in)
