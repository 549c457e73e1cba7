use Rattle.std.proofs.Common.{◌<◌, ◌∙◌, sym, ap, length, arith}
use Rattle.embellished.specs.Fences.{with_one}
use Rattle.embellished.specs.Seen.{seen_of}
use Rattle.embellished.proofs.FencePlaces.{one_turn}
use Rattle.embellished.proofs.fences.fences_of.Goals as goal

pub loop-index-preserved : goal.loop-index-preserved
loop-index-preserved g c =
    let i = c.loop-index.index in
    let kids = (seen_of (g.V.View.element c.args.parent.now)).kids in
    let kid = c.kid_facts.ensures in
    let within : i < length kids = omega (arith, c.loop-index-test.true, c.kids-index-end.ensures.count) in
    c.with-fences.ensures
    ∙ ap (λ f. with_one c.loop-index.fences i f.space_like) (sym kid.holds)
    ∙ one_turn kids i kid.kid c.loop-index.fences kid.at within c.loop-index.invariant
