use Rattle.std.proofs.Common.{◌≡◌, ◌∙◌, sym, ap, get_or, arith, w64, to_z, of_z}
use Rattle.std.proofs.lemmas.Int.{to_z-of_z}
use Rattle.multiscripts.specs.Along.{past_of, no_pair}
use Rattle.multiscripts.proofs.Pairs.{line_at-zero, line_at-add_one, line_so_far, pair_stored}
use Rattle.multiscripts.proofs.along.line_of.Goals as goal

pub loop-pair-init : goal.loop-pair-init
loop-pair-init c = c.start-line.ensures.value ∙ sym (line_at-zero (to_z w64 (of_z w64 c.args.space)) c.args.base.now c.args.large c.args.pairs.now)

pub past-line-requires-clause-line_in : goal.past-line-requires-clause-line_in
past-line-requires-clause-line_in c =
    let space : to_z w64 (of_z w64 c.args.space) ≡ c.args.space = grind (arith, to_z-of_z) in
    line_so_far _ _ _ _ _ _ _ space c.loop-pair.invariant (omega arith) c.requires.few c.requires.space_in c.requires.base_fits c.requires.fit

pub past-line-requires-clause-fits : goal.past-line-requires-clause-fits
past-line-requires-clause-fits c = pair_stored c.args.pairs.now c.loop-pair.pair-index c.loop-pair-test.true c.requires.fit

pub loop-pair-preserved : goal.loop-pair-preserved
loop-pair-preserved c =
    let space = to_z w64 (of_z w64 c.args.space) in
    let pairs = c.args.pairs.now in
    let i = c.loop-pair.pair-index in
    c.past-line.ensures ∙ ap (λ line. past_of space line (get_or pairs i no_pair)) c.loop-pair.invariant
    ∙ sym (line_at-add_one space c.args.base.now c.args.large pairs i c.loop-pair-test.true)

pub returns-clause-within : goal.returns-clause-within
returns-clause-within c =
    let space : to_z w64 (of_z w64 c.args.space) ≡ c.args.space = grind (arith, to_z-of_z) in
    line_so_far _ _ _ _ _ _ _ space c.loop-pair.invariant (omega arith) c.requires.few c.requires.space_in c.requires.base_fits c.requires.fit
