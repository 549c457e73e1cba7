use Rattle.std.proofs.Common.{◌∙◌, ◌∷◌, ◌+◌, ◌<◌, ◌≢◌, ℕ, List, [], length, length-drop, refl, sym, rules, tests, arith}
use Rattle.std.proofs.lemmas.Iterator.{YieldsList-from_slice}
use Rattle.std.proofs.lemmas.Iterator.Search.{position_from_yields_List}
use Rattle.std.specs.Str.Lines.{lines}
use Rattle.metrics_file.proofs.Cuts.{rest_all, is_feed, last_line, next_line}
use Rattle.metrics_file.proofs.pieces.first_line.Goals as goal

pub returns-in-None-clause-line : goal.returns-in-None-clause-line
returns-in-None-clause-line c =
    last_line c.args.bytes.now
    (sym (position_from_yields_List is_feed _ _ c.position.result c.position.ensures.ran (YieldsList-from_slice c.args.bytes.now c.iter.ensures.rest) (λ x b q k. search (rules, tests)))
    ∙ c.in-None.is)

pub returns-in-Some-clause-line : goal.returns-in-Some-clause-line
returns-in-Some-clause-line c =
    next_line c.args.bytes.now c.in-Some.end
    (sym (position_from_yields_List is_feed _ _ c.position.result c.position.ensures.ran (YieldsList-from_slice c.args.bytes.now c.iter.ensures.rest) (λ x b q k. search (rules, tests)))
    ∙ c.in-Some.is)
    ∙ (λ i. sym c.without_return.ensures i ∷ lines (sym (rest_all c.args.bytes.now (c.in-Some.end + 1)) i))

-- what isn't empty has bytes
filled : (bytes : List ℕ) → bytes ≢ [] → 0 < length bytes
filled [] some = absurd (some refl)
filled (b ∷ bs) some = omega arith

pub returns-in-None-clause-rest : goal.returns-in-None-clause-rest
returns-in-None-clause-rest c = filled c.args.bytes.now

pub returns-in-None-clause-bound : goal.returns-in-None-clause-bound
returns-in-None-clause-bound c = omega arith

pub returns-in-Some-clause-rest : goal.returns-in-Some-clause-rest
returns-in-Some-clause-rest c =
    λ some. let bytes = c.args.bytes.now in
    let least = filled bytes some in
    rw (rest_all bytes (c.in-Some.end + 1)) (omega (arith, length-drop (c.in-Some.end + 1) bytes))

pub returns-in-Some-clause-bound : goal.returns-in-Some-clause-bound
returns-in-Some-clause-bound c =
    let bytes = c.args.bytes.now in
    rw (rest_all bytes (c.in-Some.end + 1)) (omega (arith, length-drop (c.in-Some.end + 1) bytes))
