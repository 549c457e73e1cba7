use Rattle.std.proofs.Common.{◌≡◌, ℤ, ◌<◌, [], ◌∷◌, ◌++◌, length, ap, ◌∙◌, arith, rules, w64}
use Rattle.std.proofs.lemmas.Int.{to_z-of_z}
use Rattle.std.specs.Prelude.{⊤}
use Rattle.std.proofs.lemmas.Bool.Decides.{nat_tests}
use Rattle.outcome_cells.specs.Cells.{own_number}
use Rattle.outcome_cells.proofs.Left.{left_begins, left_end, left_is, left_next, left_smaller}
use Rattle.outcome_cells.proofs.decode.read_numbers.Goals as goal

pub first_number-number-requires : goal.first_number-number-requires
first_number-number-requires c =
    let some : 0 < length c.loop-rest.rest.now = grind (arith, nat_tests) in
    left_begins own_number (λ _. ⊤) _ _ _ c.loop-rest.invariant some

pub loop-rest-smaller : goal.loop-rest-smaller
loop-rest-smaller c =
    let some : 0 < length c.loop-rest.rest.now = grind (arith, nat_tests) in
    left_smaller own_number (λ _. ⊤) (λ x. search rules) _ _ _ (left_begins own_number (λ _. ⊤) _ _ _ c.loop-rest.invariant some) c.first_number-number.ensures

pub loop-rest-preserved : goal.loop-rest-preserved
loop-rest-preserved c =
    let some : 0 < length c.loop-rest.rest.now = grind (arith, nat_tests) in
    let pushed = c.in_ok-push.ensures {u = tt} in
    let more = left_next own_number (λ _. ⊤) _ _ _ _ _ c.loop-rest.invariant some c.first_number-number.ensures in
    (left_is own_number (λ _. ⊤) _ _ _ _ (pushed.ok ∙ ap (λ (n : ℤ). c.loop-rest.numbers ++ n ∷ []) (to_z-of_z w64 c.first_number-number.result.0 (search rules))) more)

pub returns : goal.returns
returns c =
    let none : length c.loop-rest.rest.now ≡ 0 = grind (arith, nat_tests) in
    left_end own_number (λ _. ⊤) (λ x. search rules) _ _ _ c.loop-rest.invariant none
