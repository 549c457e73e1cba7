use Rattle.std.proofs.Common.{rules, ◌≡◌, true, nat_le, length, arith, Some, ap}
use Rattle.std.proofs.lemmas.Bool.Decides.{nat_tests}
use Rattle.std.proofs.lemmas.List.Sums.{list_all-from_AllPass}
use Rattle.std.specs.Char.{is_ascii_digit}
use Rattle.std.specs.List.{AllPass}
use Rattle.style_scope.specs.Words.{number_of}
use Rattle.style_scope.proofs.attributes.number_of.Goals as goal

pub returns-clause-value : goal.returns-clause-value
unfolding number_of
returns-clause-value c =
    let text = c.args.text.now in
    let digits : AllPass is_ascii_digit text = search rules in
    let all = list_all-from_AllPass is_ascii_digit text digits in
    let one : nat_le 1 (length text) ≡ true = grind (arith, nat_tests) in
    let three : nat_le (length text) 3 ≡ true = grind (arith, nat_tests) in
    rw (one, three, all) (ap Some c.digits_value.ensures.value)
