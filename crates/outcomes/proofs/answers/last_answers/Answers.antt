use Rattle.std.proofs.Common.{◌≡◌, ◌∙◌, refl, sym, ap, subst, ℕ, [], ◌++◌, length, List, All}
use Rattle.std.proofs.lemmas.List.{length-map}
use Rattle.fixed_units.specs.Sums.{list_to}
use Rattle.fixed_units.proofs.Sums.{length-list_to}
use Rattle.layout_model.specs.Answers.{answers_in, last_answer, questions_in}
use Rattle.layout_model.specs.Questions.{IsBelow}
use Rattle.layout_model.specs.declared.reply.Reply.{Reply}
use Rattle.layout_model.proofs.Replies.{as_many}
use Rattle.outcomes.proofs.Kids.{now_of}
use Rattle.outcomes.proofs.answers.last_answers.Goals as goal

pub placed-some-requires : goal.placed-some-requires
placed-some-requires c =
    let none = c.in_ok-none.none.items in
    let count : length none ≡ c.args.count = sym (length-map none now_of) ∙ ap length (c.in_ok-none.ensures {u = tt}) ∙ length-list_to c.args.count (last_answer [] []) in
    subst (λ (n : ℕ). All (IsBelow n) (questions_in c.as_slice.result.now)) (sym count)
    (subst (λ (l : List Reply). All (IsBelow c.args.count) (questions_in l)) (sym c.as_slice.ensures) c.requires.one_within)

pub placed-requires : goal.placed-requires
placed-requires c =
    let none = c.in_ok-none.none.items in
    let count : length c.placed-some.result.items ≡ c.args.count =
    c.placed-some.ensures.count
    ∙ sym (length-map none now_of) ∙ ap length (c.in_ok-none.ensures {u = tt}) ∙ length-list_to c.args.count (last_answer [] []) in
    subst (λ (n : ℕ). All (IsBelow n) (questions_in c.as_slice-2.result.now)) (sym count)
    (subst (λ (l : List Reply). All (IsBelow c.args.count) (questions_in l)) (sym c.as_slice-2.ensures) c.requires.two_within)

pub returns : goal.returns
returns c =
    let none = c.in_ok-none.none.items in
    let first = c.as_slice.result.now in
    let second = c.as_slice-2.result.now in
    let asked = questions_in first in
    let given = answers_in first in
    let filled = c.in_ok-none.ensures {u = tt} in
    let count : length none ≡ c.args.count = sym (length-map none now_of) ∙ ap length filled ∙ length-list_to c.args.count (last_answer [] []) in
    let first_is = c.as_slice.ensures in
    let second_is = c.as_slice-2.ensures in
    let one = c.placed-some.ensures.last [] [] refl (filled ∙ ap (λ (n : ℕ). list_to n (last_answer [] [])) (sym count)) in
    let two = c.placed.ensures.last asked given (as_many first) (one ∙ ap (λ (n : ℕ). list_to n (last_answer asked given)) (sym c.placed-some.ensures.count)) in
    two
    ∙ ap (λ (n : ℕ). list_to n (last_answer (asked ++ questions_in second) (given ++ answers_in second))) (c.placed-some.ensures.count ∙ count)
    ∙ (λ i. list_to c.args.count (last_answer (questions_in (first_is i) ++ questions_in (second_is i)) (answers_in (first_is i) ++ answers_in (second_is i))))
