use Rattle.std.proofs.Common.{◌≡◌, [], map}
use Rattle.std.specs.Vec.{vec_len, vec_capacity}
use Rattle.fixed_units.specs.Sums.{list_to}
use Rattle.layout_model.specs.Answers.{last_answer}
use Rattle.outcomes.proofs.Kids.{now_of}
use Rattle.outcomes.proofs.answers.unasked.Given as goal

-- as many as were added, and there is room for the others
abbrev pub invariant-loop : goal.invariant-loop
invariant-loop l = record {
  kids : map now_of l.kids.items ≡ list_to l.counter (last_answer [] []);
  len : vec_len l.kids ≡ l.counter;
  room : vec_capacity l.kids ≡ l.count;
}
