use Rattle.std.proofs.Common.{◌≡◌, length, map, take}
use Rattle.std.specs.List.{All}
use Rattle.std.specs.Vec.{vec_len, vec_capacity}
use Rattle.layout_model.specs.Answers.{questions_in}
use Rattle.layout_model.specs.Fits.{HasStyle}
use Rattle.embellished.specs.Seen.{seen_of}
use Rattle.layout_model.specs.Questions.{asked}
use Rattle.child_questions.proofs.waves.asked_all.Given as goal

-- the asks so far, and there is room for the others
abbrev pub invariant-loop-ask : goal.invariant-loop-ask
invariant-loop-ask g l = record {
  value : questions_in l.all.items ≡ map (asked l.metrics (seen_of (g.V.View.element l.view)) l.context) (take l.ask-index l.ask-items);
  styles : All HasStyle (questions_in l.all.items);
  len : vec_len l.all ≡ l.ask-index;
  room : vec_capacity l.all ≡ length l.ask-items;
}
