use Rattle.std.proofs.Common.{◌∙◌, sym, ap, arith, List, [], ◌∷◌, map}
use Rattle.std.proofs.lemmas.List.{map-append}
use Rattle.std.specs.Borrow.{Bor}
use Rattle.fixed_units.proofs.Sums.{list_to-zero}
use Rattle.layout_model.specs.Answers.{last_answer}
use Rattle.layout_model.specs.declared.outcome.Answer.{Answer}
use Rattle.outcomes.proofs.Kids.{now_of}
use Rattle.outcomes.proofs.Lasts.{last_answer-none}
use Rattle.outcomes.proofs.Lists.{pushed_next}
use Rattle.outcomes.proofs.answers.unasked.Goals as goal

pub loop-init : goal.loop-init
loop-init c =
    let made = c.in_ok-kids.ensures {u = tt} in
    record {
      kids = ap (λ (kids : List (Bor Answer)). map now_of kids) made.items ∙ sym (list_to-zero (last_answer [] []));
      len = made.len;
      room = made.exact;
    }

pub push_reserved-requires : goal.push_reserved-requires
push_reserved-requires c = omega (arith, c.loop-test.true, c.loop.invariant.len, c.loop.invariant.room)

pub loop-preserved : goal.loop-preserved
loop-preserved c =
    let pushed = c.push_reserved.ensures in
    let so_far = c.loop.invariant in
    record {
      kids =
          pushed_next c.loop.counter (last_answer [] []) (map now_of c.loop.kids.items) _ c.args.nothing.now
          (ap (λ (kids : List (Bor Answer)). map now_of kids) pushed.items ∙ map-append now_of c.loop.kids.items (c.args.nothing ∷ []))
          so_far.kids (c.requires ∙ sym (last_answer-none c.loop.counter));
      len = omega (arith, pushed.len, so_far.len);
      room = pushed.capacity ∙ so_far.room;
    }
