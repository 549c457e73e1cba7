use Rattle.std.proofs.Common.{◌∙◌, sym, ap, subst, arith, List, [], ◌∷◌, ◌++◌, get_or, map, take, All}
use Rattle.std.proofs.lemmas.List.{map-append, take_more}
use Rattle.std.proofs.lemmas.List.Elements.{All-append, All-cons, All-nil}
use Rattle.fixed_units.specs.Boxes.{IsStored}
use Rattle.fixed_units.specs.declared.boxes.MathBox.{MathBox}
use Rattle.layout_model.specs.Answers.{no_answer}
use Rattle.layout_model.specs.declared.outcome.Answer.{Answer}
use Rattle.outcomes.proofs.table.frames.Goals as goal

abbrev frame_of : Answer → MathBox
frame_of answer = answer.frame

pub loop-index-preserved : goal.loop-index-preserved
loop-index-preserved g c =
    let i = c.loop-index.index in
    let kids = c.args.e.now.kids in
    let frame = c.frame.result in
    let before = c.loop-index.frames in
    let pushed = (c.in_ok-push.ensures {u = tt}).ok in
    record {
      value = pushed
          ∙ ap (λ (fs : List MathBox). fs ++ frame ∷ []) c.loop-index.invariant.value
          ∙ ap (λ (f : MathBox). map frame_of (take i kids) ++ f ∷ []) c.frame.ensures.value
          ∙ sym (ap (λ (xs : List Answer). map frame_of xs) (take_more kids i no_answer (omega (arith, c.loop-index-test.true, c.count-index-end.ensures.kids)))
          ∙ map-append frame_of (take i kids) (get_or kids i no_answer ∷ []));
      stored = subst (All IsStored) (sym pushed)
          (All-append IsStored before (frame ∷ []) c.loop-index.invariant.stored (All-cons IsStored frame [] c.frame.ensures.stored (All-nil IsStored)));
    }
