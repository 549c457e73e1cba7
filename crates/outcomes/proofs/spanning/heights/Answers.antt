use Rattle.std.proofs.Common.{◌≡◌, ◌∙◌, sym, ap, subst, arith, List, [], ◌∷◌, ◌++◌, get_or, map, take, All, lit<, to_z, of_z, w64}
use Rattle.std.proofs.lemmas.List.{map-append, take_more}
use Rattle.std.proofs.lemmas.List.Elements.{All-append, All-cons, All-nil}
use Rattle.fixed_units.specs.Boxes.{IsStored}
use Rattle.fixed_units.specs.declared.boxes.MathBox.{MathBox}
use Rattle.font_metrics.proofs.Scaling.{back64}
use Rattle.span_tables.specs.Heights.{IsHeightStored}
use Rattle.span_tables.specs.declared.cells.RowHeight.{RowHeight}
use Rattle.layout_model.specs.Answers.{no_answer}
use Rattle.layout_model.specs.Tables.{height_of_row}
use Rattle.layout_model.specs.declared.outcome.Answer.{Answer}
use Rattle.outcomes.proofs.spanning.heights.Goals as goal

-- the height of a box comes back from its bits
height_back : (frame : MathBox) → IsStored frame
    → ◌≡◌ {A = RowHeight} (record { ascent = to_z w64 (of_z w64 frame.ascent); descent = to_z w64 (of_z w64 frame.descent) }) (height_of_row frame)
height_back frame stored = λ i. record { ascent = back64 stored.ascent (lit< tt) i; descent = back64 stored.descent (lit< tt) i }

abbrev height_of : Answer → RowHeight
height_of answer = height_of_row answer.frame

pub loop-index-preserved : goal.loop-index-preserved
loop-index-preserved g c =
    let i = c.loop-index.index in
    let kids = c.args.e.now.kids in
    let height = height_of_row c.frame-frame.result in
    let before = c.loop-index.heights in
    let pushed : c.push.new.self ≡ before ++ height ∷ [] =
    (c.in_ok-push.ensures {u = tt}).ok ∙ ap (λ (h : RowHeight). before ++ h ∷ []) (height_back c.frame-frame.result c.frame-frame.ensures.stored) in
    let stored : IsHeightStored height = record { ascent = c.frame-frame.ensures.stored.ascent; descent = c.frame-frame.ensures.stored.descent } in
    record {
      value = pushed
          ∙ ap (λ (hs : List RowHeight). hs ++ height ∷ []) c.loop-index.invariant.value
          ∙ ap (λ (f : MathBox). map height_of (take i kids) ++ height_of_row f ∷ []) c.frame-frame.ensures.value
          ∙ sym (ap (λ (xs : List Answer). map height_of xs) (take_more kids i no_answer (omega (arith, c.loop-index-test.true, c.count-index-end.ensures.kids)))
          ∙ map-append height_of (take i kids) (get_or kids i no_answer ∷ []));
      stored = subst (All IsHeightStored) (sym pushed)
          (All-append IsHeightStored before (height ∷ []) c.loop-index.invariant.stored (All-cons IsHeightStored height [] stored (All-nil IsHeightStored)));
    }
