use Rattle.std.proofs.Common.{◌≡◌, ◌∙◌, sym, ap, subst, ℕ, [], ◌∷◌, ◌++◌, map, List}
use Rattle.std.specs.List.{All}
use Rattle.std.proofs.lemmas.List.Elements.{All-append, All-cons, All-nil}
use Rattle.layout_model.specs.Answers.{questions_in}
use Rattle.layout_model.specs.Fits.{HasStyle}
use Rattle.fixed_units.proofs.Sums.{list_to-zero, list_to-add_one}
use Rattle.embellished.specs.Seen.{seen_of}
use Rattle.layout_model.specs.Contexts.{kid_context}
use Rattle.layout_model.specs.Questions.{row_asked}
use Rattle.layout_model.specs.Tables.{stretch_at}
use Rattle.layout_model.specs.declared.context.Context.{Context}
use Rattle.layout_model.specs.declared.context.Question.{Question}
use Rattle.layout_model.proofs.Replies.{questions_more}
use Rattle.child_questions.proofs.tables.asked_over.Goals as goal

abbrev asked_in : ℕ → Context → Question
asked_in kid context = record { kid = kid; context = context }

pub loop-index-init : goal.loop-index-init
loop-index-init g c =
    let rows = map (g.A.Answered.told) c.args.rows.now in
    let none = ap questions_in (c.in_ok-asks.ensures {u = tt}) in
    record {
      value = none ∙ sym (list_to-zero (row_asked c.args.metrics.now (seen_of (g.V.View.element c.args.parent.now)) c.args.context.now rows));
      styles = subst (All HasStyle) (sym none) (All-nil HasStyle);
    }

pub loop-index-preserved : goal.loop-index-preserved
loop-index-preserved g c =
    let rows = map (g.A.Answered.told) c.args.rows.now in
    let row = row_asked c.args.metrics.now (seen_of (g.V.View.element c.args.parent.now)) c.args.context.now rows in
    let before = c.loop-index.invariant.value in
    let more = list_to-add_one c.loop-index.index row in
    let stretch : c.in_ok-stretch.stretch ≡ stretch_at rows c.loop-index.index = c.in_ok-stretch.ensures {u = tt} in
    let context = c.kid_context-context.ensures.value ∙ ap (kid_context c.args.metrics.now (seen_of (g.V.View.element c.args.parent.now)) c.args.context.now c.loop-index.index) stretch in
    let made : c.to_come.result.question ≡ row c.loop-index.index = c.to_come.ensures.question ∙ ap (asked_in c.loop-index.index) context in
    let pushed = questions_more c.loop-index.asks c.push.new.self c.to_come.result (row c.loop-index.index) (c.in_ok-push.ensures {u = tt}).ok made in
    record {
      value = pushed ∙ ap (λ (l : List Question). l ++ row c.loop-index.index ∷ []) before ∙ sym more;
      styles = subst (All HasStyle) (sym pushed) (All-append HasStyle (questions_in c.loop-index.asks) _ c.loop-index.invariant.styles
          (All-cons HasStyle _ [] (subst (λ (x : Context). HasStyle (asked_in c.loop-index.index x)) context c.kid_context-context.ensures.style) (All-nil HasStyle)));
    }

pub stretch_at-requires-clause-known : goal.stretch_at-requires-clause-known
stretch_at-requires-clause-known g c = c.requires.grid
