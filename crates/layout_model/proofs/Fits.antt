-- Answers of layouts that can be stored can be stored, and each is made at a font size in range.
use Rattle.std.proofs.Common.{◌≡◌, ◌∙◌, refl, sym, ap, ◌+◌, ◌≤◌, arith, true, ◌&&◌, List, [], ◌∷◌, length, map, All, get_or, Option, Some, None, slice_get, inl}
use Rattle.std.proofs.lemmas.Bool.{and_parts}
use Rattle.std.proofs.lemmas.List.{length-map}
use Rattle.std.proofs.lemmas.List.Elements.{All-cons, All-head, All-map, All-nil, All-tail}
use Rattle.std.proofs.lemmas.List.Folds.{list_all-append}
use Rattle.std.proofs.lemmas.List.Sums.{sum_by-cons}
use Rattle.std.proofs.lemmas.Option.{none-some, slice_get-get_or}
use Rattle.std.specs.List.{flat_map, list_all}
use Rattle.std.specs.Option.{option_map_or}
use Rattle.fixed_units.specs.Boxes.{is_stored}
use Rattle.font_metrics.specs.Metrics.{MetricsValue}
use Rattle.math_tree.specs.Trees.{element_count}
use Rattle.math_tree.specs.declared.node.Node.{Node}
use Rattle.embellished.specs.Seen.{flow_nodes, seen_of}
use Rattle.style_scope.specs.Sizes.{size_of}
use Rattle.layout_model.specs.Answers.{no_answer}
use Rattle.span_tables.specs.Bounds.{IsSpan}
use Rattle.layout_model.specs.Fits.{AreAnswers, AreSpans, HasFont, cell_count}
use Rattle.layout_model.specs.Laws.{answer_of, visits_below}
use Rattle.layout_model.specs.Layout.{in_range, lay, questions, visit_fits, visits}
use Rattle.layout_model.specs.Questions.{IsBelow}
use Rattle.layout_model.specs.Range.{answer_fits, is_font_size, mark_fits, offset_fits, outcome_fits}
use Rattle.layout_model.specs.declared.context.Context.{Context}
use Rattle.layout_model.specs.declared.context.Question.{Question}
use Rattle.layout_model.specs.declared.outcome.Answer.{Answer}
use Rattle.layout_model.specs.declared.outcome.Outcome.{Outcome}
use Rattle.layout_model.proofs.Cells.{lay_cells}
use Rattle.layout_model.proofs.Trees.{visits_are}
use Rattle.layout_model.proofs.Children.{as_many_nodes}
use Rattle.layout_model.proofs.Spans.{lay_spans}
use Rattle.layout_model.proofs.Together.{AreApart, asked_together, asked_weight, weighed, weighed_first, with_kids}
use Rattle.layout_model.proofs.Waves.{all_fit}

module _ (m : MetricsValue) where
  -- ---- an element whose layouts fit

  -- its own, and all that are made for its questions
  pub range_is : (node : Node) (context : Context)
      → in_range m node context
      ≡ ((is_font_size (size_of m context.style) && outcome_fits (lay m node context)) && all_fit m node (questions m (seen_of node) context (answer_of m node)))
  unfolding in_range
  range_is node context = ap (list_all (visit_fits m)) (visits_are m node context)

  own_fits : (node : Node) (context : Context) → in_range m node context ≡ true → outcome_fits (lay m node context) ≡ true
  own_fits node context e =
      (and_parts (is_font_size (size_of m context.style)) (outcome_fits (lay m node context))
      (and_parts (is_font_size (size_of m context.style) && outcome_fits (lay m node context)) (all_fit m node (questions m (seen_of node) context (answer_of m node)))
      (sym (range_is node context) ∙ e)).0).1

  own_size : (node : Node) (context : Context) → in_range m node context ≡ true → is_font_size (size_of m context.style) ≡ true
  own_size node context e =
      (and_parts (is_font_size (size_of m context.style)) (outcome_fits (lay m node context))
      (and_parts (is_font_size (size_of m context.style) && outcome_fits (lay m node context)) (all_fit m node (questions m (seen_of node) context (answer_of m node)))
      (sym (range_is node context) ∙ e)).0).0

  answer_in : (outcome : Outcome) → outcome_fits outcome ≡ true → answer_fits outcome.answer ≡ true
  unfolding outcome_fits
  answer_in outcome e =
      (and_parts (answer_fits outcome.answer) (list_all offset_fits outcome.offsets)
      (and_parts (answer_fits outcome.answer && list_all offset_fits outcome.offsets) (list_all mark_fits outcome.marks) e).0).0

  -- ---- the answers of a wave
  module _ (node : Node) (few : element_count node ≤ 65_536) where
    abbrev PassBelow : Question → Type 0
    PassBelow question = list_all (visit_fits m) (visits_below m node question) ≡ true

    each_fits : (asks : List Question) → all_fit m node asks ≡ true → All PassBelow asks
    each_fits [] e = All-nil PassBelow
    each_fits (question ∷ asks) e =
        let parts = and_parts (list_all (visit_fits m) (visits_below m node question)) (all_fit m node asks)
        (sym (list_all-append (visit_fits m) (visits_below m node question) (flat_map (visits_below m node) asks)) ∙ e) in
        All-cons PassBelow question asks parts.0 (each_fits asks parts.1)

    -- a question names a child, or no one answers
    answer_passes : (question : Question) → PassBelow question → answer_fits (answer_of m node question) ≡ true
    unfolding answer_of visits_below answer_fits is_stored in_range
    answer_passes question = by (slice_get (flow_nodes node) question.kid)
      where
        by : (found : Option Node)
            → list_all (visit_fits m) (option_map_or (λ (kid : Node). visits m kid question.context) found []) ≡ true
            → answer_fits (option_map_or (λ (kid : Node). (lay m kid question.context).answer) found no_answer) ≡ true
        by None e = refl
        by (Some kid) e = answer_in (lay m kid question.context) (own_fits kid question.context e)

    -- a row has no more cells than children in flow
    row_weighs : (question : Question) → IsBelow (length (seen_of node).kids) question
        → length (answer_of m node question).cells + 1 ≤ weighed with_kids 0 (flow_nodes node) question.kid
    unfolding answer_of
    row_weighs question below = by (slice_get (flow_nodes node) question.kid) refl
      where
        by : (found : Option Node) → slice_get (flow_nodes node) question.kid ≡ found
            → length (option_map_or (λ (kid : Node). (lay m kid question.context).answer) found no_answer).cells + 1
            ≤ weighed with_kids 0 (flow_nodes node) question.kid
        by None is =
            let within = slice_get-get_or (flow_nodes node) question.kid node (omega (arith, below, as_many_nodes node)) in
            absurd (none-some (get_or (flow_nodes node) question.kid node) (sym is ∙ within))
        by (Some kid) is =
            omega (arith, lay_cells m kid question.context, weighed_first with_kids (flow_nodes node) question.kid kid is)

    rows_weigh : (asks : List Question) → All (IsBelow (length (seen_of node).kids)) asks
        → cell_count (map (answer_of m node) asks) + length asks ≤ asked_weight with_kids 0 (flow_nodes node) asks
    rows_weigh [] below = omega arith
    rows_weigh (question ∷ asks) below =
        let cells : cell_count (map (answer_of m node) (question ∷ asks)) ≡ length (answer_of m node question).cells + cell_count (map (answer_of m node) asks) =
        sum_by-cons (λ (answer : Answer). length answer.cells) (answer_of m node question) (map (answer_of m node) asks) in
        let weight : asked_weight with_kids 0 (flow_nodes node) (question ∷ asks)
        ≡ weighed with_kids 0 (flow_nodes node) question.kid + asked_weight with_kids 0 (flow_nodes node) asks =
        sum_by-cons (λ (q : Question). weighed with_kids 0 (flow_nodes node) q.kid) question asks in
        omega (
          arith,
          cells,
          weight,
          row_weighs question (All-head (IsBelow (length (seen_of node).kids)) question asks below),
          rows_weigh asks (All-tail (IsBelow (length (seen_of node).kids)) question asks below),
        )

    spans_are : (question : Question) → AreSpans (answer_of m node question)
    unfolding answer_of
    spans_are question = by (slice_get (flow_nodes node) question.kid)
      where
        by : (found : Option Node) → AreSpans (option_map_or (λ (kid : Node). (lay m kid question.context).answer) found no_answer)
        by None = record { each = inl refl; limits = All-nil IsSpan }
        by (Some kid) = lay_spans m kid question.context

    -- where no child is asked twice, they and their cells are no more than there are elements
    pub answers_are : (asks : List Question) → AreApart (length (seen_of node).kids) asks → all_fit m node asks ≡ true
        → AreAnswers (map (answer_of m node) asks)
    answers_are asks apart e =
        let all = rows_weigh asks apart.below in
        let most = asked_together node asks apart.once in
        record {
          fit = All-map (λ answer. answer_fits answer ≡ true) (answer_of m node) asks (λ k d l. answer_passes _ (each_fits asks e k d l));
          count = omega (arith, all, most, few, length-map asks (answer_of m node));
          few = omega (arith, all, most, few);
          spans = All-map AreSpans (answer_of m node) asks (λ k d l. spans_are _);
        }

    -- what goes to a child is asked at a font size in range
    font_passes : (question : Question) → IsBelow (length (seen_of node).kids) question → PassBelow question → HasFont m question
    unfolding visits_below in_range
    font_passes question below = by (slice_get (flow_nodes node) question.kid) refl
      where
        by : (found : Option Node) → slice_get (flow_nodes node) question.kid ≡ found
            → list_all (visit_fits m) (option_map_or (λ (kid : Node). visits m kid question.context) found []) ≡ true
            → HasFont m question
        by None is e =
            let within = slice_get-get_or (flow_nodes node) question.kid node (omega (arith, below, as_many_nodes node)) in
            absurd (none-some (get_or (flow_nodes node) question.kid node) (sym is ∙ within))
        by (Some kid) is e = own_size kid question.context e

    pub fonts_are : (asks : List Question) → All (IsBelow (length (seen_of node).kids)) asks → all_fit m node asks ≡ true → All (HasFont m) asks
    fonts_are asks below e = λ k d l. font_passes _ (below k d l) (each_fits asks e k d l)
