-- What cells span lies within the limits, and it is told of all cells of a row or of none.
use Rattle.std.proofs.Common.{◌≡◌, refl, sym, ap, subst, ℕ, ◌≤◌, ◌⊎◌, min, arith, Bool, true, false, cond, inl, inr, codes, List, [], ◌++◌, length, map, All, Option, Some, None, slice_get}
use Rattle.std.proofs.lemmas.Bool.Decides.{eqb_tells}
use Rattle.std.proofs.lemmas.List.{length-map}
use Rattle.std.proofs.lemmas.List.Elements.{All-nil}
use Rattle.std.specs.List.{list_any}
use Rattle.std.specs.Option.{option_map_or}
use Rattle.fixed_units.specs.Sums.{list_to}
use Rattle.fixed_units.specs.declared.boxes.MathBox.{MathBox}
use Rattle.fixed_units.proofs.Sums.{length-list_to}
use Rattle.font_metrics.specs.Metrics.{MetricsValue}
use Rattle.math_tree.specs.Attributes.{value_of}
use Rattle.math_tree.specs.declared.kind.Kind.{Kind}
use Rattle.math_tree.specs.declared.kind.Kind.TheVariants.{Mo, Mover, Mtr, Munder, Munderover}
use Rattle.math_tree.specs.declared.node.Node.{Node}
use Rattle.embellished.specs.Seen.{Kid, Seen, seen_of}
use Rattle.embellished.specs.declared.facts.Core.{Core}
use Rattle.span_tables.specs.Bounds.{IsSpan, most_columns, most_rows}
use Rattle.span_tables.specs.Spans.{span_asked, span_of_text, written}
use Rattle.span_tables.specs.declared.cells.CellSpan.{CellSpan}
use Rattle.layout_model.specs.Answers.{last_answer}
use Rattle.layout_model.specs.Elements.{Element, frame_at, frames_of, outcome_with}
use Rattle.layout_model.specs.Equations.{multi_outcome, operator_outcome, operator_with, outcome_by, over_outcome, space_outcome, sub_outcome, sub_sup_outcome, sup_outcome, token_outcome, under_outcome, under_over_outcome, unless_moved, widths_of}
use Rattle.layout_model.specs.Fits.{AreSpans}
use Rattle.layout_model.specs.Laws.{answer_of}
use Rattle.layout_model.specs.Layout.{equation, last_answers, lay, lay_by}
use Rattle.layout_model.specs.Questions.{first, has_moved_limits, second}
use Rattle.layout_model.specs.Tables.{cell_span, is_spanning, single, span_over, spans_of}
use Rattle.layout_model.specs.declared.context.Context.{Context}
use Rattle.layout_model.specs.declared.outcome.Answer.{Answer}
use Rattle.layout_model.specs.declared.outcome.Outcome.{Outcome}
use Rattle.layout_model.proofs.Ranges.{all_places}
use Rattle.layout_model.proofs.Trees.{lay_is}

-- ---- one cell

asked_within : (value most : ℕ) → 1 ≤ most → (1 ≤ span_asked value most) × (span_asked value most ≤ most)
asked_within value most some =
    elim (eqb_tells value 0) [
      | inl same ↦
          let is = ap (λ (b : Bool). cond b 1 (min value most)) same.0 in
          (omega (arith, is), omega (arith, is, some))
      | inr apart ↦
          let is = ap (λ (b : Bool). cond b 1 (min value most)) apart.0 in
          let above : 1 ≤ value = omega (arith, apart.1) in
          (omega (arith, is, above, some), omega (arith, is))
    ]

text_within : (text : Option (List ℕ)) (most : ℕ) → 1 ≤ most → (1 ≤ span_of_text text most) × (span_of_text text most ≤ most)
text_within None most some = (omega arith, some)
text_within (Some text) most some = asked_within (written text) most some

cell_within : (e : Element) (index : ℕ) → IsSpan (cell_span e index)
unfolding cell_span
cell_within e index = by (slice_get e.seen.kids index)
  where
    by : (found : Option Kid) → IsSpan (option_map_or (λ (kid : Kid). span_over kid.head.attributes (frame_at e index)) found single)
    by None = record { columns_low = omega arith; columns_high = omega arith; rows_low = omega arith; rows_high = omega arith }
    by (Some kid) =
        let columns = text_within (value_of (codes "columnspan") kid.head.attributes) most_columns (omega arith) in
        let rows = text_within (value_of (codes "rowspan") kid.head.attributes) most_rows (omega arith) in
        record { columns_low = columns.0; columns_high = columns.1; rows_low = rows.0; rows_high = rows.1 }

-- ---- all cells of a row

abbrev all_spans : Element → List CellSpan
all_spans e = list_to (length e.seen.kids) (cell_span e)

row_spans : (e : Element) → length e.kids ≡ length e.seen.kids
    → ((spans_of e ≡ []) ⊎ (length (spans_of e) ≡ length (widths_of e))) × All IsSpan (spans_of e)
unfolding spans_of
row_spans e each = by (list_any is_spanning (all_spans e))
  where
    by : (b : Bool) → ((cond b (all_spans e) [] ≡ []) ⊎ (length (cond b (all_spans e) []) ≡ length (widths_of e))) × All IsSpan (cond b (all_spans e) [])
    by true = (
      inr (omega (
        arith,
        each,
        length-list_to (length e.seen.kids) (cell_span e),
        length-map (frames_of e) (λ (frame : MathBox). frame.width),
        length-map e.kids (λ (answer : Answer). answer.frame),
      )),
      all_places IsSpan (length e.seen.kids) (cell_span e) (cell_within e),
    )
    by false = (inl refl, All-nil IsSpan)

-- ---- elements of each kind

abbrev TellsSpans : Outcome → Type 0
TellsSpans outcome = AreSpans outcome.answer

none_moved : (e : Element) (limits scripts : Outcome) → TellsSpans limits → TellsSpans scripts → TellsSpans (unless_moved e limits scripts)
none_moved e limits scripts l s = by (has_moved_limits e.metrics e.seen e.context)
  where
    by : (b : Bool) → TellsSpans (cond b scripts limits)
    by true = s
    by false = l

none_in_operator : (e : Element) (core : Option Core) → TellsSpans (option_map_or (operator_with e) core (token_outcome e))
unfolding token_outcome
none_in_operator e None = record { each = inl refl; limits = All-nil IsSpan }
none_in_operator e (Some core) = record { each = inl refl; limits = All-nil IsSpan }

spans_told : (kind : Kind) (e : Element) → length e.kids ≡ length e.seen.kids → TellsSpans (outcome_by kind e)
unfolding outcome_by outcome_with token_outcome operator_outcome space_outcome multi_outcome
spans_told Mo e each = none_in_operator e e.seen.facts.core
spans_told Mtr e each = let spans = row_spans e each in record { each = spans.0; limits = spans.1 }
spans_told Munder e each =
    none_moved e (under_outcome e) (sub_outcome e) (record { each = inl refl; limits = All-nil IsSpan }) (record { each = inl refl; limits = All-nil IsSpan })
spans_told Mover e each =
    none_moved e (over_outcome e) (sup_outcome e) (record { each = inl refl; limits = All-nil IsSpan }) (record { each = inl refl; limits = All-nil IsSpan })
spans_told Munderover e each =
    none_moved e (under_over_outcome e) (sub_sup_outcome e) (record { each = inl refl; limits = All-nil IsSpan }) (record { each = inl refl; limits = All-nil IsSpan })
spans_told other e each = record { each = inl refl; limits = All-nil IsSpan }

pub equation_spans : (m : MetricsValue) (seen : Seen) (context : Context) (one two : List Answer) → AreSpans (equation m seen context one two).answer
unfolding equation last_answers
equation_spans m seen context one two =
    spans_told seen.facts.laid (record { metrics = m; seen = seen; context = context; kids = last_answers m seen context one two })
    (length-list_to (length seen.kids) (last_answer (first m seen context ++ second m seen context one) (one ++ two)))

pub lay_spans : (m : MetricsValue) (node : Node) (context : Context) → AreSpans (lay m node context).answer
unfolding lay_by
lay_spans m node context =
    let one = map (answer_of m node) (first m (seen_of node) context) in
    subst (λ (outcome : Outcome). AreSpans outcome.answer) (sym (lay_is m node context))
    (equation_spans m (seen_of node) context one (map (answer_of m node) (second m (seen_of node) context one)))
