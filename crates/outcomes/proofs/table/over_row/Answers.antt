use Rattle.std.proofs.Common.{◌≡◌, ◌∙◌, ap, sym, inl, inr, refl, pos, Bool, true, false, List, [], ◌∷◌, ℤ}
use Rattle.fixed_units.specs.Boxes.{is_stored}
use Rattle.fixed_units.specs.declared.boxes.MathBox.{MathBox}
use Rattle.font_metrics.specs.declared.mark.Mark.{Mark}
use Rattle.layout_model.specs.Elements.{Element, along, outcome_with}
use Rattle.layout_model.specs.Equations.{cells_placed, table_row_outcome, widths_of}
use Rattle.layout_model.specs.Tables.{spanned, spans_of}
use Rattle.layout_model.specs.declared.outcome.Offset.{Offset}
use Rattle.layout_model.specs.declared.outcome.Outcome.{Outcome}
use Rattle.row_stretch.specs.declared.parts.Row.{Row}
use Rattle.span_tables.specs.declared.cells.CellSpan.{CellSpan}
use Rattle.outcomes.specs.Outcomes.{IsOutcome}
use Rattle.outcomes.proofs.Leaves.{unstored_width}
use Rattle.outcomes.proofs.table.over_row.Goals as goal

spanned_width : (spans : List CellSpan) (frame : MathBox) → (spanned spans frame).width ≡ frame.width
spanned_width [] frame = refl
spanned_width (span ∷ spans) frame = refl

-- of a row that is too wide to be stored it doesn't matter where its cells are told to stand
row_told : (e : Element) (row : Row) (frame : MathBox) (widths : List ℤ) (spans : List CellSpan) (offsets : List Offset) (marks : List Mark)
    (made : Outcome) (stored : Bool)
    → is_stored row.frame.width ≡ stored → row ≡ cells_placed e → widths ≡ widths_of e → spans ≡ spans_of e → frame ≡ spanned spans row.frame
    → (is_stored row.frame.width ≡ true → offsets ≡ along e row (pos 0) (pos 0)) → marks ≡ []
    → made ≡ outcome_with e frame widths spans offsets marks → IsOutcome (table_row_outcome e) made
unfolding outcome_with
row_told e row frame widths spans offsets marks made true fits row_is widths_are spans_are frame_is offsets_are marks_are made_is =
    inl (made_is
    ∙ (λ i. outcome_with e ((frame_is ∙ (λ j. spanned (spans_are j) (row_is j).frame)) i) (widths_are i) (spans_are i)
    ((offsets_are fits ∙ (λ j. along e (row_is j) (pos 0) (pos 0))) i) (marks_are i)))
row_told e row frame widths spans offsets marks made false far row_is widths_are spans_are frame_is offsets_are marks_are made_is = inr (
  unstored_width (table_row_outcome e)
      (ap is_stored (spanned_width (spans_of e) (cells_placed e).frame) ∙ ap (λ (r : Row). is_stored r.frame.width) (sym row_is) ∙ far),
  unstored_width made
      (ap (λ (o : Outcome). is_stored o.answer.frame.width) made_is
      ∙ ap (λ (f : MathBox). is_stored f.width) frame_is
      ∙ ap is_stored (spanned_width spans row.frame)
      ∙ far),
)

pub returns : goal.returns
returns g c =
    let frame = c.spanned-frame.ensures ∙ ap (λ (spans : List CellSpan). spanned spans c.args.row.now.frame) c.as_slice.ensures in
    row_told c.args.e.now c.args.row.now c.spanned-frame.result c.args.widths c.in_ok-spans.spans c.in_ok-offsets.offsets c.make.result c.outcome_with.result _ refl
    c.requires.row c.requires.widths (c.in_ok-spans.ensures {u = tt}) frame (c.in_ok-offsets.ensures {u = tt}) c.make.ensures c.outcome_with.ensures
