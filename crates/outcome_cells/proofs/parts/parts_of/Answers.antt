use Rattle.std.proofs.Common.{pos, ◌∷◌, ◌++◌, length, refl, ◌∙◌, w64, SFits, rules}
use Rattle.std.proofs.lemmas.Int.{to_z-of_z}
use Rattle.std.specs.List.{flat_map}
use Rattle.layout_model.specs.declared.outcome.Outcome.{Outcome}
use Rattle.outcome_cells.specs.Cells.{drawn_numbers, in_cells, list_numbers, listed_numbers, mark_numbers, offset_numbers, own_number, span_numbers}
use Rattle.outcome_cells.proofs.Sized.{list_begins, list_read}
use Rattle.outcome_cells.proofs.parts.parts_of.Goals as goal

pub first_list-requires : goal.first_list-requires
first_list-requires c =
    let o : Outcome = c.requires.outcome in
    let frame = c.first_frame.ensures o.answer.frame (in_cells (o.answer.before ∷ o.answer.after ∷ listed_numbers o)) c.requires.cells_are in
    let before = c.first_number-before.ensures o.answer.before (in_cells (o.answer.after ∷ listed_numbers o)) frame.1 in
    let after = c.first_number-after.ensures o.answer.after (in_cells (listed_numbers o)) before.1 in
    list_begins own_number 1 (λ x. refl) o.answer.cells (list_numbers span_numbers o.answer.spans ++ drawn_numbers o) _ after.1

pub first_list-requires-2 : goal.first_list-requires-2
first_list-requires-2 c =
    let o : Outcome = c.requires.outcome in
    let frame = c.first_frame.ensures o.answer.frame (in_cells (o.answer.before ∷ o.answer.after ∷ listed_numbers o)) c.requires.cells_are in
    let before = c.first_number-before.ensures o.answer.before (in_cells (o.answer.after ∷ listed_numbers o)) frame.1 in
    let after = c.first_number-after.ensures o.answer.after (in_cells (listed_numbers o)) before.1 in
    let widths = list_read own_number 1 (λ x. refl) o.answer.cells (list_numbers span_numbers o.answer.spans ++ drawn_numbers o) _ _ _ c.first_list.ensures after.1 in
    list_begins span_numbers 4 (λ x. refl) o.answer.spans (drawn_numbers o) _ widths.1

pub first_list-requires-3 : goal.first_list-requires-3
first_list-requires-3 c =
    let o : Outcome = c.requires.outcome in
    let frame = c.first_frame.ensures o.answer.frame (in_cells (o.answer.before ∷ o.answer.after ∷ listed_numbers o)) c.requires.cells_are in
    let before = c.first_number-before.ensures o.answer.before (in_cells (o.answer.after ∷ listed_numbers o)) frame.1 in
    let after = c.first_number-after.ensures o.answer.after (in_cells (listed_numbers o)) before.1 in
    let widths = list_read own_number 1 (λ x. refl) o.answer.cells (list_numbers span_numbers o.answer.spans ++ drawn_numbers o) _ _ _ c.first_list.ensures after.1 in
    let spans = list_read span_numbers 4 (λ x. refl) o.answer.spans (drawn_numbers o) _ _ _ c.first_list-2.ensures widths.1 in
    list_begins offset_numbers 3 (λ x. refl) o.offsets (list_numbers mark_numbers o.marks) _ spans.1

pub first_number-requires : goal.first_number-requires
first_number-requires c =
    let o : Outcome = c.requires.outcome in
    let frame = c.first_frame.ensures o.answer.frame (in_cells (o.answer.before ∷ o.answer.after ∷ listed_numbers o)) c.requires.cells_are in
    let before = c.first_number-before.ensures o.answer.before (in_cells (o.answer.after ∷ listed_numbers o)) frame.1 in
    let after = c.first_number-after.ensures o.answer.after (in_cells (listed_numbers o)) before.1 in
    let widths = list_read own_number 1 (λ x. refl) o.answer.cells (list_numbers span_numbers o.answer.spans ++ drawn_numbers o) _ _ _ c.first_list.ensures after.1 in
    let spans = list_read span_numbers 4 (λ x. refl) o.answer.spans (drawn_numbers o) _ _ _ c.first_list-2.ensures widths.1 in
    let offsets = list_read offset_numbers 3 (λ x. refl) o.offsets (list_numbers mark_numbers o.marks) _ _ _ c.first_list-3.ensures spans.1 in
    record { value = pos (length o.marks); rest = in_cells (flat_map mark_numbers o.marks); fits = tt; cells_are = offsets.1 }

pub returns : goal.returns
returns c o is =
    let frame = c.first_frame.ensures o.answer.frame (in_cells (o.answer.before ∷ o.answer.after ∷ listed_numbers o)) is in
    let before = c.first_number-before.ensures o.answer.before (in_cells (o.answer.after ∷ listed_numbers o)) frame.1 in
    let after = c.first_number-after.ensures o.answer.after (in_cells (listed_numbers o)) before.1 in
    let widths = list_read own_number 1 (λ x. refl) o.answer.cells (list_numbers span_numbers o.answer.spans ++ drawn_numbers o) _ _ _ c.first_list.ensures after.1 in
    let spans = list_read span_numbers 4 (λ x. refl) o.answer.spans (drawn_numbers o) _ _ _ c.first_list-2.ensures widths.1 in
    let offsets = list_read offset_numbers 3 (λ x. refl) o.offsets (list_numbers mark_numbers o.marks) _ _ _ c.first_list-3.ensures spans.1 in
    let marks = c.first_number.ensures (pos (length o.marks)) (in_cells (flat_map mark_numbers o.marks)) offsets.1 in
    let b : SFits w64 c.first_number-before.result.0 = search rules in
    let a : SFits w64 c.first_number-after.result.0 = search rules in
    record {
      frame = frame.0;
      before = to_z-of_z w64 c.first_number-before.result.0 b ∙ before.0;
      after = to_z-of_z w64 c.first_number-after.result.0 a ∙ after.0;
      widths = widths.0;
      spans = spans.0;
      offsets = offsets.0;
      marks = marks.1;
    }
