use Rattle.std.proofs.Common.{◌≡◌, ◌∙◌, ap, sym, List, ℕ}
use Rattle.op_dictionary.specs.declared.extra.OperatorLine.{OperatorLine}
use Rattle.op_dictionary.specs.declared.operator.Axis.{Axis}
use Rattle.op_dictionary.specs.declared.operator.Category.{Category}
use Rattle.op_dictionary.specs.declared.operator.Form.{Form}
use Rattle.op_dictionary.specs.declared.text.OpText.{OpText}
use Rattle.font_metrics.specs.Faults.{Step, step_map, both}
use Rattle.metrics_file.specs.Lines.{SaysOperator, operator_with}
use Rattle.metrics_file.specs.Said.{item_of}
use Rattle.metrics_file.specs.Words.{operator_text_in, form_in, category_in, axis_in}
use Rattle.metrics_file.proofs.Pairs.{four}
use Rattle.font_metrics.proofs.Steps.{failed}
use Rattle.metrics_file.proofs.lines.operator_with.Goals as goal

abbrev Fields : Type 0
Fields = (OpText × Form) × (Category × Axis)

abbrev line_of : Fields → OperatorLine
line_of p = record { text = p.0.0; form = p.0.1; category = p.1.0; axis = p.1.1 }

read : (t : Step OpText) (f : Step Form) (g : Step Category) (a : Step Axis) (all : Step Fields)
    (text form category axis : List ℕ) → t ≡ operator_text_in text → f ≡ form_in form → g ≡ category_in category
    → a ≡ axis_in axis → all ≡ both (both t f) (both g a)
    → step_map line_of all ≡ operator_with text form category axis
read t f g a all text form category axis ht hf hg ha h =
    ap (step_map line_of) (h ∙ (λ i. both (both (ht i) (hf i)) (both (hg i) (ha i))))
    ∙ sym (four (operator_text_in text) (form_in form) (category_in category) (axis_in axis) line_of)

pub returns-in_err-text : goal.returns-in_err-text
returns-in_err-text c =
    ap (step_map item_of) (failed c.from_residual.result c.in_err-text.field-0.0 c.from_residual.ensures.1)
    ∙ ap (step_map SaysOperator)
    (ap (step_map line_of) (sym c.in_err-text.was)
    ∙ read _ _ _ _ c.both-2.result _ _ _ _ c.operator_text.ensures c.form.ensures c.category.ensures c.axis.ensures
    (c.both-2.ensures ∙ (λ i. both (c.both-named.ensures i) (c.both.ensures i))))

pub returns : goal.returns
returns c =
    ap (step_map SaysOperator)
    (ap (step_map line_of) (sym c.in_ok-text.was)
    ∙ read _ _ _ _ c.both-2.result _ _ _ _ c.operator_text.ensures c.form.ensures c.category.ensures c.axis.ensures
    (c.both-2.ensures ∙ (λ i. both (c.both-named.ensures i) (c.both.ensures i))))
