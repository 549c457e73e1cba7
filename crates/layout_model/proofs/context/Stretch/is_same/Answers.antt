use Rattle.std.proofs.Common.{◌≡◌, ◌∙◌, sym, ap, List, ℤ, true≢false}
use Rattle.std.proofs.lemmas.Bool.Decides.{Decides-int_eq}
use Rattle.std.proofs.lemmas.Slice.Eq.{slice_eq-Decides}
use Rattle.layout_model.specs.declared.context.Stretch.TheVariants.{Columns, Slots}
use Rattle.layout_model.proofs.context.Stretch.is_same.Goals as goal

pub returns-in-Columns-Columns-clause-yes : goal.returns-in-Columns-Columns-clause-yes
returns-in-Columns-Columns-clause-yes c = λ e.
    let decided = slice_eq-Decides Decides-int_eq c.as_slice.result.now c.as_slice-in-Columns-Columns.result.now c.eq.result c.eq.ensures in
    let same : c.in-Columns-Columns.widths ≡ c.in-Columns-Columns.others = sym c.as_slice.ensures ∙ decided.0 e ∙ c.as_slice-in-Columns-Columns.ensures in
    c.in-Columns-Columns.is-0 ∙ ap (λ (widths : List ℤ). Columns widths) same ∙ sym c.in-Columns-Columns.is-1

pub returns-in-Columns-Columns-clause-no : goal.returns-in-Columns-Columns-clause-no
returns-in-Columns-Columns-clause-no c = λ e alike.
    let decided = slice_eq-Decides Decides-int_eq c.as_slice.result.now c.as_slice-in-Columns-Columns.result.now c.eq.result c.eq.ensures in
    let whole : Columns c.in-Columns-Columns.widths ≡ Columns c.in-Columns-Columns.others = sym c.in-Columns-Columns.is-0 ∙ alike ∙ c.in-Columns-Columns.is-1 in
    let same : c.in-Columns-Columns.widths ≡ c.in-Columns-Columns.others = cc in
    true≢false (sym (decided.1 (c.as_slice.ensures ∙ same ∙ sym c.as_slice-in-Columns-Columns.ensures)) ∙ e)

pub returns-in-Slots-Slots-clause-yes : goal.returns-in-Slots-Slots-clause-yes
returns-in-Slots-Slots-clause-yes c = λ e.
    let decided = slice_eq-Decides Decides-int_eq c.as_slice-in-Slots-Slots.result.now c.as_slice-in-Slots-Slots-2.result.now c.eq-in-Slots-Slots.result c.eq-in-Slots-Slots.ensures in
    let same : c.in-Slots-Slots.numbers ≡ c.in-Slots-Slots.others = sym c.as_slice-in-Slots-Slots.ensures ∙ decided.0 e ∙ c.as_slice-in-Slots-Slots-2.ensures in
    c.in-Slots-Slots.is-0 ∙ ap (λ (widths : List ℤ). Slots widths) same ∙ sym c.in-Slots-Slots.is-1

pub returns-in-Slots-Slots-clause-no : goal.returns-in-Slots-Slots-clause-no
returns-in-Slots-Slots-clause-no c = λ e alike.
    let decided = slice_eq-Decides Decides-int_eq c.as_slice-in-Slots-Slots.result.now c.as_slice-in-Slots-Slots-2.result.now c.eq-in-Slots-Slots.result c.eq-in-Slots-Slots.ensures in
    let whole : Slots c.in-Slots-Slots.numbers ≡ Slots c.in-Slots-Slots.others = sym c.in-Slots-Slots.is-0 ∙ alike ∙ c.in-Slots-Slots.is-1 in
    let same : c.in-Slots-Slots.numbers ≡ c.in-Slots-Slots.others = cc in
    true≢false (sym (decided.1 (c.as_slice-in-Slots-Slots.ensures ∙ same ∙ sym c.as_slice-in-Slots-Slots-2.ensures)) ∙ e)
