-- The outcomes of leaves that are made exactly, or are too wide to be stored.
use Rattle.std.proofs.Common.{◌≡◌, ◌∙◌, refl, sym, ap, inl, inr, arith, ◌<ℤ◌, Bool, true, false, true≢false, ◌&&◌}
use Rattle.std.proofs.lemmas.Bool.{and_parts}
use Rattle.std.specs.List.{list_all}
use Rattle.fixed_units.specs.Boxes.{farthest, is_box_stored, is_stored}
use Rattle.fixed_units.specs.Numbers.{IsWithin}
use Rattle.fixed_units.proofs.Signed.{signed}
use Rattle.token_boxes.specs.Operator.{IsPull}
use Rattle.token_boxes.specs.Token.{IsLeaf, far}
use Rattle.token_boxes.specs.declared.leaf.Leaf.{Leaf}
use Rattle.layout_model.specs.Contexts.{pull_of}
use Rattle.layout_model.specs.Equations.{leaf_outcome}
use Rattle.layout_model.specs.Fits.{IsStretch}
use Rattle.layout_model.specs.Range.{answer_fits, mark_fits, offset_fits, outcome_fits, span_fits}
use Rattle.layout_model.specs.declared.context.Stretch.{Stretch}
use Rattle.layout_model.specs.declared.context.Stretch.TheVariants.{None as Unstretched, Block as Upright, Inline as Sideways, Columns, Slots}
use Rattle.layout_model.specs.declared.outcome.Outcome.{Outcome}
use Rattle.layout_model.proofs.Ranges.{answer_stored}
use Rattle.outcomes.specs.Outcomes.{IsOutcome}

stored_width : (outcome : Outcome) → outcome_fits outcome ≡ true → IsWithin farthest outcome.answer.frame.width
unfolding outcome_fits
stored_width o e =
    let all = and_parts (answer_fits o.answer && list_all offset_fits o.offsets) (list_all mark_fits o.marks) e in
    let two = and_parts (answer_fits o.answer) (list_all offset_fits o.offsets) all.0 in
    (answer_stored o.answer two.0).frame.width

too_wide : (outcome : Outcome) → far <ℤ outcome.answer.frame.width → outcome_fits outcome ≡ false
too_wide o wide = by (outcome_fits o) refl
  where
    by : (fits : Bool) → outcome_fits o ≡ fits → fits ≡ false
    by true e = absurd (let high = (stored_width o e).high in omega (arith, signed, wide, high))
    by false e = refl

width_fits : (outcome : Outcome) → outcome_fits outcome ≡ true → is_stored outcome.answer.frame.width ≡ true
unfolding outcome_fits answer_fits
width_fits o e =
    let f = o.answer.frame in
    let all = and_parts (answer_fits o.answer && list_all offset_fits o.offsets) (list_all mark_fits o.marks) e in
    let answer = and_parts (answer_fits o.answer) (list_all offset_fits o.offsets) all.0 in
    let cells = and_parts (is_box_stored f && is_stored o.answer.before && is_stored o.answer.after && list_all is_stored o.answer.cells) (list_all span_fits o.answer.spans) answer.0 in
    let spaces = and_parts (is_box_stored f && is_stored o.answer.before && is_stored o.answer.after) (list_all is_stored o.answer.cells) cells.0 in
    let one = and_parts (is_box_stored f && is_stored o.answer.before) (is_stored o.answer.after) spaces.0 in
    let box = and_parts (is_box_stored f) (is_stored o.answer.before) one.0 in
    let a = and_parts (is_stored f.width && is_stored f.ascent && is_stored f.descent && is_stored f.ink_ascent && is_stored f.ink_descent && is_stored f.italic) (is_stored f.accent) box.0 in
    let b = and_parts (is_stored f.width && is_stored f.ascent && is_stored f.descent && is_stored f.ink_ascent && is_stored f.ink_descent) (is_stored f.italic) a.0 in
    let c = and_parts (is_stored f.width && is_stored f.ascent && is_stored f.descent && is_stored f.ink_ascent) (is_stored f.ink_descent) b.0 in
    let d = and_parts (is_stored f.width && is_stored f.ascent && is_stored f.descent) (is_stored f.ink_ascent) c.0 in
    let g = and_parts (is_stored f.width && is_stored f.ascent) (is_stored f.descent) d.0 in
    (and_parts (is_stored f.width) (is_stored f.ascent) g.0).0

-- an outcome whose width can't be stored can't be
pub unstored_width : (outcome : Outcome) → is_stored outcome.answer.frame.width ≡ false → outcome_fits outcome ≡ false
unstored_width o h = by (outcome_fits o) refl
  where
    by : (fits : Bool) → outcome_fits o ≡ fits → fits ≡ false
    by true e = absurd (true≢false (sym (width_fits o e) ∙ h))
    by false e = refl

pub leaf_exactly : (exact leaf : Leaf) → IsLeaf exact leaf → IsOutcome (leaf_outcome exact) (leaf_outcome leaf)
leaf_exactly exact leaf (inl e) = inl (ap (λ (l : Leaf). leaf_outcome l) e)
leaf_exactly exact leaf (inr wide) = inr (too_wide (leaf_outcome exact) wide.0, too_wide (leaf_outcome leaf) wide.1)

-- what stretches an element pulls its operator by numbers that can be stored
pub pull_stored : (stretch : Stretch) → IsStretch stretch → IsPull (pull_of stretch)
unfolding pull_of
pull_stored Unstretched h = tt
pull_stored (Upright ascent descent) h = h
pull_stored (Sideways width) h = h
pull_stored (Columns widths) h = tt
pull_stored (Slots numbers) h = tt
