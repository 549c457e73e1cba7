use Rattle.std.proofs.Common.{◌≡◌, ◌∙◌, sym, ap, subst, ◌^◌, List, [], ◌∷◌, ◌++◌, ℤ, w64, lit<}
use Rattle.std.specs.List.{All}
use Rattle.std.proofs.lemmas.Int.{to_z-of_z}
use Rattle.std.proofs.lemmas.List.Elements.{All-append, All-cons, All-nil}
use Rattle.fixed_units.specs.Numbers.{IsWithin}
use Rattle.fixed_units.specs.Sums.{list_to}
use Rattle.fixed_units.proofs.Sums.{list_to-zero, list_to-add_one}
use Rattle.fixed_units.proofs.Within.{fits_i64}
use Rattle.math_tables.specs.Placing.{slot_x_of}
use Rattle.math_tables.proofs.Places.{cell_in, slot_x_of-is}
use Rattle.math_tables.proofs.placing.slot_offsets.Goals as goal

pub loop-place-init : goal.loop-place-init
loop-place-init c = record {
  offsets = c.make-offsets.ensures ∙ sym (list_to-zero (slot_x_of c.args.cells.now c.args.slots.now));
  within = subst (All (IsWithin (2 ^ 61))) (sym c.make-offsets.ensures) (All-nil (IsWithin (2 ^ 61)));
}

pub slot_x-requires-clause-cell_fits : goal.slot_x-requires-clause-cell_fits
slot_x-requires-clause-cell_fits c = cell_in c.args.cells.now c.loop-place.place c.loop-place-test.true c.requires.cells_fit

pub loop-place-preserved : goal.loop-place-preserved
loop-place-preserved c =
    let cells = c.args.cells.now in
    let slots = c.args.slots.now in
    let i = c.loop-place.place in
    let before = c.loop-place.offsets in
    let x = c.slot_x.result in
    let here = to_z-of_z w64 x (fits_i64 c.slot_x.ensures.within (lit< tt)) in
    let pushed : c.push.new.self ≡ before ++ x ∷ [] = (c.in_ok-push.ensures {u = tt}).ok ∙ ap (λ (z : ℤ). before ++ z ∷ []) here in
    record {
      offsets = pushed ∙ ap (λ (xs : List ℤ). xs ++ x ∷ []) c.loop-place.invariant.offsets
          ∙ ap (λ (z : ℤ). list_to i (slot_x_of cells slots) ++ z ∷ []) (c.slot_x.ensures.value ∙ sym (slot_x_of-is cells slots i))
          ∙ sym (list_to-add_one i (slot_x_of cells slots));
      within = subst (All (IsWithin (2 ^ 61))) (sym pushed)
          (All-append (IsWithin (2 ^ 61)) before (x ∷ []) c.loop-place.invariant.within
          (All-cons (IsWithin (2 ^ 61)) x [] c.slot_x.ensures.within (All-nil (IsWithin (2 ^ 61)))));
    }
