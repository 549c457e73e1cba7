-- How far from the root's place the boxes and marks of a page stand.
use Rattle.std.proofs.Common.{◌≡◌, ◌∙◌, sym, ap, subst, ℕ, ◌+◌, ◌-◌, ◌*◌, ◌^◌, ◌≤◌, max, arith, lit≤, Bool, true, false, ◌&&◌, List, [], ◌∷◌, ◌++◌, map, fold, All, ℤ, ◌+ℤ◌}
use Rattle.std.specs.Prelude.{if◌then◌else◌}
use Rattle.std.proofs.lemmas.Bool.{and_parts}
use Rattle.std.proofs.lemmas.List.Elements.{All-append, All-cons, All-nil}
use Rattle.std.specs.List.{AllByRecursion, list_all}
use Rattle.fixed_units.specs.Boxes.{IsStored, farthest, is_stored}
use Rattle.fixed_units.specs.Numbers.{IsWithin}
use Rattle.fixed_units.proofs.Within.{sum_in, widened}
use Rattle.font_metrics.specs.declared.mark.Mark.{Mark}
use Rattle.font_metrics.specs.declared.mark.Mark.TheVariants.{Glyph, Rule, Built}
use Rattle.layout_model.proofs.LaidTrees.{levels_out, outcomes_out}
use Rattle.layout_model.proofs.Ranges.{answer_stored, number_within}
use Rattle.layout_model.specs.Laid.{all_outcomes, levels}
use Rattle.layout_model.specs.Range.{answer_fits, mark_fits, offset_fits, outcome_fits}
use Rattle.layout_model.specs.declared.laid.Laid.{Laid}
use Rattle.layout_model.specs.declared.laid.Laid.TheViews.{out-Laid}
use Rattle.layout_model.specs.declared.outcome.Offset.{Offset}
use Rattle.layout_model.specs.declared.outcome.Outcome.{Outcome}
use Rattle.box_writer.specs.Items.{box_of, moved, x_of, y_of}
use Rattle.box_writer.specs.declared.placed.PlacedItem.{PlacedItem}
use Rattle.box_writer.specs.declared.placed.PlacedItem.TheVariants.{Frame, Drawn}
use Rattle.placement.specs.Placing.{is_silent, kids_at, marks_at, most_levels, placed}
use Rattle.placement.proofs.Glyphs.{by_kids}
use Rattle.placement.proofs.Near.{farther, near}
use Rattle.placement.proofs.Showing.{from_layer, placed_out}

abbrev pub IsNear : PlacedItem → Type 0
IsNear (Frame box) = IsStored box.frame × (IsWithin (2 ^ 37) box.x × IsWithin (2 ^ 37) box.y)
IsNear (Drawn mark) = IsWithin (2 ^ 37) (x_of mark) × IsWithin (2 ^ 37) (y_of mark)

-- how far an element may stand that has so many levels
abbrev pub room : ℕ → ℕ
room levels = farthest * (most_levels - levels)

-- ---- an element's own numbers

own_near : (n : ℕ) (z : ℤ) → IsWithin (room n) z → IsWithin (2 ^ 37) z
own_near n z p = widened (2 ^ 37) (near n z p) (lit≤ tt)

moved_near : (n : ℕ) (z w : ℤ) → IsWithin (room n) z → is_stored w ≡ true → IsWithin (2 ^ 37) (w +ℤ z)
moved_near n z w p e = widened (2 ^ 37) (sum_in (number_within w e) (near n z p)) (lit≤ tt)

module _ (n : ℕ) (x y : ℤ) (right : IsWithin (room n) x) (down : IsWithin (room n) y) where
  mark_near : (mark : Mark) → mark_fits mark ≡ true → IsNear (Drawn (moved x y mark))
  unfolding mark_fits
  mark_near (Glyph a b size glyph) e =
      let both = and_parts (is_stored a) (is_stored b) (and_parts (is_stored a && is_stored b) (is_stored size) e).0 in
      (moved_near n x a right both.0, moved_near n y b down both.1)
  mark_near (Rule a b width height) e =
      let some = and_parts (is_stored a && is_stored b && is_stored width) (is_stored height) e in
      let both = and_parts (is_stored a) (is_stored b) (and_parts (is_stored a && is_stored b) (is_stored width) some.0).0 in
      (moved_near n x a right both.0, moved_near n y b down both.1)
  mark_near (Built a b size axis glyph count overlap) e =
      let both = and_parts (is_stored a) (is_stored b) (and_parts (is_stored a && is_stored b) (is_stored size) e).0 in
      (moved_near n x a right both.0, moved_near n y b down both.1)

  marks_near : (marks : List Mark) → list_all mark_fits marks ≡ true → All IsNear (marks_at x y marks)
  marks_near [] e = All-nil IsNear
  marks_near (mark ∷ marks) e =
      let parts = and_parts (mark_fits mark) (list_all mark_fits marks) e in
      All-cons IsNear (Drawn (moved x y mark)) (marks_at x y marks) (mark_near mark parts.0) (marks_near marks parts.1)

-- ---- elements

pub record Fitting (outcome : Outcome) : Type 0 where
  pub frame : IsStored outcome.answer.frame
  pub offsets : list_all offset_fits outcome.offsets ≡ true
  pub marks : list_all mark_fits outcome.marks ≡ true

pub fitting : (o : Outcome) → outcome_fits o ≡ true → Fitting o
unfolding outcome_fits
fitting o e =
    let all = and_parts (answer_fits o.answer && list_all offset_fits o.offsets) (list_all mark_fits o.marks) e in
    let first = and_parts (answer_fits o.answer) (list_all offset_fits o.offsets) all.0 in
    record { frame = (answer_stored o.answer first.0).frame; offsets = first.1; marks = all.1 }

abbrev IsPlacedNear : Laid → Type 0
IsPlacedNear l =
    (x y : ℤ) → levels l ≤ most_levels → IsWithin (room (levels l)) x → IsWithin (room (levels l)) y
    → all_outcomes outcome_fits l ≡ true → All IsNear (placed l x y)

first_folded : (xs : List ℕ) (first : ℕ) → first ≤ fold max first xs
first_folded [] first = omega arith
first_folded (x ∷ xs) first = omega (arith, first_folded xs (max first x))

-- each child has fewer levels
fewer_below : (kids : List Laid) (first n : ℕ) → fold max first (map levels kids) + 1 ≤ n → AllByRecursion (λ (k : Laid). levels k + 1 ≤ n) kids
fewer_below [] first n h = tt
fewer_below (k ∷ kids) first n h =
    (omega (arith, h, first_folded (map levels kids) (max first (levels k))), fewer_below kids (max first (levels k)) n h)

module _ (n : ℕ) (x y : ℤ) (few : n ≤ most_levels) (right : IsWithin (room n) x) (down : IsWithin (room n) y) where
  kids_near : (offsets : List Offset) (kids : List Laid) → AllByRecursion IsPlacedNear kids → AllByRecursion (λ (k : Laid). levels k + 1 ≤ n) kids
      → list_all offset_fits offsets ≡ true → list_all (λ kid. kid) (map (all_outcomes outcome_fits) kids) ≡ true
      → All IsNear (kids_at x y offsets (map placed kids))
  unfolding offset_fits
  kids_near [] [] h l o e = All-nil IsNear
  kids_near [] (kid ∷ kids) h l o e = All-nil IsNear
  kids_near (offset ∷ offsets) [] h l o e = All-nil IsNear
  kids_near (offset ∷ offsets) (kid ∷ kids) h l o e =
      let parts = and_parts (all_outcomes outcome_fits kid) (list_all (λ k. k) (map (all_outcomes outcome_fits) kids)) e in
      let own = and_parts (is_stored offset.x && is_stored offset.y) (list_all offset_fits offsets) o in
      let both = and_parts (is_stored offset.x) (is_stored offset.y) own.0 in
      All-append IsNear (placed kid (x +ℤ offset.x) (y +ℤ offset.y)) (kids_at x y offsets (map placed kids))
      (h.0 (x +ℤ offset.x) (y +ℤ offset.y) (omega (arith, l.0, few))
      (farther n (levels kid) x offset.x l.0 few right (number_within offset.x both.0))
      (farther n (levels kid) y offset.y l.0 few down (number_within offset.y both.1)) parts.0)
      (kids_near offsets kids h.1 l.1 own.1 parts.1)

layer_near : (l : Laid) → AllByRecursion IsPlacedNear (out-Laid l).kids → (x y : ℤ) → levels l ≤ most_levels
    → IsWithin (room (levels l)) x → IsWithin (room (levels l)) y → all_outcomes outcome_fits l ≡ true → All IsNear (from_layer l x y)
layer_near l below x y few right down e = by (is_silent (out-Laid l).head.kind)
  where
    parts : (outcome_fits (out-Laid l).outcome ≡ true) × (list_all (λ kid. kid) (map (all_outcomes outcome_fits) (out-Laid l).kids) ≡ true)
    parts = and_parts (outcome_fits (out-Laid l).outcome) (list_all (λ kid. kid) (map (all_outcomes outcome_fits) (out-Laid l).kids)) (sym (outcomes_out outcome_fits l) ∙ e)

    own : Fitting (out-Laid l).outcome
    own = fitting (out-Laid l).outcome parts.0

    by : (silent : Bool) → All IsNear (if silent then [] else box_of (out-Laid l).head x y (out-Laid l).outcome.answer.frame ∷ marks_at x y (out-Laid l).outcome.marks ++ kids_at x y (out-Laid l).outcome.offsets (map placed (out-Laid l).kids))
    by true = All-nil IsNear
    by false =
        All-cons IsNear (box_of (out-Laid l).head x y (out-Laid l).outcome.answer.frame) (marks_at x y (out-Laid l).outcome.marks ++ kids_at x y (out-Laid l).outcome.offsets (map placed (out-Laid l).kids))
        (own.frame, (own_near (levels l) x right, own_near (levels l) y down))
        (All-append IsNear (marks_at x y (out-Laid l).outcome.marks) (kids_at x y (out-Laid l).outcome.offsets (map placed (out-Laid l).kids))
        (marks_near (levels l) x y right down (out-Laid l).outcome.marks own.marks)
        (kids_near (levels l) x y few right down (out-Laid l).outcome.offsets (out-Laid l).kids below (fewer_below (out-Laid l).kids 0 (levels l) (omega (arith, levels_out l))) own.offsets parts.1))

pub placed_near : (l : Laid) → IsPlacedNear l
placed_near = by_kids IsPlacedNear (λ l below x y few right down e.
    subst (All IsNear) (sym (placed_out l x y)) (layer_near l below x y few right down e))
