-- How far from the root an element may stand: no farther than as many offsets as there are levels.
use Rattle.std.proofs.Common.{◌≡◌, ◌∙◌, sym, ap, subst, ℕ, zero, suc, ◌+◌, ◌-◌, ◌*◌, ◌^◌, ◌<◌, ◌≤◌, max, arith, lit<, lit≤, w64, to_z, of_z, FitsSigned, Bool, true, ◌&&◌, List, [], ◌∷◌, length, map, fold, get_or, ℤ, ◌+ℤ◌}
use Rattle.std.proofs.Math.Nat.{mul-le-mul_left}
use Rattle.std.proofs.lemmas.Bool.{and_parts}
use Rattle.std.proofs.lemmas.List.Folds.{list_all-map}
use Rattle.std.proofs.lemmas.List.Sums.{AllPass-from_list_all}
use Rattle.std.specs.List.{list_all}
use denote.Param.Weighed.{most, at_most}
use Rattle.fixed_units.specs.Boxes.{farthest, is_stored}
use Rattle.fixed_units.specs.Numbers.{IsWithin}
use Rattle.fixed_units.proofs.Within.{fits_i64, sum_in, widened}
use Rattle.font_metrics.proofs.Scaling.{back64, within64}
use Rattle.font_metrics.specs.declared.mark.Mark.{Mark}
use Rattle.font_metrics.specs.declared.mark.Mark.TheVariants.{Glyph, Rule, Built}
use Rattle.layout_model.proofs.LaidTrees.{levels_out, outcomes_out}
use Rattle.layout_model.proofs.Ranges.{number_within}
use Rattle.layout_model.specs.Laid.{all_outcomes, levels}
use Rattle.layout_model.specs.Range.{answer_fits, mark_fits, offset_fits, outcome_fits}
use Rattle.layout_model.specs.declared.laid.Laid.{Laid}
use Rattle.layout_model.specs.declared.laid.Laid.TheViews.{out-Laid, size-Laid, size_is-Laid}
use Rattle.layout_model.specs.declared.outcome.Offset.{Offset}
use Rattle.layout_model.specs.declared.outcome.Outcome.{Outcome}
use Rattle.box_writer.specs.Items.{x_of, y_of}
use Rattle.placement.specs.Placing.{most_levels}

-- ---- levels

first_folded : (xs : List ℕ) (first : ℕ) → first ≤ fold max first xs
first_folded [] first = omega arith
first_folded (x ∷ xs) first = omega (arith, first_folded xs (max first x))

each_folded : (f : Laid → ℕ) (kids : List Laid) (first i : ℕ) (kid : Laid) → i < length kids → kid ≡ get_or kids i kid → f kid ≤ fold max first (map f kids)
each_folded f [] first i kid l is = absurd (omega (arith, l))
each_folded f (k ∷ kids) first zero kid l is = omega (arith, first_folded (map f kids) (max first (f k)), ap f is)
each_folded f (k ∷ kids) first (suc i) kid l is = each_folded f kids (max first (f k)) i kid (omega (arith, l)) is

pub fewer_levels : (l : Laid) (kids : List Laid) (i : ℕ) (kid : Laid) → kids ≡ (out-Laid l).kids → i < length kids → kid ≡ get_or kids i kid → levels kid + 1 ≤ levels l
fewer_levels l kids i kid k h is =
    omega (arith, levels_out l, ap (λ (all : List Laid). fold max 0 (map levels all)) k, each_folded levels kids 0 i kid h is)

-- ---- numbers

pub own_stored : (l : Laid) → all_outcomes outcome_fits l ≡ true → outcome_fits (out-Laid l).outcome ≡ true
own_stored l e = (and_parts (outcome_fits (out-Laid l).outcome) (list_all (λ b. b) (map (all_outcomes outcome_fits) (out-Laid l).kids)) (sym (outcomes_out outcome_fits l) ∙ e)).0

pub kid_stored : (l : Laid) (kids : List Laid) (i : ℕ) (kid : Laid) → all_outcomes outcome_fits l ≡ true → kids ≡ (out-Laid l).kids → i < length kids → kid ≡ get_or kids i kid
    → all_outcomes outcome_fits kid ≡ true
kid_stored l kids i kid e k h is =
    let all = (and_parts (outcome_fits (out-Laid l).outcome) (list_all (λ b. b) (map (all_outcomes outcome_fits) (out-Laid l).kids)) (sym (outcomes_out outcome_fits l) ∙ e)).1 in
    let each = AllPass-from_list_all (all_outcomes outcome_fits) kids
    (sym (list_all-map (λ (b : Bool). b) (all_outcomes outcome_fits) kids) ∙ ap (λ (some : List Laid). list_all (λ b. b) (map (all_outcomes outcome_fits) some)) k ∙ all) in
    ap (all_outcomes outcome_fits) is ∙ each i kid h

marks_and_offsets : (o : Outcome) → outcome_fits o ≡ true → (list_all offset_fits o.offsets ≡ true) × (list_all mark_fits o.marks ≡ true)
unfolding outcome_fits
marks_and_offsets o e =
    let all = and_parts (answer_fits o.answer && list_all offset_fits o.offsets) (list_all mark_fits o.marks) e in
    ((and_parts (answer_fits o.answer) (list_all offset_fits o.offsets) all.0).1, all.1)

pub marks_stored : (l : Laid) → all_outcomes outcome_fits l ≡ true → list_all mark_fits (out-Laid l).outcome.marks ≡ true
marks_stored l e = (marks_and_offsets (out-Laid l).outcome (own_stored l e)).1

pub offsets_stored : (l : Laid) → all_outcomes outcome_fits l ≡ true → list_all offset_fits (out-Laid l).outcome.offsets ≡ true
offsets_stored l e = (marks_and_offsets (out-Laid l).outcome (own_stored l e)).0

pub record IsOffsetWithin (offset : Offset) : Type 0 where
  pub right : IsWithin farthest offset.x
  pub down : IsWithin farthest offset.y

pub offset_within : (offset : Offset) → offset_fits offset ≡ true → IsOffsetWithin offset
unfolding offset_fits
offset_within offset e =
    let parts = and_parts (is_stored offset.x) (is_stored offset.y) e in
    record { right = number_within offset.x parts.0; down = number_within offset.y parts.1 }

pub offset_at : (l : Laid) (offsets : List Offset) (i : ℕ) (default : Offset) → all_outcomes outcome_fits l ≡ true → offsets ≡ (out-Laid l).outcome.offsets
    → i < length offsets → IsOffsetWithin (get_or offsets i default)
offset_at l offsets i default e o h =
    let each = AllPass-from_list_all offset_fits offsets (ap (list_all offset_fits) o ∙ (marks_and_offsets (out-Laid l).outcome (own_stored l e)).0) in
    offset_within (get_or offsets i default) (each i default h)

pub record IsMarkWithin (mark : Mark) : Type 0 where
  pub right : IsWithin (2 ^ 40) (x_of mark)
  pub down : IsWithin (2 ^ 40) (y_of mark)

wide : (x y : ℤ) → is_stored x ≡ true → is_stored y ≡ true → IsWithin (2 ^ 40) x × IsWithin (2 ^ 40) y
wide x y e f = (widened (2 ^ 40) (number_within x e) (lit≤ tt), widened (2 ^ 40) (number_within y f) (lit≤ tt))

pub mark_fits_within : (mark : Mark) → mark_fits mark ≡ true → IsMarkWithin mark
unfolding mark_fits
mark_fits_within (Glyph x y size glyph) e =
    let all = and_parts (is_stored x && is_stored y) (is_stored size) e in
    let both = and_parts (is_stored x) (is_stored y) all.0 in
    let w = wide x y both.0 both.1 in record { right = w.0; down = w.1 }
mark_fits_within (Rule x y width height) e =
    let all = and_parts (is_stored x && is_stored y && is_stored width) (is_stored height) e in
    let some = and_parts (is_stored x && is_stored y) (is_stored width) all.0 in
    let both = and_parts (is_stored x) (is_stored y) some.0 in
    let w = wide x y both.0 both.1 in record { right = w.0; down = w.1 }
mark_fits_within (Built x y size axis glyph count overlap) e =
    let all = and_parts (is_stored x && is_stored y) (is_stored size) e in
    let both = and_parts (is_stored x) (is_stored y) all.0 in
    let w = wide x y both.0 both.1 in record { right = w.0; down = w.1 }

pub mark_at : (marks : List Mark) (i : ℕ) (default : Mark) → list_all mark_fits marks ≡ true → i < length marks → IsMarkWithin (get_or marks i default)
mark_at marks i default e h = mark_fits_within (get_or marks i default) (AllPass-from_list_all mark_fits marks e i default h)

-- ---- places

more_room : (f a b : ℕ) → a + 1 ≤ b → f * a + f ≤ f * b
more_room f a b l = omega (arith, mul-le-mul_left f l)

-- an element's own place lies within so many offsets
pub near : (levels : ℕ) (z : ℤ) → IsWithin (farthest * (most_levels - levels)) z → IsWithin (farthest * most_levels) z
near levels z p =
    let less : most_levels - levels ≤ most_levels = omega arith in
    widened (farthest * most_levels) p (mul-le-mul_left farthest less)

-- and that of its child within one more
pub farther : (levels below : ℕ) (z w : ℤ) → below + 1 ≤ levels → levels ≤ most_levels → IsWithin (farthest * (most_levels - levels)) z → IsWithin farthest w
    → IsWithin (farthest * (most_levels - below)) (z +ℤ w)
farther levels below z w l m p q =
    widened (farthest * (most_levels - below)) (sum_in p q) (more_room farthest (most_levels - levels) (most_levels - below) (omega (arith, l, m)))

-- the sum of the two fits, and comes back from its bits
pub sum_fits : (levels : ℕ) (z w : ℤ) → IsWithin (farthest * (most_levels - levels)) z → IsWithin farthest w
    → FitsSigned w64 (to_z w64 (of_z w64 z) +ℤ to_z w64 (of_z w64 w))
sum_fits levels z w p q = fits_i64 (sum_in (within64 (near levels z p) (lit< tt)) (within64 q (lit< tt))) (lit< tt)

pub sum_back : (levels : ℕ) (z w : ℤ) → IsWithin (farthest * (most_levels - levels)) z → IsWithin farthest w
    → to_z w64 (of_z w64 (to_z w64 (of_z w64 z) +ℤ to_z w64 (of_z w64 w))) ≡ z +ℤ w
sum_back levels z w p q =
    back64 (sum_in (within64 (near levels z p) (lit< tt)) (within64 q (lit< tt))) (lit< tt)
    ∙ ap (λ (a : ℤ). a +ℤ to_z w64 (of_z w64 w)) (back64 (near levels z p) (lit< tt)) ∙ ap (λ (b : ℤ). z +ℤ b) (back64 q (lit< tt))

-- a place that went to bits and is read again
pub back_at : (levels : ℕ) (z : ℤ) → IsWithin (farthest * (most_levels - levels)) z → to_z w64 (of_z w64 z) ≡ z
back_at levels z p = back64 (near levels z p) (lit< tt)

-- the same of one added to
pub added_back : (levels : ℕ) (z w : ℤ) → IsWithin (farthest * (most_levels - levels)) z → IsWithin farthest w
    → to_z w64 (of_z w64 (to_z w64 (of_z w64 z) +ℤ to_z w64 (of_z w64 w))) ≡ to_z w64 (of_z w64 z) +ℤ w
added_back levels z w p q = sum_back levels z w p q ∙ ap (λ (a : ℤ). a +ℤ w) (sym (back_at levels z p))

-- a child's place lies near enough for its own levels
pub kid_near : (levels below : ℕ) (z w : ℤ) → below + 1 ≤ levels → levels ≤ most_levels → IsWithin (farthest * (most_levels - levels)) z → IsWithin farthest w
    → IsWithin (farthest * (most_levels - below)) (to_z w64 (of_z w64 (to_z w64 (of_z w64 z) +ℤ to_z w64 (of_z w64 w))))
kid_near levels below z w l m p q = subst (IsWithin (farthest * (most_levels - below))) (sym (sum_back levels z w p q)) (farther levels below z w l m p q)

-- ---- a child is smaller

pub smaller : (l : Laid) (kids : List Laid) (i : ℕ) (kid : Laid) → kids ≡ (out-Laid l).kids → i < length kids → kid ≡ get_or kids i kid → size-Laid kid < size-Laid l
smaller l kids i kid k h is =
    let deepest : size-Laid (get_or kids i kid) ≤ most size-Laid kids = at_most size-Laid kids i kid h in
    let same : most size-Laid kids ≡ most size-Laid (out-Laid l).kids = ap (most size-Laid) k in
    let own : size-Laid kid ≡ size-Laid (get_or kids i kid) = ap size-Laid is in
    omega (arith, deepest, same, own, size_is-Laid l)
