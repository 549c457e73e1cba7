-- What is told as far as places reach can be stored where what it stands for can, and is then the same.
use Rattle.std.proofs.Common.{◌≡◌, ◌∙◌, refl, sym, ap, subst, inl, inr, arith, lit<, lit≤, ◌+◌, ◌^◌, ℕ, ℤ, pos, neg_ℤ, w64, to_z, of_z, FitsSigned, Bool, true, false, ◌&&◌, List, [], ◌∷◌, map}
use Rattle.std.proofs.lemmas.Bool.{and_parts}
use Rattle.std.proofs.lemmas.Int.{to_z-of_z}
use Rattle.std.specs.Int.{int_max, int_min, w128}
use Rattle.std.specs.List.{list_all}
use Rattle.fixed_units.specs.Boxes.{farthest, is_stored}
use Rattle.fixed_units.specs.Numbers.{IsWithin}
use Rattle.fixed_units.specs.declared.boxes.MathBox.{MathBox}
use Rattle.fixed_units.proofs.Signed.{signed}
use Rattle.fixed_units.proofs.Within.{widened}
use Rattle.font_metrics.proofs.Scaling.{back128}
use Rattle.font_metrics.specs.declared.mark.Mark.{Mark}
use Rattle.font_metrics.specs.declared.mark.Mark.TheVariants.{Glyph, Rule, Built}
use Rattle.layout_model.specs.Direction.{mirrored, turned}
use Rattle.layout_model.specs.Elements.{Element, frame_at, offset, outcome, outcome_with, placed_in}
use Rattle.layout_model.specs.Range.{answer_fits, mark_fits, offset_fits, outcome_fits}
use Rattle.layout_model.specs.declared.context.Context.{Context}
use Rattle.layout_model.specs.declared.outcome.Offset.{Offset}
use Rattle.layout_model.specs.declared.outcome.Outcome.{Outcome}
use Rattle.layout_model.proofs.Ranges.{number_within}
use Rattle.outcomes.specs.Outcomes.{IsOutcome}
use Rattle.outcomes.specs.Reach.{mark_reached, offset_reached, reached}
use Rattle.outcomes.proofs.Casts.{told_wide}

-- ---- numbers

pub reached_same : (x : ℤ) → IsWithin (2 ^ 60) x → reached x ≡ x
unfolding reached
reached_same x p = omega (arith, signed, p.low, p.high)

reached_back : (x : ℤ) → IsWithin farthest (reached x) → IsWithin farthest x
unfolding reached
reached_back x p = record { low = omega (arith, signed, p.low, p.high); high = omega (arith, signed, p.low, p.high) }

stored_same : (x : ℤ) → is_stored x ≡ true → reached x ≡ x
stored_same x e =
    let p = number_within x e in
    reached_same x (record { low = omega (arith, signed, p.low); high = omega (arith, signed, p.high) })

stored_back : (x : ℤ) → is_stored (reached x) ≡ true → reached x ≡ x
stored_back x e =
    let p = reached_back x (number_within (reached x) e) in
    reached_same x (record { low = omega (arith, signed, p.low); high = omega (arith, signed, p.high) })

stored_alike : (x : ℤ) → is_stored (reached x) ≡ is_stored x
stored_alike x = by (is_stored (reached x)) (is_stored x) refl refl
  where
    by : (told meant : Bool) → is_stored (reached x) ≡ told → is_stored x ≡ meant → is_stored (reached x) ≡ is_stored x
    by true meant e f = ap is_stored (stored_back x e)
    by false true e f = ap is_stored (stored_same x f)
    by false false e f = e ∙ sym f

pub reached_in : (x : ℤ) → IsWithin (2 ^ 60) (reached x)
unfolding reached
reached_in x = record { low = omega (arith, signed); high = omega (arith, signed) }

-- where a part begins in an element that isn't too wide
pub turned_in : (rtl : Bool) (whole part x : ℤ) → IsWithin (2 ^ 52) whole → IsWithin (2 ^ 52) part → IsWithin (2 ^ 52) x
    → IsWithin (2 ^ 54) (turned rtl whole part x)
unfolding mirrored
turned_in true whole part x w p h = record { low = omega (arith, signed, w.low, w.high, p.low, p.high, h.low, h.high); high = omega (arith, signed, w.low, w.high, p.low, p.high, h.low, h.high) }
turned_in false whole part x w p h = record { low = omega (arith, signed, h.low, h.high); high = omega (arith, signed, h.low, h.high) }

-- ---- where a part is told to begin

-- where it begins, from right to left and from left to right
pub turned_back : (rtl : Bool) (whole part x told y : ℤ) → FitsSigned w64 whole → FitsSigned w64 x → IsWithin (2 ^ 66) part → FitsSigned w128 told
    → y ≡ to_z w128 (of_z w128 told) → told ≡ mirrored (to_z w64 (of_z w64 whole)) (to_z w128 (of_z w128 part)) (to_z w64 (of_z w64 x)) → rtl ≡ true
    → y ≡ turned rtl whole part x
turned_back rtl whole part x told y f g p h is told_is right =
    is
    ∙ to_z-of_z w128 told h
    ∙ told_is
    ∙ (λ i. mirrored (to_z-of_z w64 whole f i) (back128 p (lit< tt) i) (to_z-of_z w64 x g i))
    ∙ ap (λ (r : Bool). turned r whole part x) (sym right)

pub unturned : (rtl : Bool) (whole part x told y : ℤ) → FitsSigned w64 x → FitsSigned w128 told
    → y ≡ to_z w128 (of_z w128 told) → told ≡ to_z w64 (of_z w64 x) → rtl ≡ false → y ≡ turned rtl whole part x
unturned rtl whole part x told y g h is told_is left =
    is ∙ to_z-of_z w128 told h ∙ told_is ∙ to_z-of_z w64 x g ∙ ap (λ (r : Bool). turned r whole part x) (sym left)

-- as far as places reach
pub reached_by : (x low told : ℤ) → FitsSigned w128 low → low ≡ int_min x (pos (2 ^ 60))
    → told ≡ int_max (to_z w128 (of_z w128 low)) (neg_ℤ (pos (2 ^ 60))) → told ≡ reached x
unfolding reached
reached_by x low told f low_is told_is =
    told_is ∙ ap (λ (z : ℤ). int_max z (neg_ℤ (pos (2 ^ 60)))) (to_z-of_z w128 low f ∙ low_is)

pub reached_within : (x told : ℤ) → told ≡ reached x → IsWithin (2 ^ 61 + 2 ^ 52) told
reached_within x told is = widened (2 ^ 61 + 2 ^ 52) (subst (IsWithin (2 ^ 60)) (sym is) (reached_in x)) (lit≤ tt)

-- the child at a place
pub placed_is : (e : Element) (context : Context) (own frame : MathBox) (kid : ℕ) (x y part told : ℤ)
    → FitsSigned w64 own.width → FitsSigned w64 frame.width → FitsSigned w64 x → FitsSigned w64 y → FitsSigned w64 told
    → context ≡ e.context → own ≡ frame_at e kid → part ≡ to_z w64 (of_z w64 own.width)
    → told ≡ reached (turned context.style.rtl (to_z w64 (of_z w64 frame.width)) (to_z w128 (of_z w128 part)) (to_z w64 (of_z w64 x)))
    → offset kid (to_z w64 (of_z w64 told)) (to_z w64 (of_z w64 y)) ≡ offset_reached (placed_in e frame kid x y)
placed_is e context own frame kid x y part told f g h k l same own_is part_is told_is =
    let wide : to_z w128 (of_z w128 part) ≡ (frame_at e kid).width = told_wide own.width part f part_is ∙ ap (λ (b : MathBox). b.width) own_is in
    let begins : to_z w64 (of_z w64 told) ≡ reached (turned e.context.style.rtl frame.width (frame_at e kid).width x) =
    to_z-of_z w64 told l ∙ told_is
    ∙ (λ i. reached (turned (same i).style.rtl (to_z-of_z w64 frame.width g i) (wide i) (to_z-of_z w64 x h i))) in
    λ i. offset kid (begins i) (to_z-of_z w64 y k i)

-- ---- offsets and marks

offset_alike : (o : Offset) → offset_fits (offset_reached o) ≡ offset_fits o
unfolding offset_fits
offset_alike o = ap (λ (b : Bool). b && is_stored o.y) (stored_alike o.x)

offset_same : (o : Offset) → offset_fits o ≡ true → offset_reached o ≡ o
unfolding offset_fits
offset_same o e = ap (λ (x : ℤ). record o { x = x }) (stored_same o.x (and_parts (is_stored o.x) (is_stored o.y) e).0)

mark_alike : (mark : Mark) → mark_fits (mark_reached mark) ≡ mark_fits mark
unfolding mark_fits
mark_alike (Glyph x y size glyph) = ap (λ (b : Bool). b && is_stored y && is_stored size) (stored_alike x)
mark_alike (Rule x y width height) = ap (λ (b : Bool). b && is_stored y && is_stored width && is_stored height) (stored_alike x)
mark_alike (Built x y size axis glyph count overlap) = ap (λ (b : Bool). b && is_stored y && is_stored size) (stored_alike x)

first_of_three : (a b c : Bool) → (a && b && c) ≡ true → a ≡ true
first_of_three a b c e = (and_parts a b (and_parts (a && b) c e).0).0

first_of_four : (a b c d : Bool) → (a && b && c && d) ≡ true → a ≡ true
first_of_four a b c d e = first_of_three a b c (and_parts (a && b && c) d e).0

mark_same : (mark : Mark) → mark_fits mark ≡ true → mark_reached mark ≡ mark
unfolding mark_fits
mark_same (Glyph x y size glyph) e =
    ap (λ (z : ℤ). Glyph z y size glyph) (stored_same x (first_of_three (is_stored x) (is_stored y) (is_stored size) e))
mark_same (Rule x y width height) e =
    ap (λ (z : ℤ). Rule z y width height) (stored_same x (first_of_four (is_stored x) (is_stored y) (is_stored width) (is_stored height) e))
mark_same (Built x y size axis glyph count overlap) e =
    ap (λ (z : ℤ). Built z y size axis glyph count overlap) (stored_same x (first_of_three (is_stored x) (is_stored y) (is_stored size) e))

all_alike : {A : Type 0} (test : A → Bool) (f : A → A) → ((x : A) → test (f x) ≡ test x) → (xs : List A)
    → list_all test (map f xs) ≡ list_all test xs
all_alike test f h [] = refl
all_alike test f h (x ∷ xs) = λ i. h x i && all_alike test f h xs i

all_same : {A : Type 0} (test : A → Bool) (f : A → A) → ((x : A) → test x ≡ true → f x ≡ x) → (xs : List A)
    → list_all test xs ≡ true → map f xs ≡ xs
all_same test f h [] e = refl
all_same test f h (x ∷ xs) e =
    let parts = and_parts (test x) (list_all test xs) e in
    λ i. h x parts.0 i ∷ all_same test f h xs parts.1 i

-- ---- outcomes

-- which is the same where it can be stored, and else can't be stored either
told_by : (exact made : Outcome) (fits : Bool) → outcome_fits exact ≡ fits → (outcome_fits exact ≡ true → made ≡ exact)
    → outcome_fits made ≡ outcome_fits exact → IsOutcome exact made
told_by exact made true e same alike = inl (same e)
told_by exact made false e same alike = inr (e, alike ∙ e)

module _ (e : Element) (frame : MathBox) (offsets : List Offset) (marks : List Mark) where
  abbrev exact : Outcome
  exact = outcome e frame offsets marks

  abbrev made : Outcome
  made = outcome e frame (map offset_reached offsets) (map mark_reached marks)

  made_alike : outcome_fits made ≡ outcome_fits exact
  unfolding outcome_with outcome_fits
  made_alike =
      λ i. answer_fits exact.answer && all_alike offset_fits offset_reached offset_alike offsets i
      && all_alike mark_fits mark_reached mark_alike marks i

  made_same : outcome_fits exact ≡ true → made ≡ exact
  unfolding outcome_with outcome_fits
  made_same fits =
      let parts = and_parts (answer_fits exact.answer && list_all offset_fits offsets) (list_all mark_fits marks) fits in
      let two = and_parts (answer_fits exact.answer) (list_all offset_fits offsets) parts.0 in
      λ i. outcome e frame (all_same offset_fits offset_reached offset_same offsets two.1 i)
      (all_same mark_fits mark_reached mark_same marks parts.1 i)

  -- where offsets and marks are told as far as places reach
  pub told : IsOutcome exact made
  told = told_by exact made (outcome_fits exact) refl made_same made_alike

  -- the same where offsets are exact
  abbrev marked : Outcome
  marked = outcome e frame offsets (map mark_reached marks)

  marked_alike : outcome_fits marked ≡ outcome_fits exact
  unfolding outcome_with outcome_fits
  marked_alike =
      λ i. answer_fits exact.answer && list_all offset_fits offsets && all_alike mark_fits mark_reached mark_alike marks i

  marked_same : outcome_fits exact ≡ true → marked ≡ exact
  unfolding outcome_with outcome_fits
  marked_same fits =
      let parts = and_parts (answer_fits exact.answer && list_all offset_fits offsets) (list_all mark_fits marks) fits in
      λ i. outcome e frame offsets (all_same mark_fits mark_reached mark_same marks parts.1 i)

  pub marks_told : IsOutcome exact marked
  marks_told = told_by exact marked (outcome_fits exact) refl marked_same marked_alike
