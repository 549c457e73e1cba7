-- What is placed names glyphs of the font, where the marks of the laid-out tree do.
use Rattle.std.proofs.Common.{◌≡◌, ◌∙◌, sym, ap, subst, Bool, true, false, List, [], ◌∷◌, ◌++◌, length, map, All, ℤ, ◌+ℤ◌}
use Rattle.std.specs.Prelude.{if◌then◌else◌}
use Rattle.std.proofs.lemmas.Bool.{and_parts, ltb-true}
use Rattle.std.proofs.lemmas.List.Elements.{All-append, All-cons, All-nil}
use Rattle.std.specs.List.{AllByRecursion, list_all}
use Rattle.font_metrics.specs.Metrics.{MetricsValue}
use Rattle.font_metrics.specs.declared.mark.Mark.{Mark}
use Rattle.font_metrics.specs.declared.mark.Mark.TheVariants.{Glyph, Rule, Built}
use Rattle.layout_model.proofs.LaidTrees.{outcomes_out}
use Rattle.layout_model.specs.Laid.{all_outcomes, draws_of_font, is_of_font}
use Rattle.layout_model.specs.declared.laid.Laid.{Laid}
use Rattle.layout_model.specs.declared.laid.Laid.TheFolds.{ind-Laid}
use Rattle.layout_model.specs.declared.laid.Laid.TheOpen.{Laid-F}
use Rattle.layout_model.specs.declared.laid.Laid.TheViews.{out-Laid, out-roll-Laid, roll-Laid}
use Rattle.layout_model.specs.declared.outcome.Offset.{Offset}
use Rattle.box_writer.specs.Items.{IsOfFont, box_of, moved}
use Rattle.box_writer.specs.declared.placed.PlacedItem.TheVariants.{Drawn}
use Rattle.placement.specs.Laws.{GlyphLaw}
use Rattle.placement.specs.Placing.{is_silent, kids_at, marks_at, placed}
use Rattle.placement.proofs.Showing.{from_layer, placed_out}

-- ---- induction over a laid-out tree

all_first : (P : Laid → Type 0) (ys : List ((l : Laid) × P l)) → AllByRecursion P (map (λ y. y.0) ys)
all_first P [] = tt
all_first P (y ∷ ys) = (y.1, all_first P ys)

pub by_kids : (P : Laid → Type 0) → ((l : Laid) → AllByRecursion P (out-Laid l).kids → P l) → (l : Laid) → P l
by_kids P step = ind-Laid P (λ x y is.
    let kids : (out-Laid (roll-Laid x)).kids ≡ map (λ e. e.0) y.kids = ap (λ (l : Laid-F Laid). l.kids) (out-roll-Laid x ∙ sym is) in
    step (roll-Laid x) (subst (AllByRecursion P) (sym kids) (all_first P y.kids)))

module _ (m : MetricsValue) where
  -- ---- marks

  mark_known : (x y : ℤ) (mark : Mark) → is_of_font m mark ≡ true → IsOfFont m (Drawn (moved x y mark))
  mark_known right down (Glyph x y size glyph) e = ltb-true glyph.0 (length m.glyphs) e
  mark_known right down (Rule x y width height) e = tt
  mark_known right down (Built x y size axis glyph count overlap) e = ltb-true glyph.0 (length m.glyphs) e

  marks_known : (x y : ℤ) (marks : List Mark) → list_all (is_of_font m) marks ≡ true → All (IsOfFont m) (marks_at x y marks)
  marks_known x y [] e = All-nil (IsOfFont m)
  marks_known x y (mark ∷ marks) e =
      let parts = and_parts (is_of_font m mark) (list_all (is_of_font m) marks) e in
      All-cons (IsOfFont m) (Drawn (moved x y mark)) (marks_at x y marks) (mark_known x y mark parts.0) (marks_known x y marks parts.1)

  -- ---- elements

  abbrev IsPlacedOfFont : Laid → Type 0
  IsPlacedOfFont l = (x y : ℤ) → all_outcomes (draws_of_font m) l ≡ true → All (IsOfFont m) (placed l x y)

  kids_known : (x y : ℤ) (offsets : List Offset) (kids : List Laid) → AllByRecursion IsPlacedOfFont kids
      → list_all (λ kid. kid) (map (all_outcomes (draws_of_font m)) kids) ≡ true → All (IsOfFont m) (kids_at x y offsets (map placed kids))
  kids_known x y [] [] h e = All-nil (IsOfFont m)
  kids_known x y [] (kid ∷ kids) h e = All-nil (IsOfFont m)
  kids_known x y (offset ∷ offsets) [] h e = All-nil (IsOfFont m)
  kids_known x y (offset ∷ offsets) (kid ∷ kids) h e =
      let parts = and_parts (all_outcomes (draws_of_font m) kid) (list_all (λ k. k) (map (all_outcomes (draws_of_font m)) kids)) e in
      All-append (IsOfFont m) (placed kid (x +ℤ offset.x) (y +ℤ offset.y)) (kids_at x y offsets (map placed kids))
      (h.0 (x +ℤ offset.x) (y +ℤ offset.y) parts.0) (kids_known x y offsets kids h.1 parts.1)

  layer_known : (l : Laid) → AllByRecursion IsPlacedOfFont (out-Laid l).kids → (x y : ℤ) → all_outcomes (draws_of_font m) l ≡ true → All (IsOfFont m) (from_layer l x y)
  unfolding draws_of_font
  layer_known l below x y e = by (is_silent (out-Laid l).head.kind)
    where
      parts : (draws_of_font m (out-Laid l).outcome ≡ true) × (list_all (λ kid. kid) (map (all_outcomes (draws_of_font m)) (out-Laid l).kids) ≡ true)
      parts = and_parts (draws_of_font m (out-Laid l).outcome) (list_all (λ kid. kid) (map (all_outcomes (draws_of_font m)) (out-Laid l).kids)) (sym (outcomes_out (draws_of_font m) l) ∙ e)

      by : (silent : Bool) → All (IsOfFont m) (if silent then [] else box_of (out-Laid l).head x y (out-Laid l).outcome.answer.frame ∷ marks_at x y (out-Laid l).outcome.marks ++ kids_at x y (out-Laid l).outcome.offsets (map placed (out-Laid l).kids))
      by true = All-nil (IsOfFont m)
      by false =
          All-cons (IsOfFont m) (box_of (out-Laid l).head x y (out-Laid l).outcome.answer.frame) (marks_at x y (out-Laid l).outcome.marks ++ kids_at x y (out-Laid l).outcome.offsets (map placed (out-Laid l).kids)) tt
          (All-append (IsOfFont m) (marks_at x y (out-Laid l).outcome.marks) (kids_at x y (out-Laid l).outcome.offsets (map placed (out-Laid l).kids))
          (marks_known x y (out-Laid l).outcome.marks parts.0) (kids_known x y (out-Laid l).outcome.offsets (out-Laid l).kids below parts.1))

  pub placed_known : (l : Laid) → IsPlacedOfFont l
  placed_known = by_kids IsPlacedOfFont (λ l below x y e. subst (All (IsOfFont m)) (sym (placed_out l x y)) (layer_known l below x y e))

pub glyph_law : GlyphLaw
glyph_law m l x y e = placed_known m l x y e
