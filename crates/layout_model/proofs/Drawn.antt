-- The marks of an outcome name glyphs of the font.
use Rattle.std.proofs.Common.{◌≡◌, ◌∙◌, refl, ap, ℕ, zero, suc, ◌-◌, ◌<◌, Bool, true, false, ◌&&◌, cond, codes, nat_eq, List, [], ◌∷◌, length, All, Option, Some, None, ℤ, pos, slice_get}
use Rattle.std.specs.Prelude.{⊤, find, IsSome, int_lt, if◌then◌else◌, unwrap_or}
use Rattle.std.proofs.lemmas.Bool.{lt-ltb}
use Rattle.std.proofs.lemmas.List.Elements.{All-head, All-tail, All-weaker}
use Rattle.std.proofs.lemmas.List.Folds.{list_all-append}
use Rattle.std.specs.List.{list_all}
use Rattle.std.specs.Option.{IfSome, option_map, option_map_or}
use Rattle.embellished.specs.Forms.{properties_at}
use Rattle.embellished.specs.declared.facts.Core.{Core}
use Rattle.fixed_units.specs.Sums.{list_to}
use Rattle.fixed_units.specs.declared.boxes.MathBox.{MathBox}
use Rattle.fixed_units.specs.declared.pull.Pull.{Pull}
use Rattle.fixed_units.specs.declared.pull.Pull.TheVariants.{Free, Block, Inline}
use Rattle.font_metrics.proofs.Bounds.{variants_are_variants}
use Rattle.font_metrics.proofs.Places.{place_below, place_within}
use Rattle.font_metrics.specs.Metrics.{MetricsValue, missing_place, place_of_letter, place_of_name, parts_of, variants_of}
use Rattle.font_metrics.specs.Taken.{IsCharacter, IsTaken, IsVariant}
use Rattle.font_metrics.specs.declared.glyph.GlyphId.{GlyphId}
use Rattle.font_metrics.specs.declared.growth.Variant.{Variant as LargerGlyph}
use Rattle.font_metrics.specs.declared.mark.Mark.{Mark}
use Rattle.font_metrics.specs.declared.mark.Mark.TheVariants.{Glyph, Rule, Built as Assembly}
use Rattle.fractions.specs.Equation.{rule_shifts_of, stack_shifts_of}
use Rattle.fractions.specs.Lengths.{rule_lengths_of, stack_lengths_of}
use Rattle.fractions.specs.Placing.{placed_of, with_rule_of}
use Rattle.fractions.specs.declared.parts.Shifts.{Shifts}
use Rattle.glyph_assembly.specs.Counts.{grows}
use Rattle.glyph_assembly.specs.Pieces.{sums_of}
use Rattle.glyph_assembly.specs.Shaping.{assembly_of, assembly_or_glyph, base, display_of, first_reaching, larger, largest_glyph, mark_of, reaches, shaped_of}
use Rattle.glyph_assembly.specs.declared.shapes.Shape.{Shape}
use Rattle.glyph_assembly.specs.declared.shapes.Shape.TheVariants.{Base, Variant, Built}
use Rattle.glyph_assembly.specs.declared.shapes.Shaped.{Shaped}
use Rattle.math_tree.specs.declared.attributes.Attribute.{Attribute}
use Rattle.math_tree.specs.declared.node.Head.{Head}
use Rattle.math_tree.specs.declared.kind.Kind.{Kind}
use Rattle.math_tree.specs.declared.kind.Kind.TheVariants.{Merror, Mfrac, Mi, Mmultiscripts, Mn, Mo, Mover, Mpadded, Mroot, Ms, Mspace, Msqrt, Msub, Msubsup, Msup, Mtable, Mtd, Mtext, Mtr, Munder, Munderover}
use Rattle.op_dictionary.specs.declared.operator.Axis.{Axis}
use Rattle.op_dictionary.specs.declared.operator.Axis.TheVariants.{Block as Upward, Inline as Sideways}
use Rattle.op_dictionary.specs.declared.operator.Form.{Form}
use Rattle.op_dictionary.specs.declared.operator.Properties.{Properties}
use Rattle.radicals.specs.Equation.{root_start_of}
use Rattle.radicals.specs.Lengths.{index_lengths_of}
use Rattle.radicals.specs.Placing.{covered_of, root_of, root_with_index_of, with_index_of}
use Rattle.style_scope.specs.declared.style.Style.{Style}
use Rattle.token_boxes.specs.Letters.{letters_of, lone, slanted}
use Rattle.token_boxes.specs.Operator.{large, lone_operator, lowered_glyph, operator_of, sideways, unspaced_leaf, upward}
use Rattle.token_boxes.specs.Token.{glyph_of, inks_of, leaf_of, lone_letter, mark_at, marks_of, token_of, word_leaf}
use Rattle.token_boxes.specs.declared.leaf.Drawn.{Drawn}
use Rattle.token_boxes.specs.declared.leaf.Leaf.{Leaf}
use Rattle.layout_model.specs.Direction.{turned_mark}
use Rattle.span_tables.specs.declared.cells.CellSpan.{CellSpan}
use Rattle.layout_model.specs.Elements.{Element, font, frame_at, outcome_with, row_in}
use Rattle.layout_model.specs.Equations.{fraction_outcome, marks_if, multi_outcome, operator_outcome, operator_with, outcome_by, over_outcome, root_outcome, space_outcome, square_root_outcome, sub_outcome, sub_sup_outcome, sup_outcome, thickness_of, token_outcome, under_outcome, under_over_outcome}
use Rattle.layout_model.specs.Questions.{has_moved_limits}
use Rattle.layout_model.specs.Laid.{draws_of_font, is_of_font}
use Rattle.layout_model.specs.declared.outcome.Offset.{Offset}
use Rattle.layout_model.specs.declared.outcome.Outcome.{Outcome}

-- ---- lists

-- what is found in a list is one of it
found_in : {A : Type 0} (P : A → Type 0) (test : A → Bool) (xs : List A) → All P xs → IfSome (find test xs) P
found_in P test [] all = tt
found_in P test (x ∷ xs) all = by (test x) (found_in P test xs (All-tail P x xs all))
  where
    by : (b : Bool) → IfSome (find test xs) P → IfSome (cond b (Some x) (find test xs)) P
    by true rest = All-head P x xs all
    by false rest = rest

at_in : {A : Type 0} (P : A → Type 0) (xs : List A) (i : ℕ) → All P xs → IfSome (slice_get xs i) P
at_in P [] i all = tt
at_in P (x ∷ xs) zero all = All-head P x xs all
at_in P (x ∷ xs) (suc i) all = at_in P xs i (All-tail P x xs all)

pub both_true : (a b : Bool) → a ≡ true → b ≡ true → (a && b) ≡ true
both_true a b e f = ap (λ (x : Bool). x && b) e ∙ f

-- a test that passes at each place passes at all
pub listed_pass : {A : Type 0} (test : A → Bool) (n : ℕ) (f : ℕ → A) → ((i : ℕ) → test (f i) ≡ true) → list_all test (list_to n f) ≡ true
unfolding list_to
listed_pass test zero f h = refl
listed_pass test (suc n) f h =
    list_all-append test (list_to n f) (f n ∷ [])
    ∙ both_true (list_all test (list_to n f)) (test (f n) && true) (listed_pass test n f h) (both_true (test (f n)) true (h n) refl)

-- ---- the glyphs of a font

module _ (m : MetricsValue) (taken : IsTaken m) where
  abbrev IsGlyph : GlyphId → Type 0
  IsGlyph glyph = glyph.0 < length m.glyphs

  missing_within : missing_place m < length m.glyphs
  unfolding missing_place
  missing_within = by (place_of_name m.glyphs (codes "missing")) refl taken.missing
    where
      by : (found : Option ℕ) → place_of_name m.glyphs (codes "missing") ≡ found → IsSome found → unwrap_or found 0 < length m.glyphs
      by None e some = absurd cc
      by (Some place) e some = place_within m.glyphs (codes "missing") place e

  letter_within : (letter : ℕ) → place_of_letter m letter < length m.glyphs
  unfolding place_of_letter
  letter_within letter =
      place_below (nat_eq letter) m.characters (length m.glyphs) (missing_place m)
      (All-weaker (IsCharacter (length m.glyphs)) (λ c. c.1 < length m.glyphs) (λ c k. k.1) m.characters taken.characters) missing_within

  abbrev IsShape : Shape → Type 0
  IsShape (Variant glyph) = IsGlyph glyph
  IsShape other = ⊤

  drawn_as : (shape : Shape) (glyph : GlyphId) (axis : Axis) (x y size : ℤ) → IsGlyph glyph → IsShape shape
      → is_of_font m (mark_of shape glyph axis x y size) ≡ true
  drawn_as Base glyph axis x y size g s = lt-ltb glyph.0 (length m.glyphs) g
  drawn_as (Variant other) glyph axis x y size g s = lt-ltb other.0 (length m.glyphs) s
  drawn_as (Built count overlap) glyph axis x y size g s = lt-ltb glyph.0 (length m.glyphs) g

  chosen : (b : Bool) (one two : Shaped) → IsShape one.shape → IsShape two.shape → IsShape (if b then one else two).shape
  chosen true one two h k = h
  chosen false one two h k = k

  or_else : (size : ℤ) (found : Option GlyphId) (other : Shaped) → IfSome found IsGlyph → IsShape other.shape
      → IsShape (option_map_or (larger m size) found other).shape
  or_else size None other h k = k
  or_else size (Some glyph) other h k = h

  first_known : (size target : ℤ) (variants : List LargerGlyph) → All (IsVariant (length m.glyphs)) variants
      → IfSome (first_reaching m size target variants) IsGlyph
  first_known size target variants all = by (find (reaches m size target) variants) (found_in (IsVariant (length m.glyphs)) (reaches m size target) variants all)
    where
      by : (found : Option LargerGlyph) → IfSome found (IsVariant (length m.glyphs)) → IfSome (option_map (λ variant. variant.glyph) found) IsGlyph
      by None h = tt
      by (Some variant) h = h.glyph

  largest_known : (place : ℕ) (size : ℤ) (variants : List LargerGlyph) → All (IsVariant (length m.glyphs)) variants
      → IsShape (largest_glyph m place size variants).shape
  largest_known place size variants all = by (slice_get variants (length variants - 1)) (at_in (IsVariant (length m.glyphs)) variants (length variants - 1) all)
    where
      by : (found : Option LargerGlyph) → IfSome found (IsVariant (length m.glyphs))
          → IsShape (option_map_or (λ variant. larger m size variant.glyph) found (base m place size)).shape
      by None h = tt
      by (Some variant) h = h.glyph

  assembled : (place : ℕ) (axis : Axis) (target size : ℤ) → IsShape (assembly_or_glyph m place axis target size).shape
  unfolding assembly_of
  assembled place axis target size =
      chosen (grows (sums_of m size (parts_of m place axis))) (assembly_of m (parts_of m place axis) axis target size) (largest_glyph m place size (variants_of m place axis))
      tt (largest_known place size (variants_of m place axis) (variants_are_variants m place axis taken))

  shaped_known : (place : ℕ) (axis : Axis) (target size : ℤ) → IsShape (shaped_of m place axis target size).shape
  unfolding shaped_of
  shaped_known place axis target size =
      chosen _ (base m place size) _ tt
      (or_else size (first_reaching m size target (variants_of m place axis)) (assembly_or_glyph m place axis target size)
      (first_known size target (variants_of m place axis) (variants_are_variants m place axis taken)) (assembled place axis target size))

  display_known : (place : ℕ) (size : ℤ) → IsShape (display_of m place size).shape
  unfolding display_of
  display_known place size =
      let variants = variants_of m place Upward in
      let all = variants_are_variants m place Upward taken in
      or_else size _ (largest_glyph m place size variants) (first_known size _ variants all) (largest_known place size variants all)

  -- ---- leaves

  abbrev IsDrawn : Drawn → Type 0
  IsDrawn drawn = is_of_font m drawn.mark ≡ true

  abbrev IsOfFont : List Mark → Type 0
  IsOfFont marks = list_all (is_of_font m) marks ≡ true

  abbrev IsLeaf : Leaf → Type 0
  IsLeaf leaf = IsOfFont leaf.marks

  one_mark : (drawn : Drawn) → IsDrawn drawn → IsLeaf (leaf_of drawn)
  one_mark drawn h = both_true (is_of_font m drawn.mark) true h refl

  lone_known : (size : ℤ) (letter : ℕ) → IsDrawn (lone_letter m size letter)
  unfolding lone_letter
  lone_known size letter = lt-ltb (place_of_letter m letter) (length m.glyphs) (letter_within letter)

  either : {A : Type 0} (found : Option A) (one : A → Leaf) (other : Leaf) → ((x : A) → IsLeaf (one x)) → IsLeaf other
      → IsLeaf (option_map_or one found other)
  either None one other h k = k
  either (Some x) one other h k = h x

  word_known : (size : ℤ) (letters : List ℕ) → IsLeaf (word_leaf m size letters)
  unfolding word_leaf marks_of
  word_known size letters =
      either (inks_of m size letters) _ _
      (λ inks. listed_pass (is_of_font m) (length letters) (mark_at m size letters) (λ i. lt-ltb _ (length m.glyphs) (letter_within _))) refl

  pub token_known : (head : Head) (size : ℤ) → IsLeaf (token_of m head size)
  unfolding token_of
  token_known head size =
      either (lone (letters_of head)) _ _ (λ letter. one_mark (lone_letter m size (slanted head letter)) (lone_known size (slanted head letter))) (word_known size (letters_of head))

  lowered_known : (size : ℤ) (letter : ℕ) (axis : Axis) (shaped : Shaped) (drop : ℤ) → IsShape shaped.shape
      → IsDrawn (lowered_glyph size (glyph_of m letter) axis shaped drop)
  unfolding lowered_glyph
  lowered_known size letter axis shaped drop h = drawn_as shaped.shape (glyph_of m letter) axis (pos 0) drop size (letter_within letter) h

  large_known : (size : ℤ) (symmetric : Bool) (letter : ℕ) → IsDrawn (large m size symmetric letter)
  unfolding large
  large_known size symmetric letter = lowered_known size letter Upward _ _ (display_known (place_of_letter m letter) size)

  upward_known : (size : ℤ) (letter : ℕ) (span : ℤ × ℤ) → IsDrawn (upward m size letter span)
  unfolding upward
  upward_known size letter span = lowered_known size letter Upward _ _ (shaped_known (place_of_letter m letter) Upward _ size)

  sideways_known : (size : ℤ) (letter : ℕ) (span : ℤ × ℤ) → IsDrawn (sideways m size letter span)
  unfolding sideways
  sideways_known size letter span = lowered_known size letter Sideways _ _ (shaped_known (place_of_letter m letter) Sideways _ size)

  lone_operator_known : (size : ℤ) (attributes : List Attribute) (properties : Properties) (display : Bool) (pull : Pull) (letter : ℕ)
      → IsDrawn (lone_operator m size attributes properties display pull letter)
  lone_operator_known size attributes properties display Free letter = by (properties.largeop && display)
    where
      by : (b : Bool) → IsDrawn (if b then large m size properties.symmetric letter else lone_letter m size letter)
      by true = large_known size properties.symmetric letter
      by false = lone_known size letter
  lone_operator_known size attributes properties display (Block ascent descent) letter = upward_known size letter _
  lone_operator_known size attributes properties display (Inline width) letter = sideways_known size letter _

  unspaced_known : (size : ℤ) (head : Head) (properties : Properties) (display : Bool) (pull : Pull)
      → IsLeaf (unspaced_leaf m size head properties display pull)
  unspaced_known size head properties display pull =
      either (lone (letters_of head)) _ _
      (λ letter. one_mark (lone_operator m size head.attributes properties display pull letter) (lone_operator_known size head.attributes properties display pull letter)) (word_known size (letters_of head))

  pub operator_known : (head : Head) (core : Core) (style : Style) (size : ℤ) (form : Form) (pull : Pull)
      → IsLeaf (operator_of m head core style size form pull)
  unfolding operator_of
  operator_known head core style size form pull = unspaced_known size head (properties_at core form m.operators) style.display pull

  -- ---- roots

  pub root_known : (row : MathBox) (start : ℤ) (display : Bool) (size : ℤ)
      → IsOfFont ((root_of m row start display size).surd ∷ (root_of m row start display size).rule ∷ [])
  unfolding root_of covered_of
  root_known row start display size =
      both_true _ _ (drawn_as _ _ Upward _ _ size (letter_within 0x221A) (shaped_known (place_of_letter m 0x221A) Upward _ size)) refl

  -- where marks are mirrored, their glyphs stay
  turned_known : (rtl : Bool) (whole part : ℤ) (mark : Mark) → is_of_font m (turned_mark rtl whole part mark) ≡ is_of_font m mark
  turned_known rtl whole part (Glyph x y size glyph) = refl
  turned_known rtl whole part (Rule x y width height) = refl
  turned_known rtl whole part (Assembly x y size axis glyph count overlap) = refl

  pub marks_known : (rtl : Bool) (whole first second : ℤ) (surd rule : Mark) → IsOfFont (surd ∷ rule ∷ [])
      → IsOfFont (turned_mark rtl whole first surd ∷ turned_mark rtl whole second rule ∷ [])
  marks_known rtl whole first second surd rule h =
      (λ i. turned_known rtl whole first surd i && (turned_known rtl whole second rule i && true)) ∙ h

-- ---- fractions

rule_known : (m : MetricsValue) (b : Bool) (top bottom : MathBox) (ruled stacked : Shifts) (axis thickness : ℤ)
    → list_all (is_of_font m) (marks_if (if b then with_rule_of (placed_of top bottom ruled) axis thickness else placed_of top bottom stacked).rule) ≡ true
unfolding placed_of with_rule_of
rule_known m true top bottom ruled stacked axis thickness = refl
rule_known m false top bottom ruled stacked axis thickness = refl

-- ---- each kind of element

abbrev IsOutcome : Element → Outcome → Type 0
IsOutcome e o = draws_of_font e.metrics o ≡ true

module _ (e : Element) (taken : IsTaken e.metrics) where
  one_of : (b : Bool) (one two : Outcome) → IsOutcome e one → IsOutcome e two → IsOutcome e (if b then one else two)
  one_of true one two h k = h
  one_of false one two h k = k

  operator_drawn : IsOutcome e (operator_outcome e)
  unfolding operator_outcome token_outcome draws_of_font
  operator_drawn = by e.seen.facts.core
    where
      by : (core : Option Core) → list_all (is_of_font e.metrics) (option_map_or (operator_with e) core (token_outcome e)).marks ≡ true
      by None = token_known e.metrics taken e.seen.head (font e)
      by (Some core) = operator_known e.metrics taken e.seen.head core e.context.style (font e) e.context.form _

  fraction_drawn : IsOutcome e (fraction_outcome e)
  unfolding outcome_with draws_of_font
  fraction_drawn =
      let size = font e in
      let lengths = rule_lengths_of e.metrics size e.context.style.display in
      rule_known e.metrics (int_lt (pos 0) (thickness_of e)) (frame_at e 0) (frame_at e 1)
      (rule_shifts_of lengths (frame_at e 0) (frame_at e 1) (thickness_of e))
      (stack_shifts_of (stack_lengths_of e.metrics size e.context.style.display) (frame_at e 0) (frame_at e 1)) lengths.axis (thickness_of e)

  leaf_drawn : IsOutcome e (token_outcome e)
  unfolding token_outcome draws_of_font
  leaf_drawn = token_known e.metrics taken e.seen.head (font e)

  space_drawn : IsOutcome e (space_outcome e)
  unfolding space_outcome draws_of_font
  space_drawn = refl

  square_root_drawn : IsOutcome e (square_root_outcome e)
  unfolding outcome_with draws_of_font
  square_root_drawn =
      marks_known e.metrics taken e.context.style.rtl _ _ _ _ _
      (root_known e.metrics taken (row_in e).frame (pos 0) e.context.style.display (font e))

  root_drawn : IsOutcome e (root_outcome e)
  unfolding outcome_with draws_of_font root_with_index_of with_index_of
  root_drawn =
      marks_known e.metrics taken e.context.style.rtl _ _ _ _ _
      (root_known e.metrics taken (frame_at e 0) (root_start_of (index_lengths_of e.metrics (font e)) (frame_at e 1)) e.context.style.display (font e))

  scripts_drawn : IsOutcome e (multi_outcome e)
  unfolding multi_outcome outcome_with draws_of_font
  scripts_drawn = refl

  -- elements that draw nothing themselves
  nothing : (frame : MathBox) (cells : List ℤ) (spans : List CellSpan) (offsets : List Offset) → IsOutcome e (outcome_with e frame cells spans offsets [])
  unfolding outcome_with draws_of_font
  nothing frame cells spans offsets = refl

  pub drawn : (kind : Kind) → IsOutcome e (outcome_by kind e)
  unfolding outcome_by
  drawn Merror = nothing _ _ _ _
  drawn Mfrac = fraction_drawn
  drawn Mi = leaf_drawn
  drawn Mmultiscripts = scripts_drawn
  drawn Mn = leaf_drawn
  drawn Mo = operator_drawn
  drawn Mover = one_of (has_moved_limits e.metrics e.seen e.context) (sup_outcome e) (over_outcome e) (nothing _ _ _ _) (nothing _ _ _ _)
  drawn Mpadded = nothing _ _ _ _
  drawn Mroot = root_drawn
  drawn Ms = leaf_drawn
  drawn Mspace = space_drawn
  drawn Msqrt = square_root_drawn
  drawn Msub = nothing _ _ _ _
  drawn Msubsup = nothing _ _ _ _
  drawn Msup = nothing _ _ _ _
  drawn Mtable = nothing _ _ _ _
  drawn Mtd = nothing _ _ _ _
  drawn Mtext = leaf_drawn
  drawn Mtr = nothing _ _ _ _
  drawn Munder = one_of (has_moved_limits e.metrics e.seen e.context) (sub_outcome e) (under_outcome e) (nothing _ _ _ _) (nothing _ _ _ _)
  drawn Munderover = one_of (has_moved_limits e.metrics e.seen e.context) (sub_sup_outcome e) (under_over_outcome e) (nothing _ _ _ _) (nothing _ _ _ _)
  drawn other = nothing _ _ _ _
