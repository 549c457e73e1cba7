-- The assemblies that an outcome draws have a font size, and overlaps that aren't large.
use Rattle.std.proofs.Common.{◌≡◌, ◌∙◌, refl, ap, subst, ℕ, zero, suc, ◌+◌, ◌-◌, ◌^◌, ◌≤◌, min, arith, Bool, true, false, ◌&&◌, cond, List, [], ◌∷◌, ◌++◌, length, map, fold, replicate, All, Option, Some, None, ℤ, pos, negsuc, slice_get}
use Rattle.std.specs.Prelude.{⊤, ◌≤ℤ◌, ◌-ℤ◌, int_le, int_lt, nat_le, nat_lt, if◌then◌else◌, unsigned_abs}
use Rattle.std.proofs.lemmas.Bool.{and_parts, le-leb}
use Rattle.std.proofs.lemmas.List.Elements.{All-head, All-tail}
use Rattle.std.specs.List.{AllByRecursion, list_all, reduce}
use Rattle.std.specs.Option.{IfSome, option_map, option_map_or}
use Rattle.embellished.specs.Forms.{properties_at}
use Rattle.embellished.specs.declared.facts.Core.{Core}
use Rattle.fixed_units.specs.Numbers.{IsWithin}
use Rattle.fixed_units.proofs.Signed.{signed}
use Rattle.fixed_units.specs.declared.boxes.MathBox.{MathBox}
use Rattle.fixed_units.specs.declared.pull.Pull.{Pull}
use Rattle.fixed_units.specs.declared.pull.Pull.TheVariants.{Free, Block, Inline}
use Rattle.font_metrics.proofs.Bounds.{length_scale_within, overlap_lies, parts_are_parts}
use Rattle.font_metrics.specs.Metrics.{MetricsValue, overlap_of, parts_of, place_of_letter, variants_of}
use Rattle.font_metrics.specs.Taken.{IsLength, IsPart, IsTaken}
use Rattle.font_metrics.specs.declared.glyph.GlyphId.{GlyphId}
use Rattle.font_metrics.specs.declared.growth.Part.{Part}
use Rattle.font_metrics.specs.declared.growth.Variant.{Variant as LargerGlyph}
use Rattle.font_metrics.specs.declared.mark.Mark.{Mark}
use Rattle.font_metrics.specs.declared.mark.Mark.TheVariants.{Glyph, Rule, Built as Composed}
use Rattle.fractions.specs.Equation.{rule_shifts_of, stack_shifts_of}
use Rattle.fractions.specs.Lengths.{rule_lengths_of, stack_lengths_of}
use Rattle.fractions.specs.Placing.{placed_of, with_rule_of}
use Rattle.fractions.specs.declared.parts.Shifts.{Shifts}
use Rattle.glyph_assembly.specs.Counts.{first_from, greatest_overlap, grows, length_of}
use Rattle.glyph_assembly.specs.Glyphs.{length_at}
use Rattle.glyph_assembly.specs.Pieces.{joints, joints_behind, repeats, sequence, sums_of, widest_overlap}
use Rattle.glyph_assembly.specs.Shaping.{assembly_of, assembly_or_glyph, base, display_of, first_reaching, larger, largest_glyph, mark_of, shaped_of}
use Rattle.glyph_assembly.specs.declared.shapes.Shape.{Shape}
use Rattle.glyph_assembly.specs.declared.shapes.Shape.TheVariants.{Base, Variant, Built}
use Rattle.glyph_assembly.specs.declared.shapes.Shaped.{Shaped}
use Rattle.glyph_assembly.specs.declared.sums.Sums.{Sums}
use Rattle.math_tree.specs.declared.attributes.Attribute.{Attribute}
use Rattle.math_tree.specs.declared.node.Head.{Head}
use Rattle.math_tree.specs.declared.node.Node.{Node}
use Rattle.math_tree.specs.declared.kind.Kind.{Kind}
use Rattle.math_tree.specs.declared.kind.Kind.TheVariants.{Merror, Mfrac, Mi, Mmultiscripts, Mn, Mo, Mover, Mpadded, Mroot, Ms, Mspace, Msqrt, Msub, Msubsup, Msup, Mtable, Mtd, Mtext, Mtr, Munder, Munderover}
use Rattle.op_dictionary.specs.declared.operator.Axis.{Axis}
use Rattle.op_dictionary.specs.declared.operator.Axis.TheVariants.{Block as Upward, Inline as Sideways}
use Rattle.op_dictionary.specs.declared.operator.Form.{Form}
use Rattle.op_dictionary.specs.declared.operator.Properties.{Properties}
use Rattle.radicals.specs.Equation.{root_start_of}
use Rattle.radicals.specs.Lengths.{index_lengths_of}
use Rattle.radicals.specs.Placing.{covered_of, root_of, root_with_index_of, square_root_of, with_index_of}
use Rattle.style_scope.specs.Sizes.{size_of}
use Rattle.style_scope.specs.declared.style.Style.{Style}
use Rattle.token_boxes.specs.Letters.{letters_of, lone, slanted}
use Rattle.token_boxes.specs.Operator.{large, lone_operator, lowered_glyph, operator_of, sideways, unspaced_leaf, upward}
use Rattle.token_boxes.specs.Token.{glyph_of, inks_of, leaf_of, lone_letter, mark_at, marks_of, token_of, word_leaf}
use Rattle.token_boxes.specs.declared.leaf.Drawn.{Drawn}
use Rattle.token_boxes.specs.declared.leaf.Leaf.{Leaf}
use Rattle.span_tables.specs.declared.cells.CellSpan.{CellSpan}
use Rattle.layout_model.proofs.Drawn.{both_true, listed_pass}
use Rattle.layout_model.proofs.Trees.{lay_is}
use Rattle.layout_model.specs.Direction.{turned_mark, x_of}
use Rattle.layout_model.specs.Elements.{Element, font, frame_at, outcome_with, row_in}
use Rattle.layout_model.specs.Equations.{fraction_outcome, marks_if, multi_outcome, operator_outcome, operator_with, outcome_by, over_outcome, root_outcome, space_outcome, square_root_outcome, sub_outcome, sub_sup_outcome, sup_outcome, thickness_of, token_outcome, under_outcome, under_over_outcome}
use Rattle.layout_model.specs.Laid.{all_outcomes}
use Rattle.layout_model.specs.Laws.{answer_of}
use Rattle.layout_model.specs.Layout.{equation, in_range, laid, last_answers, lay, lay_by}
use Rattle.layout_model.specs.Questions.{first, has_moved_limits, second}
use Rattle.layout_model.specs.Range.{is_font_size}
use Rattle.layout_model.specs.declared.context.Context.{Context}
use Rattle.layout_model.specs.declared.outcome.Offset.{Offset}
use Rattle.layout_model.specs.declared.outcome.Outcome.{Outcome}
use Rattle.embellished.specs.Seen.{seen_of}
use Rattle.page_facts.proofs.Sized.{sized_pass}

-- the size of an assembly is a font size, and its pieces don't overlap by more than 2^32 units
abbrev pub is_small : Mark → Bool
is_small (Glyph x y size glyph) = true
is_small (Rule x y width height) = true
is_small (Composed x y size axis glyph count overlap) = is_font_size size && nat_le (unsigned_abs overlap) (2 ^ 32)

unfoldable pub draws_small : Outcome → Bool
draws_small outcome = list_all is_small outcome.marks

-- ---- how far pieces overlap

pub magnitude : (n : ℕ) (z : ℤ) → IsWithin n z → unsigned_abs z ≤ n
magnitude n (pos k) h = let high = h.high in omega (arith, signed)
magnitude n (negsuc k) h = let low = h.low in omega (arith, signed)

overlap_small : (most : ℕ) (s : Sums) (t : ℤ) (k : ℕ) (widest : Option ℕ) → s.overlap ≤ most → IfSome widest (λ w. w ≤ most)
    → greatest_overlap s t k widest ≤ most
unfolding greatest_overlap
overlap_small most s t k None own h = own
overlap_small most s t k (Some w) own h =
    by (nat_lt w s.overlap) (first_from (w - s.overlap) 0 (λ less. int_le t (length_of s k (w - less))))
  where
    by : (b : Bool) (n : ℕ) → (if b then s.overlap else w - n) ≤ most
    by true n = own
    by false n = omega (arith, h)

folded_down : (xs : List ℕ) (x : ℕ) → fold min x xs ≤ x
folded_down [] x = omega arith
folded_down (y ∷ xs) x = omega (arith, folded_down xs (min x y))

module _ (m : MetricsValue) (size : ℤ) where
  abbrev EndsSmall : Part → Type 0
  EndsSmall part = length_at m size part.end ≤ 2 ^ 32

  joints_small : (piece : Part) (pieces : List Part) → EndsSmall piece → IfSome (reduce min (joints_behind m size piece pieces)) (λ w. w ≤ 2 ^ 32)
  joints_small piece [] h = tt
  joints_small piece (next ∷ pieces) h =
      omega (arith, h, folded_down (joints_behind m size next pieces) (min (length_at m size piece.end) (length_at m size next.start)))

  widest_small : (count : ℕ) (parts : List Part) → AllByRecursion EndsSmall parts → IfSome (reduce min (joints m size (sequence count parts))) (λ w. w ≤ 2 ^ 32)
  widest_small count [] h = tt
  widest_small count (part ∷ parts) h = by (widest_small count parts h.1) (repeats count part)
    where
      by : IfSome (reduce min (joints m size (sequence count parts))) (λ w. w ≤ 2 ^ 32) → (n : ℕ)
          → IfSome (reduce min (joints m size (replicate n part ++ sequence count parts))) (λ w. w ≤ 2 ^ 32)
      by rest zero = rest
      by rest (suc n) = joints_small part (replicate n part ++ sequence count parts) h.0

module _ (m : MetricsValue) (taken : IsTaken m) (size : ℤ) (sized : is_font_size size ≡ true) where
  low : pos 0 ≤ℤ size
  low = let p = and_parts (int_le (pos 0) size) (int_le size (pos (2 ^ 20))) sized in omega (arith, signed, p.0)

  high : size ≤ℤ pos (2 ^ 20)
  high = let p = and_parts (int_le (pos 0) size) (int_le size (pos (2 ^ 20))) sized in omega (arith, signed, p.1)

  length_small : (z : ℤ) → IsLength z → length_at m size z ≤ 2 ^ 32
  unfolding length_at
  length_small z h = magnitude (2 ^ 32) _ (length_scale_within m z size taken h low high)

  ends_small : (parts : List Part) → All (IsPart (length m.glyphs)) parts → AllByRecursion (EndsSmall m size) parts
  ends_small [] all = tt
  ends_small (part ∷ parts) all =
      (length_small part.end (All-head (IsPart (length m.glyphs)) part parts all).end, ends_small parts (All-tail (IsPart (length m.glyphs)) part parts all))

  -- ---- shapes

  abbrev IsShape : Shape → Type 0
  IsShape (Built count overlap) = nat_le (unsigned_abs overlap) (2 ^ 32) ≡ true
  IsShape other = ⊤

  drawn_as : (shape : Shape) (glyph : GlyphId) (axis : Axis) (x y : ℤ) → IsShape shape → is_small (mark_of shape glyph axis x y size) ≡ true
  drawn_as Base glyph axis x y s = refl
  drawn_as (Variant other) glyph axis x y s = refl
  drawn_as (Built count overlap) glyph axis x y s = both_true (is_font_size size) (nat_le (unsigned_abs overlap) (2 ^ 32)) sized s

  chosen : (b : Bool) (one two : Shaped) → IsShape one.shape → IsShape two.shape → IsShape (if b then one else two).shape
  chosen true one two h k = h
  chosen false one two h k = k

  or_else : (found : Option GlyphId) (other : Shaped) → IsShape other.shape → IsShape (option_map_or (larger m size) found other).shape
  or_else None other k = k
  or_else (Some glyph) other k = tt

  largest_small : (place : ℕ) (variants : List LargerGlyph) → IsShape (largest_glyph m place size variants).shape
  largest_small place variants = by (slice_get variants (length variants - 1))
    where
      by : (found : Option LargerGlyph) → IsShape (option_map_or (λ variant. larger m size variant.glyph) found (base m place size)).shape
      by None = tt
      by (Some variant) = tt

  assembly_small : (place : ℕ) (axis : Axis) (target : ℤ) → IsShape (assembly_of m (parts_of m place axis) axis target size).shape
  unfolding assembly_of widest_overlap
  assembly_small place axis target =
      le-leb _ (2 ^ 32) (overlap_small (2 ^ 32) (sums_of m size (parts_of m place axis)) target _ _
      (length_small (overlap_of m) (overlap_lies m taken))
      (widest_small m size _ (parts_of m place axis) (ends_small (parts_of m place axis) (parts_are_parts m place axis taken))))

  assembled : (place : ℕ) (axis : Axis) (target : ℤ) → IsShape (assembly_or_glyph m place axis target size).shape
  assembled place axis target =
      chosen (grows (sums_of m size (parts_of m place axis))) (assembly_of m (parts_of m place axis) axis target size) (largest_glyph m place size (variants_of m place axis))
      (assembly_small place axis target) (largest_small place (variants_of m place axis))

  shaped_small : (place : ℕ) (axis : Axis) (target : ℤ) → IsShape (shaped_of m place axis target size).shape
  unfolding shaped_of
  shaped_small place axis target =
      chosen _ (base m place size) _ tt
      (or_else (first_reaching m size target (variants_of m place axis)) (assembly_or_glyph m place axis target size) (assembled place axis target))

  display_small : (place : ℕ) → IsShape (display_of m place size).shape
  unfolding display_of
  display_small place = or_else _ (largest_glyph m place size (variants_of m place Upward)) (largest_small place (variants_of m place Upward))

  -- ---- leaves

  abbrev IsDrawn : Drawn → Type 0
  IsDrawn drawn = is_small drawn.mark ≡ true

  abbrev AreSmall : List Mark → Type 0
  AreSmall marks = list_all is_small marks ≡ true

  abbrev IsLeaf : Leaf → Type 0
  IsLeaf leaf = AreSmall leaf.marks

  one_mark : (drawn : Drawn) → IsDrawn drawn → IsLeaf (leaf_of drawn)
  one_mark drawn h = both_true (is_small drawn.mark) true h refl

  lone_small : (letter : ℕ) → IsDrawn (lone_letter m size letter)
  unfolding lone_letter
  lone_small letter = refl

  either : {A : Type 0} (found : Option A) (one : A → Leaf) (other : Leaf) → ((x : A) → IsLeaf (one x)) → IsLeaf other
      → IsLeaf (option_map_or one found other)
  either None one other h k = k
  either (Some x) one other h k = h x

  word_small : (letters : List ℕ) → IsLeaf (word_leaf m size letters)
  unfolding word_leaf marks_of
  word_small letters = either (inks_of m size letters) _ _ (λ inks. listed_pass is_small (length letters) (mark_at m size letters) (λ i. refl)) refl

  pub token_small : (head : Head) → IsLeaf (token_of m head size)
  unfolding token_of
  token_small head =
      either (lone (letters_of head)) _ _ (λ letter. one_mark (lone_letter m size (slanted head letter)) (lone_small (slanted head letter))) (word_small (letters_of head))

  lowered_small : (letter : ℕ) (axis : Axis) (shaped : Shaped) (drop : ℤ) → IsShape shaped.shape
      → IsDrawn (lowered_glyph size (glyph_of m letter) axis shaped drop)
  unfolding lowered_glyph
  lowered_small letter axis shaped drop h = drawn_as shaped.shape (glyph_of m letter) axis (pos 0) drop h

  large_small : (symmetric : Bool) (letter : ℕ) → IsDrawn (large m size symmetric letter)
  unfolding large
  large_small symmetric letter = lowered_small letter Upward _ _ (display_small (place_of_letter m letter))

  upward_small : (letter : ℕ) (span : ℤ × ℤ) → IsDrawn (upward m size letter span)
  unfolding upward
  upward_small letter span = lowered_small letter Upward _ _ (shaped_small (place_of_letter m letter) Upward _)

  sideways_small : (letter : ℕ) (span : ℤ × ℤ) → IsDrawn (sideways m size letter span)
  unfolding sideways
  sideways_small letter span = lowered_small letter Sideways _ _ (shaped_small (place_of_letter m letter) Sideways _)

  lone_operator_small : (attributes : List Attribute) (properties : Properties) (display : Bool) (pull : Pull) (letter : ℕ)
      → IsDrawn (lone_operator m size attributes properties display pull letter)
  lone_operator_small attributes properties display Free letter = by (properties.largeop && display)
    where
      by : (b : Bool) → IsDrawn (if b then large m size properties.symmetric letter else lone_letter m size letter)
      by true = large_small properties.symmetric letter
      by false = lone_small letter
  lone_operator_small attributes properties display (Block ascent descent) letter = upward_small letter _
  lone_operator_small attributes properties display (Inline width) letter = sideways_small letter _

  unspaced_small : (head : Head) (properties : Properties) (display : Bool) (pull : Pull)
      → IsLeaf (unspaced_leaf m size head properties display pull)
  unspaced_small head properties display pull =
      either (lone (letters_of head)) _ _
      (λ letter. one_mark (lone_operator m size head.attributes properties display pull letter) (lone_operator_small head.attributes properties display pull letter)) (word_small (letters_of head))

  pub operator_small : (head : Head) (core : Core) (style : Style) (form : Form) (pull : Pull)
      → IsLeaf (operator_of m head core style size form pull)
  unfolding operator_of
  operator_small head core style form pull = unspaced_small head (properties_at core form m.operators) style.display pull

  -- ---- roots

  pub root_small : (row : MathBox) (start : ℤ) (display : Bool)
      → AreSmall ((root_of m row start display size).surd ∷ (root_of m row start display size).rule ∷ [])
  unfolding root_of covered_of
  root_small row start display =
      both_true _ _ (drawn_as _ _ Upward _ _ (shaped_small (place_of_letter m 0x221A) Upward _)) refl

-- where marks are mirrored, their assemblies stay
turned_small : (rtl : Bool) (whole part : ℤ) (mark : Mark) → is_small (turned_mark rtl whole part mark) ≡ is_small mark
turned_small rtl whole part (Glyph x y size glyph) = refl
turned_small rtl whole part (Rule x y width height) = refl
turned_small rtl whole part (Composed x y size axis glyph count overlap) = refl

marks_small : (rtl : Bool) (whole first second : ℤ) (surd rule : Mark) → list_all is_small (surd ∷ rule ∷ []) ≡ true
    → list_all is_small (turned_mark rtl whole first surd ∷ turned_mark rtl whole second rule ∷ []) ≡ true
marks_small rtl whole first second surd rule h =
    (λ i. turned_small rtl whole first surd i && (turned_small rtl whole second rule i && true)) ∙ h

-- ---- fractions

rule_small : (b : Bool) (top bottom : MathBox) (ruled stacked : Shifts) (axis thickness : ℤ)
    → list_all is_small (marks_if (if b then with_rule_of (placed_of top bottom ruled) axis thickness else placed_of top bottom stacked).rule) ≡ true
unfolding placed_of with_rule_of
rule_small true top bottom ruled stacked axis thickness = refl
rule_small false top bottom ruled stacked axis thickness = refl

-- ---- each kind of element

abbrev IsOutcome : Outcome → Type 0
IsOutcome o = draws_small o ≡ true

module _ (e : Element) (taken : IsTaken e.metrics) (sized : is_font_size (font e) ≡ true) where
  one_of : (b : Bool) (one two : Outcome) → IsOutcome one → IsOutcome two → IsOutcome (if b then one else two)
  one_of true one two h k = h
  one_of false one two h k = k

  operator_drawn : IsOutcome (operator_outcome e)
  unfolding operator_outcome token_outcome draws_small
  operator_drawn = by e.seen.facts.core
    where
      by : (core : Option Core) → list_all is_small (option_map_or (operator_with e) core (token_outcome e)).marks ≡ true
      by None = token_small e.metrics taken (font e) sized e.seen.head
      by (Some core) = operator_small e.metrics taken (font e) sized e.seen.head core e.context.style e.context.form _

  fraction_drawn : IsOutcome (fraction_outcome e)
  unfolding outcome_with draws_small
  fraction_drawn =
      let size = font e in
      let lengths = rule_lengths_of e.metrics size e.context.style.display in
      rule_small (int_lt (pos 0) (thickness_of e)) (frame_at e 0) (frame_at e 1)
      (rule_shifts_of lengths (frame_at e 0) (frame_at e 1) (thickness_of e))
      (stack_shifts_of (stack_lengths_of e.metrics size e.context.style.display) (frame_at e 0) (frame_at e 1)) lengths.axis (thickness_of e)

  leaf_drawn : IsOutcome (token_outcome e)
  unfolding token_outcome draws_small
  leaf_drawn = token_small e.metrics taken (font e) sized e.seen.head

  space_drawn : IsOutcome (space_outcome e)
  unfolding space_outcome draws_small
  space_drawn = refl

  square_root_drawn : IsOutcome (square_root_outcome e)
  unfolding outcome_with draws_small
  square_root_drawn =
      let row = (row_in e).frame in
      let root = square_root_of e.metrics row e.context.style.display (font e) in
      marks_small e.context.style.rtl root.frame.width (root.base.x -ℤ x_of root.surd) row.width root.surd root.rule
      (root_small e.metrics taken (font e) sized (row_in e).frame (pos 0) e.context.style.display)

  root_drawn : IsOutcome (root_outcome e)
  unfolding outcome_with draws_small root_with_index_of with_index_of
  root_drawn =
      let base = frame_at e 0 in
      let root = root_with_index_of e.metrics base (frame_at e 1) e.context.style.display (font e) in
      marks_small e.context.style.rtl root.frame.width (root.base.x -ℤ x_of root.surd) base.width root.surd root.rule
      (root_small e.metrics taken (font e) sized (frame_at e 0) (root_start_of (index_lengths_of e.metrics (font e)) (frame_at e 1)) e.context.style.display)

  scripts_drawn : IsOutcome (multi_outcome e)
  unfolding multi_outcome outcome_with draws_small
  scripts_drawn = refl

  -- elements that draw nothing themselves
  nothing : (frame : MathBox) (cells : List ℤ) (spans : List CellSpan) (offsets : List Offset) → IsOutcome (outcome_with e frame cells spans offsets [])
  unfolding outcome_with draws_small
  nothing frame cells spans offsets = refl

  drawn : (kind : Kind) → IsOutcome (outcome_by kind e)
  unfolding outcome_by
  drawn Merror = nothing _ _ _ _
  drawn Mfrac = fraction_drawn
  drawn Mi = leaf_drawn
  drawn Mmultiscripts = scripts_drawn
  drawn Mn = leaf_drawn
  drawn Mo = operator_drawn
  drawn Mover = one_of (has_moved_limits e.metrics e.seen e.context) (sup_outcome e) (over_outcome e) (nothing _ _ _ _) (nothing _ _ _ _)
  drawn Mpadded = nothing _ _ _ _
  drawn Mroot = root_drawn
  drawn Ms = leaf_drawn
  drawn Mspace = space_drawn
  drawn Msqrt = square_root_drawn
  drawn Msub = nothing _ _ _ _
  drawn Msubsup = nothing _ _ _ _
  drawn Msup = nothing _ _ _ _
  drawn Mtable = nothing _ _ _ _
  drawn Mtd = nothing _ _ _ _
  drawn Mtext = leaf_drawn
  drawn Mtr = nothing _ _ _ _
  drawn Munder = one_of (has_moved_limits e.metrics e.seen e.context) (sub_outcome e) (under_outcome e) (nothing _ _ _ _) (nothing _ _ _ _)
  drawn Munderover = one_of (has_moved_limits e.metrics e.seen e.context) (sub_sup_outcome e) (under_over_outcome e) (nothing _ _ _ _) (nothing _ _ _ _)
  drawn other = nothing _ _ _ _

-- ---- each element of a tree

each_small : (m : MetricsValue) → IsTaken m → (node : Node) (context : Context) → is_font_size (size_of m context.style) ≡ true
    → draws_small (lay m node context) ≡ true
unfolding lay_by equation
each_small m taken node context sized =
    let one = map (answer_of m node) (first m (seen_of node) context) in
    let two = map (answer_of m node) (second m (seen_of node) context one) in
    let e : Element = record { metrics = m; seen = seen_of node; context = context; kids = last_answers m (seen_of node) context one two } in
    ap draws_small (lay_is m node context) ∙ drawn e taken sized (seen_of node).facts.laid

pub small_law : (m : MetricsValue) (node : Node) (context : Context) → IsTaken m → in_range m node context ≡ true
    → all_outcomes draws_small (laid m node context) ≡ true
small_law m node context taken e = sized_pass m draws_small (each_small m taken) node context e
