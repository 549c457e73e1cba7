-- The leaf of an operator (MathML Core 3.2.4.3, "Layout of operators").
use Rattle.std.specs.Prelude.{ℕ, ◌^◌, ℤ, pos, ◌+ℤ◌, ◌-ℤ◌, ◌*ℤ◌, Bool, ◌&&◌, if◌then◌else◌, List, codes, Option, unwrap_or}
use Rattle.std.specs.Int.{int_max, int_min}
use Rattle.std.specs.Option.{option_map, option_map_or}
use Rattle.embellished.specs.Forms.{properties_at}
use Rattle.embellished.specs.declared.facts.Core.{Core}
use Rattle.fixed_units.specs.Boxes.{farthest}
use Rattle.fixed_units.specs.Numbers.{IsWithin, rounded, halved}
use Rattle.fixed_units.specs.declared.boxes.MathBox.{MathBox}
use Rattle.fixed_units.specs.declared.pull.Pull.{Pull}
use Rattle.fixed_units.specs.declared.pull.Pull.TheVariants.{Free, Block, Inline}
use Rattle.font_metrics.specs.Metrics.{MetricsValue, constant_of, place_of_letter}
use Rattle.font_metrics.specs.declared.constants.ConstName.TheVariants.{AxisHeight}
use Rattle.font_metrics.specs.declared.glyph.GlyphId.{GlyphId}
use Rattle.glyph_assembly.specs.Glyphs.{reach_at}
use Rattle.glyph_assembly.specs.Shaping.{shaped_of, display_of, mark_of}
use Rattle.glyph_assembly.specs.Targets.{Span, total, target_of}
use Rattle.glyph_assembly.specs.declared.shapes.Shaped.{Shaped}
use Rattle.math_tree.specs.declared.attributes.Attribute.{Attribute}
use Rattle.math_tree.specs.declared.node.Head.{Head}
use Rattle.op_dictionary.specs.declared.operator.Axis.{Axis}
use Rattle.op_dictionary.specs.declared.operator.Axis.TheVariants.{Block as Upward, Inline as Sideways}
use Rattle.op_dictionary.specs.declared.operator.Form.{Form}
use Rattle.op_dictionary.specs.declared.operator.Properties.{Properties}
use Rattle.style_scope.specs.declared.style.Style.{Style}
use Rattle.token_boxes.specs.declared.leaf.Drawn.{Drawn}
use Rattle.token_boxes.specs.declared.leaf.Leaf.{Leaf}
use Rattle.token_boxes.specs.Lengths.{length_in}
use Rattle.token_boxes.specs.Letters.{letters_of, lone}
use Rattle.token_boxes.specs.Token.{leaf_of, glyph_of, lone_letter, word_leaf}

-- ---- spaces

-- so many 18ths of the font size
unfoldable pub eighteenths : ℤ → ℕ → ℤ
eighteenths size n = rounded (pos n *ℤ size) (pos 18)

-- that of the dictionary, unless an attribute gives one; own choice: a percentage is of the
-- dictionary's, as rounded
unfoldable pub space_at : MetricsValue → ℤ → List Attribute → List ℕ → ℕ → ℤ
space_at m size attributes name listed =
    unwrap_or (length_in m size (eighteenths size listed) name attributes) (eighteenths size listed)

-- ---- the least and the largest size

-- own choice: no size counts as more than this
abbrev pub largest_size : ℤ
largest_size = pos (2 ^ 28)

-- by default, and as 100%, that of the glyph as it is; never below 0
unfoldable pub least_of : MetricsValue → ℤ → List Attribute → ℤ → ℤ
least_of m size attributes reach =
    int_min (int_max (unwrap_or (length_in m size reach (codes "minsize") attributes) reach)
    (pos 0)) largest_size

-- where there is one; never below the least
unfoldable pub most_of : MetricsValue → ℤ → List Attribute → ℤ → ℤ → Option ℤ
most_of m size attributes reach least =
    option_map (λ most. int_min (int_max most least) largest_size)
    (length_in m size reach (codes "maxsize") attributes)

-- ---- one character that is stretched or large

-- ink that is moved down, and nothing but ink counts of its height
unfoldable pub lowered : MathBox → ℤ → MathBox
lowered frame drop = record frame {
  ascent = frame.ink_ascent -ℤ drop;
  descent = frame.ink_descent +ℤ drop;
  ink_ascent = frame.ink_ascent -ℤ drop;
  ink_descent = frame.ink_descent +ℤ drop;
}

-- what a glyph was made into, moved down so far
unfoldable pub lowered_glyph : ℤ → GlyphId → Axis → Shaped → ℤ → Drawn
lowered_glyph size glyph axis shaped drop = record {
  frame = lowered shaped.frame drop;
  mark = mark_of shaped.shape glyph axis (pos 0) drop size;
}

-- how far down ink has to go to reach `rise` more above the baseline than below it, as its middle
-- then does
unfoldable pub drop_of : MathBox → ℤ → ℤ
drop_of frame rise = halved ((frame.ink_ascent -ℤ frame.ink_descent) -ℤ rise)

-- what a pull along an axis has it cover
unfoldable pub span_of : MetricsValue → ℤ → List Attribute → Bool → Axis → Pull → ℕ → Span
span_of m size attributes symmetric axis pull letter =
    let reach = reach_at m (place_of_letter m letter) axis size in
    let least = least_of m size attributes reach in
    target_of pull symmetric least (most_of m size attributes reach least)
    (constant_of m AxisHeight size)

-- upward and downward: its middle comes to be that of what it covers
unfoldable pub upward : MetricsValue → ℤ → ℕ → Span → Drawn
upward m size letter span =
    let shaped = shaped_of m (place_of_letter m letter) Upward (total span) size in
    lowered_glyph size (glyph_of m letter) Upward shaped (drop_of shaped.frame (span.0 -ℤ span.1))

-- to the sides: it stays on its baseline
unfoldable pub sideways : MetricsValue → ℤ → ℕ → Span → Drawn
sideways m size letter span =
    let shaped = shaped_of m (place_of_letter m letter) Sideways (total span) size in
    lowered_glyph size (glyph_of m letter) Sideways shaped (pos 0)

-- a large operator that is symmetric has its middle on the axis
unfoldable pub large_drop : MetricsValue → ℤ → Bool → MathBox → ℤ
large_drop m size symmetric frame =
    if symmetric then drop_of frame (pos 2 *ℤ constant_of m AxisHeight size) else pos 0

-- large, in display style
unfoldable pub large : MetricsValue → ℤ → Bool → ℕ → Drawn
large m size symmetric letter =
    let shaped = display_of m (place_of_letter m letter) size in
    lowered_glyph size (glyph_of m letter) Upward shaped (large_drop m size symmetric shaped.frame)

-- ---- the operator

-- one character: what pulls it comes before what makes it large, and neither leaves it a token
abbrev pub lone_operator : MetricsValue → ℤ → List Attribute → Properties → Bool → Pull → ℕ → Drawn
lone_operator m size attributes properties display Free letter =
    if properties.largeop && display then large m size properties.symmetric letter
    else lone_letter m size letter
lone_operator m size attributes properties display (Block ascent descent) letter =
    upward m size letter (span_of m size attributes properties.symmetric Upward
    (Block ascent descent) letter)
lone_operator m size attributes properties display (Inline width) letter =
    sideways m size letter (span_of m size attributes properties.symmetric Sideways (Inline width)
    letter)

-- any other text is a token's
abbrev pub unspaced_leaf : MetricsValue → ℤ → Head → Properties → Bool → Pull → Leaf
unspaced_leaf m size head properties display pull =
    option_map_or (λ letter. leaf_of
    (lone_operator m size head.attributes properties display pull letter))
    (lone (letters_of head)) (word_leaf m size (letters_of head))

abbrev pub spaced : MetricsValue → ℤ → List Attribute → Properties → Leaf → Leaf
spaced m size attributes properties leaf = record leaf {
  before = space_at m size attributes (codes "lspace") properties.lspace;
  after = space_at m size attributes (codes "rspace") properties.rspace;
}

unfoldable pub operator_of : MetricsValue → Head → Core → Style → ℤ → Form → Pull → Leaf
operator_of m head core style size form pull =
    let properties = properties_at core form m.operators in
    spaced m size head.attributes properties
    (unspaced_leaf m size head properties style.display pull)

-- ---- what is asked

-- a pull by numbers that can be stored
abbrev pub IsPull : Pull → Type 0
IsPull Free = Unit {0}
IsPull (Block ascent descent) = IsWithin farthest ascent × IsWithin farthest descent
IsPull (Inline width) = IsWithin farthest width
