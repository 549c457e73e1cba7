-- An element from left to right is laid out as before elements had a direction, and a tree in which no element is
-- from right to left has no other.
use Rattle.std.proofs.Common.{◌≡◌, ◌≢◌, ◌∙◌, refl, ap, subst, ℕ, ◌+◌, ℤ, pos, ◌+ℤ◌, ◌-ℤ◌, Bool, true, false, List, [], ◌∷◌, ◌&&◌, cond, length, map, nat_eq, Option, None, Some, slice_get, slice_index_or}
use Rattle.std.specs.Prelude.{unwrap_or}
use Rattle.std.proofs.lemmas.List.Elements.{All-contains}
use Rattle.std.specs.List.{AllByRecursion, flat_map}
use Rattle.std.specs.Option.{option_and_then, option_map, option_map_or}
use Rattle.fixed_units.specs.Sums.{list_to}
use Rattle.css_lengths.specs.declared.lengths.LengthText.{LengthText}
use Rattle.font_metrics.specs.Metrics.{MetricsValue}
use Rattle.font_metrics.specs.declared.corner.Corner.{Corner}
use Rattle.font_metrics.specs.declared.corner.Corner.TheVariants.{TopRight, TopLeft, BottomRight, BottomLeft}
use Rattle.font_metrics.specs.declared.mark.Mark.{Mark}
use Rattle.font_metrics.specs.declared.mark.Mark.TheVariants.{Glyph, Rule, Built}
use Rattle.math_tables.specs.Cells.{cell_of, cell_start_of}
use Rattle.math_tree.proofs.Nodes.{all_parts, listed_element}
use Rattle.math_tree.specs.Trees.{Listed, listed}
use Rattle.math_tree.specs.declared.kind.Kind.{Kind}
use Rattle.math_tree.specs.declared.kind.Kind.TheVariants.{Merror, Mfrac, Mi, Mmultiscripts, Mn, Mo, Mover, Mpadded, Mroot, Ms, Mspace, Msqrt, Msub, Msubsup, Msup, Mtable, Mtd, Mtext, Mtr, Munder, Munderover}
use Rattle.math_tree.specs.declared.node.Head.{Head}
use Rattle.math_tree.specs.declared.node.Node.{Node}
use Rattle.math_tree.specs.declared.node.Node.TheViews.{out-Node}
use Rattle.embellished.proofs.InFlow.{among, shown}
use Rattle.embellished.specs.Seen.{Child, Kid, flow_children, seen_of}
use Rattle.multiscripts.specs.Placing.{multi_of}
use Rattle.multiscripts.specs.declared.parts.Multi.{Multi}
use Rattle.radicals.specs.Placing.{root_with_index_of, square_root_of}
use Rattle.radicals.specs.declared.parts.Radical.{Radical}
use Rattle.row_stretch.specs.declared.parts.Row.{Row}
use Rattle.scripts.specs.Beside.{sub_of, sup_of, sub_sup_of}
use Rattle.scripts.specs.declared.parts.Inked.{Inked}
use Rattle.scripts.specs.declared.parts.KernFrom.{KernFrom}
use Rattle.style_scope.specs.Rules.{by_direction, by_display, by_level, by_name, by_place, by_size, size_written}
use Rattle.style_scope.specs.Sizes.{size_of}
use Rattle.style_scope.specs.Styles.{by_attributes, child_style_of, initial, is_block, root_style_of}
use Rattle.style_scope.specs.declared.style.Place.{Place}
use Rattle.style_scope.specs.declared.style.Style.{Style}
use Rattle.token_boxes.specs.Token.{token_glyph_of}
use Rattle.layout_model.specs.Contexts.{kid_style, place_of}
use Rattle.layout_model.specs.Direction.{turned, turned_corner, turned_mark, x_of}
use Rattle.layout_model.specs.Elements.{Element, along, font, frame_at, offset, outcome, outcome_with, row_frame, row_in, row_x}
use Rattle.layout_model.specs.Equations.{cell_outcome, cells_placed, corner_at, error_outcome, has_large_base, multi_outcome, outcome_by, over_outcome, padded_outcome, pairs_of, root_marks, root_outcome, root_sign_over, row_outcome, spot_of, square_root_outcome, sub_outcome, sub_sup_outcome, sup_outcome, table_row_outcome, under_outcome, under_over_outcome, unless_moved, widths_of, with_index, with_pairs}
use Rattle.layout_model.specs.Laws.{answer_of}
use Rattle.layout_model.specs.Layout.{equation, lay, lay_by, questions, root_context}
use Rattle.layout_model.specs.LeftToRight.{IsNotTurned, LeftToRightLaw, forward, forward_by, forward_cell, forward_corner, forward_error, forward_multi, forward_padded, forward_root, forward_row, forward_sign_over, forward_square_root, forward_sub, forward_sub_sup, forward_sup, forward_table_row, forward_with_index, forward_with_pairs, lay_forward}
use Rattle.layout_model.specs.Made.{Asks, IsMade}
use Rattle.layout_model.specs.Questions.{first}
use Rattle.layout_model.specs.Rows.{border, error_of, padded_of, padded_rise, padded_start}
use Rattle.layout_model.specs.Tables.{spanned, spans_of}
use Rattle.layout_model.specs.Waves.{both_waves}
use Rattle.layout_model.specs.declared.context.Context.{Context}
use Rattle.layout_model.specs.declared.context.Question.{Question}
use Rattle.layout_model.specs.declared.outcome.Offset.{Offset}
use Rattle.layout_model.proofs.KidFonts.{both_in}
use Rattle.layout_model.proofs.LaidTrees.{at_place, by_recursion}
use Rattle.layout_model.proofs.Trees.{layout_law}

-- marks that aren't mirrored
unturned : (whole part : ℤ) (mark : Mark) → turned_mark false whole part mark ≡ mark
unturned whole part (Glyph x y size glyph) = refl
unturned whole part (Rule x y width height) = refl
unturned whole part (Built x y size axis glyph count overlap) = refl

abbrev corner_by : Element → Bool → Corner → ℕ → Option Inked
corner_by e rtl corner index =
    option_map (λ glyph. record { glyph = glyph; corner = turned_corner rtl corner; size = size_of e.metrics (kid_style e.metrics e.seen e.context.style index) })
    (option_and_then (λ kid. token_glyph_of e.metrics kid.head) (slice_get e.seen.kids index))

module _ (e : Element) (h : e.context.style.rtl ≡ false) where
  -- ---- rows

  along_is : (row : Row) (start y : ℤ) → along e row start y ≡ forward e row start y
  along_is row start y =
      λ i. list_to (length e.seen.kids) (λ (kid : ℕ).
      offset kid (start +ℤ turned (h i) row.frame.width (frame_at e kid).width (slice_index_or row.offsets kid (pos 0))) y)

  frame_is : (row : Row) → row_frame e row ≡ row.frame
  unfolding row_frame
  frame_is row =
      λ i. cond (h i && nat_eq (length e.seen.kids) 1) (record row.frame { accent = row_x e row 0 +ℤ (frame_at e 0).accent }) row.frame

  row_is : row_outcome e ≡ forward_row e
  row_is = λ i. outcome e (frame_is (row_in e) i) (along_is (row_in e) (pos 0) (pos 0) i) []

  error_is : error_outcome e ≡ forward_error e
  error_is = λ i. outcome e (error_of (row_in e).frame) (along_is (row_in e) border (pos 0) i) []

  padded_is : padded_outcome e ≡ forward_padded e
  padded_is =
      let attributes = e.seen.head.attributes in
      λ i. outcome e (padded_of e.metrics (font e) attributes (row_in e).frame)
      (along_is (row_in e) (padded_start e.metrics (font e) attributes) (pos 0 -ℤ padded_rise e.metrics (font e) attributes) i) []

  cell_is : cell_outcome e ≡ forward_cell e
  cell_is = λ i. outcome e (cell_of e.metrics (row_in e).frame (font e)) (along_is (row_in e) (cell_start_of (font e)) (pos 0) i) []

  table_row_is : table_row_outcome e ≡ forward_table_row e
  table_row_is = λ i. outcome_with e (spanned (spans_of e) (cells_placed e).frame) (widths_of e) (spans_of e) (along_is (cells_placed e) (pos 0) (pos 0) i) []

  -- ---- roots

  mark_is : (whole part : ℤ) (mark : Mark) → turned_mark e.context.style.rtl whole part mark ≡ mark
  mark_is whole part mark = ap (λ (rtl : Bool). turned_mark rtl whole part mark) h ∙ unturned whole part mark

  sign_is : (root : Radical) → root_sign_over e root ≡ forward_sign_over e root
  sign_is root =
      let row = row_in e in
      let width = root.frame.width in
      ap (λ (offsets : List Offset). outcome e root.frame offsets (root_marks e row.frame.width root))
      (along_is row (turned e.context.style.rtl width row.frame.width root.base.x) root.base.y)
      ∙ (λ i. outcome e root.frame (forward e row (turned (h i) width row.frame.width root.base.x) root.base.y)
      (mark_is width (root.base.x -ℤ x_of root.surd) root.surd i ∷ mark_is width row.frame.width root.rule i ∷ []))

  square_root_is : square_root_outcome e ≡ forward_square_root e
  square_root_is = sign_is (square_root_of e.metrics (row_in e).frame e.context.style.display (font e))

  with_index_is : (root : Radical) → with_index e root ≡ forward_with_index e root
  with_index_is root =
      let width = root.frame.width in
      λ i. outcome e root.frame
      (offset 0 (turned (h i) width (frame_at e 0).width root.base.x) root.base.y
      ∷ offset 1 (turned (h i) width (frame_at e 1).width root.index.x) root.index.y ∷ [])
      (mark_is width (root.base.x -ℤ x_of root.surd) root.surd i ∷ mark_is width (frame_at e 0).width root.rule i ∷ [])

  root_is : root_outcome e ≡ forward_root e
  root_is = with_index_is (root_with_index_of e.metrics (frame_at e 0) (frame_at e 1) e.context.style.display (font e))

  -- ---- scripts

  corner_is : (corner : Corner) (index : ℕ) → corner_at e corner index ≡ forward_corner e corner index
  unfolding corner_at
  corner_is corner index = λ i. corner_by e (h i) corner index

  sub_is : sub_outcome e ≡ forward_sub e
  sub_is = λ i.
      let from : KernFrom = record { base_sub = corner_is BottomRight 0 i; sub = corner_is TopLeft 1 i; base_sup = None; sup = None } in
      let scripted = sub_of e.metrics (frame_at e 0) (has_large_base e) (frame_at e 1) from (font e) in
      outcome e scripted.frame
      (offset 0 (turned (h i) scripted.frame.width (frame_at e 0).width (pos 0)) (pos 0)
      ∷ offset 1 (turned (h i) scripted.frame.width (frame_at e 1).width scripted.sub.x) scripted.sub.y ∷ []) []

  sup_is : sup_outcome e ≡ forward_sup e
  sup_is = λ i.
      let from : KernFrom = record { base_sub = None; sub = None; base_sup = corner_is TopRight 0 i; sup = corner_is BottomLeft 1 i } in
      let scripted = sup_of e.metrics (frame_at e 0) (has_large_base e) e.context.style.cramped (frame_at e 1) from (font e) in
      outcome e scripted.frame
      (offset 0 (turned (h i) scripted.frame.width (frame_at e 0).width (pos 0)) (pos 0)
      ∷ offset 1 (turned (h i) scripted.frame.width (frame_at e 1).width scripted.sup.x) scripted.sup.y ∷ []) []

  sub_sup_is : sub_sup_outcome e ≡ forward_sub_sup e
  sub_sup_is = λ i.
      let from : KernFrom = record {
        base_sub = corner_is BottomRight 0 i;
        sub = corner_is TopLeft 1 i;
        base_sup = corner_is TopRight 0 i;
        sup = corner_is BottomLeft 2 i;
      } in
      let scripted = sub_sup_of e.metrics (frame_at e 0) (has_large_base e) e.context.style.cramped (frame_at e 1) (frame_at e 2) from (font e) in
      outcome e scripted.frame
      (offset 0 (turned (h i) scripted.frame.width (frame_at e 0).width (pos 0)) (pos 0)
      ∷ offset 1 (turned (h i) scripted.frame.width (frame_at e 1).width scripted.sub.x) scripted.sub.y
      ∷ offset 2 (turned (h i) scripted.frame.width (frame_at e 2).width scripted.sup.x) scripted.sup.y ∷ []) []

  pairs_are : (multi : Multi) → with_pairs e multi ≡ forward_with_pairs e multi
  pairs_are multi = λ i. outcome e multi.frame
      (list_to (length e.seen.kids) (λ (kid : ℕ).
      offset kid (turned (h i) multi.frame.width (frame_at e kid).width (spot_of multi kid).x) (spot_of multi kid).y)) []

  multi_is : multi_outcome e ≡ forward_multi e
  unfolding multi_outcome
  multi_is = pairs_are (multi_of e.metrics (frame_at e 0) (has_large_base e) e.context.style.cramped (pairs_of e) (font e))

  -- ---- each kind

  same_by : (laid : Kind) → outcome_by laid e ≡ forward_by laid e
  unfolding outcome_by forward_by
  same_by Merror = error_is
  same_by Mfrac = refl
  same_by Mi = refl
  same_by Mmultiscripts = multi_is
  same_by Mn = refl
  same_by Mo = refl
  same_by Mover = ap (unless_moved e (over_outcome e)) sup_is
  same_by Mpadded = padded_is
  same_by Mroot = root_is
  same_by Ms = refl
  same_by Mspace = refl
  same_by Msqrt = square_root_is
  same_by Msub = sub_is
  same_by Msubsup = sub_sup_is
  same_by Msup = sup_is
  same_by Mtable = refl
  same_by Mtd = cell_is
  same_by Mtext = refl
  same_by Mtr = table_row_is
  same_by Munder = ap (unless_moved e (under_outcome e)) sub_is
  same_by Munderover = ap (unless_moved e (under_over_outcome e)) sub_sup_is
  same_by other = row_is

-- an element whose style is from left to right
from_left : (m : MetricsValue) (node : Node) (context : Context) → context.style.rtl ≡ false
    → lay m node context ≡ lay_forward m (seen_of node) context (answer_of m node)
unfolding lay_by equation lay_forward
from_left m node context h = layout_law m node context ∙ same_by _ h _

-- ---- styles

sized : (m : MetricsValue) (size : ℤ) (length : Option LengthText) (style : Style) → (by_size m size length style).rtl ≡ style.rtl
unfolding by_size
sized m size None style = refl
sized m size (Some length) style = refl

named : (kind : Kind) (style : Style) → (by_name kind style).rtl ≡ style.rtl
unfolding by_name
named Msqrt style = refl
named Mroot style = refl
named Mtable style = refl
named other style = refl

placed : (place : Place) (style : Style) → (by_place place style).rtl ≡ style.rtl
unfolding by_place
placed place style = refl

not_turned : (said : Option Bool) (above : Bool) → said ≢ Some true → above ≡ false → unwrap_or said above ≡ false
not_turned None above other h = h
not_turned (Some true) above other h = absurd (other refl)
not_turned (Some false) above other h = refl

own_left : (m : MetricsValue) (parent : Style) (head : Head) (style : Style) → IsNotTurned head → style.rtl ≡ false
    → (by_attributes m parent head.attributes style).rtl ≡ false
unfolding by_attributes by_level by_display by_direction
own_left m parent head style other h = sized m (size_of m parent) (size_written head.attributes) _ ∙ not_turned _ style.rtl other h

child_left : (m : MetricsValue) (parent : Style) (place : Place) (head : Head) → IsNotTurned head → parent.rtl ≡ false
    → (child_style_of m parent place head).rtl ≡ false
unfolding child_style_of
child_left m parent place head other h =
    own_left m parent head (by_name head.kind (by_place place parent)) other (named head.kind (by_place place parent) ∙ placed place parent ∙ h)

root_left : (m : MetricsValue) (head : Head) → IsNotTurned head → (root_style_of m head).rtl ≡ false
unfolding root_style_of
root_left m head other = own_left m initial head (record initial { display = is_block head.attributes }) other refl

-- ---- a tree

abbrev IsStraight : Listed → Type 0
IsStraight e = IsNotTurned e.head

kids_straight : (level : ℕ) (nodes : List Node) → AllByRecursion IsStraight (flat_map (listed level) nodes)
    → AllByRecursion (λ node. AllByRecursion IsStraight (listed level node)) nodes
kids_straight level [] all = tt
kids_straight level (node ∷ nodes) all =
    let parts = all_parts IsStraight (listed level node) (flat_map (listed level) nodes) all in (parts.0, kids_straight level nodes parts.1)

own_straight : (level : ℕ) (node : Node) → AllByRecursion IsStraight (listed level node) → IsNotTurned (out-Node node).head
own_straight level node all = (subst (AllByRecursion IsStraight) (listed_element level node) all).0

kid_straight : (level : ℕ) (node : Node) (kid : ℕ) (child : Child) → slice_get (flow_children node) kid ≡ Some child
    → AllByRecursion IsStraight (listed level node) → AllByRecursion IsStraight (listed (level + 1) child.node)
kid_straight level node kid child to all =
    let below = (subst (AllByRecursion IsStraight) (listed_element level node) all).1 in
    at_place (λ (n : Node). AllByRecursion IsStraight (listed (level + 1) n)) (out-Node node).children child.place child.node
    (kids_straight (level + 1) (out-Node node).children below) (among node kid child to)

-- what is asked of a child is asked from left to right
asked_left : (m : MetricsValue) (node : Node) (context : Context) (question : Question) (child : Child) → Asks m node context question child
    → IsNotTurned (out-Node child.node).head → context.style.rtl ≡ false → question.context.style.rtl ≡ false
unfolding questions kid_style
asked_left m node context question child asks other h =
    let one = map (answer_of m node) (first m (seen_of node) context) in
    let style : question.context.style ≡ kid_style m (seen_of node) context.style question.kid =
    All-contains (λ (q : Question). q.context.style ≡ kid_style m (seen_of node) context.style q.kid) (both_waves m (seen_of node) context one) question (both_in m (seen_of node) context one) asks.asked in
    let kid = shown node question.kid child asks.to in
    let place = place_of (seen_of node) question.kid in
    ap (λ (s : Style). s.rtl) style
    ∙ ap (λ (found : Option Kid). (option_map_or (λ k. child_style_of m context.style place k.head) found context.style).rtl) kid
    ∙ child_left m context.style place (out-Node child.node).head other h

made_left : (m : MetricsValue) (path : List ℕ) (level : ℕ) (node : Node) (context : Context) (element : Node) (made : Context)
    → AllByRecursion IsStraight (listed level node) → context.style.rtl ≡ false → IsMade m path node context element made
    → made.style.rtl ≡ false
made_left m [] level node context element made all h is = ap (λ (c : Context). c.style.rtl) is.1 ∙ h
made_left m (place ∷ path) level node context element made all h (question, child, asks, at, rest) =
    let below = kid_straight level node question.kid child asks.to all in
    made_left m path (level + 1) child.node question.context element made below
    (asked_left m node context question child asks (own_straight (level + 1) child.node below) h) rest

pub left_to_right : LeftToRightLaw
unfolding root_context
left_to_right m tree all path element made is =
    let straight = by_recursion IsStraight (listed 1 tree.root) all in
    from_left m element made (made_left m path 1 tree.root _ element made straight (root_left m (out-Node tree.root).head (own_straight 1 tree.root straight)) is)
