-- Layout from left to right alone, as it was before elements had a direction.
use Rattle.std.specs.Prelude.{◌≡◌, ◌≢◌, ℕ, ℤ, pos, ◌+ℤ◌, ◌-ℤ◌, true, codes, List, [], ◌∷◌, length, map, All, Option, Some, None, option_map, slice_get, slice_index_or}
use Rattle.std.specs.Option.{option_and_then}
use Rattle.fixed_units.specs.Sums.{list_to}
use Rattle.font_metrics.specs.Metrics.{MetricsValue}
use Rattle.font_metrics.specs.declared.corner.Corner.{Corner}
use Rattle.font_metrics.specs.declared.corner.Corner.TheVariants.{TopRight, TopLeft, BottomRight, BottomLeft}
use Rattle.math_tables.specs.Cells.{cell_of, cell_start_of}
use Rattle.math_tree.specs.Attributes.{value_of}
use Rattle.math_tree.specs.Trees.{TreeValue, listed}
use Rattle.math_tree.specs.declared.kind.Kind.{Kind}
use Rattle.math_tree.specs.declared.kind.Kind.TheVariants.{Merror, Mfrac, Mi, Mmultiscripts, Mn, Mo, Mover, Mpadded, Mroot, Ms, Mspace, Msqrt, Msub, Msubsup, Msup, Mtable, Mtd, Mtext, Mtr, Munder, Munderover}
use Rattle.math_tree.specs.declared.node.Head.{Head}
use Rattle.math_tree.specs.declared.node.Node.{Node}
use Rattle.math_tree.specs.declared.node.Node.TheViews.{out-Node}
use Rattle.embellished.specs.Seen.{Seen, seen_of}
use Rattle.multiscripts.specs.Placing.{multi_of}
use Rattle.multiscripts.specs.declared.parts.Multi.{Multi}
use Rattle.radicals.specs.Placing.{root_with_index_of, square_root_of}
use Rattle.radicals.specs.declared.parts.Radical.{Radical}
use Rattle.row_stretch.specs.declared.parts.Row.{Row}
use Rattle.scripts.specs.Beside.{sub_of, sup_of, sub_sup_of}
use Rattle.scripts.specs.declared.parts.Inked.{Inked}
use Rattle.scripts.specs.declared.parts.KernFrom.{KernFrom}
use Rattle.style_scope.specs.Sizes.{size_of}
use Rattle.style_scope.specs.Words.{direction_of_word}
use Rattle.token_boxes.specs.Token.{token_glyph_of}
use Rattle.layout_model.specs.Contexts.{kid_style}
use Rattle.layout_model.specs.Elements.{Element, font, frame_at, offset, outcome, outcome_with, row_in}
use Rattle.layout_model.specs.Equations.{cells_placed, has_large_base, outcome_by, over_outcome, pairs_of, spot_of, under_outcome, under_over_outcome, unless_moved, widths_of}
use Rattle.layout_model.specs.Laws.{answer_of}
use Rattle.layout_model.specs.Layout.{last_answers, lay, root_context}
use Rattle.layout_model.specs.Made.{IsMade}
use Rattle.layout_model.specs.Questions.{first, second}
use Rattle.layout_model.specs.Rows.{border, error_of, padded_of, padded_rise, padded_start}
use Rattle.layout_model.specs.Tables.{spanned, spans_of}
use Rattle.layout_model.specs.declared.context.Context.{Context}
use Rattle.layout_model.specs.declared.context.Question.{Question}
use Rattle.layout_model.specs.declared.outcome.Answer.{Answer}
use Rattle.layout_model.specs.declared.outcome.Offset.{Offset}
use Rattle.layout_model.specs.declared.outcome.Outcome.{Outcome}

-- ---- rows

abbrev pub forward_at : Row → ℤ → ℤ → ℕ → Offset
forward_at row start y kid = offset kid (start +ℤ slice_index_or row.offsets kid (pos 0)) y

-- the children of a row that begins at a start, with its baseline so far below that of the element
abbrev pub forward : Element → Row → ℤ → ℤ → List Offset
forward e row start y = list_to (length e.seen.kids) (forward_at row start y)

abbrev pub forward_row : Element → Outcome
forward_row e = outcome e (row_in e).frame (forward e (row_in e) (pos 0) (pos 0)) []

abbrev pub forward_error : Element → Outcome
forward_error e = outcome e (error_of (row_in e).frame) (forward e (row_in e) border (pos 0)) []

abbrev pub forward_padded : Element → Outcome
forward_padded e =
    let attributes = e.seen.head.attributes in
    outcome e (padded_of e.metrics (font e) attributes (row_in e).frame)
    (forward e (row_in e) (padded_start e.metrics (font e) attributes) (pos 0
    -ℤ padded_rise e.metrics (font e) attributes)) []

abbrev pub forward_cell : Element → Outcome
forward_cell e = outcome e (cell_of e.metrics (row_in e).frame (font e))
    (forward e (row_in e) (cell_start_of (font e)) (pos 0)) []

abbrev pub forward_table_row : Element → Outcome
forward_table_row e =
    outcome_with e (spanned (spans_of e) (cells_placed e).frame) (widths_of e) (spans_of e)
    (forward e (cells_placed e) (pos 0) (pos 0)) []

-- ---- roots

abbrev pub forward_sign_over : Element → Radical → Outcome
forward_sign_over e root = outcome e root.frame (forward e (row_in e) root.base.x root.base.y)
    (root.surd ∷ root.rule ∷ [])

abbrev pub forward_square_root : Element → Outcome
forward_square_root e = forward_sign_over e
    (square_root_of e.metrics (row_in e).frame e.context.style.display (font e))

abbrev pub forward_with_index : Element → Radical → Outcome
forward_with_index e root =
    outcome e root.frame (offset 0 root.base.x root.base.y ∷ offset 1 root.index.x root.index.y
    ∷ []) (root.surd ∷ root.rule ∷ [])

abbrev pub forward_root : Element → Outcome
forward_root e = forward_with_index e
    (root_with_index_of e.metrics (frame_at e 0) (frame_at e 1) e.context.style.display (font e))

-- ---- scripts

abbrev pub forward_corner : Element → Corner → ℕ → Option Inked
forward_corner e corner index =
    option_map (λ glyph. record {
      glyph = glyph;
      corner = corner;
      size = size_of e.metrics (kid_style e.metrics e.seen e.context.style index);
    })
    (option_and_then (λ kid. token_glyph_of e.metrics kid.head) (slice_get e.seen.kids index))

abbrev pub forward_sub : Element → Outcome
forward_sub e =
    let from : KernFrom = record {
      base_sub = forward_corner e BottomRight 0;
      sub = forward_corner e TopLeft 1;
      base_sup = None;
      sup = None;
    } in
    let scripted = sub_of e.metrics (frame_at e 0) (has_large_base e) (frame_at e 1) from (font e)
    in
    outcome e scripted.frame (offset 0 (pos 0) (pos 0) ∷ offset 1 scripted.sub.x scripted.sub.y
    ∷ []) []

abbrev pub forward_sup : Element → Outcome
forward_sup e =
    let from : KernFrom = record {
      base_sub = None;
      sub = None;
      base_sup = forward_corner e TopRight 0;
      sup = forward_corner e BottomLeft 1;
    } in
    let scripted = sup_of e.metrics (frame_at e 0) (has_large_base e) e.context.style.cramped
    (frame_at e 1) from (font e) in
    outcome e scripted.frame (offset 0 (pos 0) (pos 0) ∷ offset 1 scripted.sup.x scripted.sup.y
    ∷ []) []

abbrev pub forward_sub_sup : Element → Outcome
forward_sub_sup e =
    let from : KernFrom = record {
      base_sub = forward_corner e BottomRight 0;
      sub = forward_corner e TopLeft 1;
      base_sup = forward_corner e TopRight 0;
      sup = forward_corner e BottomLeft 2;
    } in
    let scripted = sub_sup_of e.metrics (frame_at e 0) (has_large_base e) e.context.style.cramped
    (frame_at e 1) (frame_at e 2)
    from (font e) in
    outcome e scripted.frame
    (offset 0 (pos 0) (pos 0) ∷ offset 1 scripted.sub.x scripted.sub.y
    ∷ offset 2 scripted.sup.x scripted.sup.y ∷ []) []

abbrev pub forward_spot : Multi → ℕ → Offset
forward_spot multi kid = offset kid (spot_of multi kid).x (spot_of multi kid).y

abbrev pub forward_with_pairs : Element → Multi → Outcome
forward_with_pairs e multi = outcome e multi.frame
    (list_to (length e.seen.kids) (forward_spot multi)) []

abbrev pub forward_multi : Element → Outcome
forward_multi e =
    forward_with_pairs e (multi_of e.metrics (frame_at e 0) (has_large_base e)
    e.context.style.cramped (pairs_of e) (font e))

-- ---- one arm a kind

unfoldable pub forward_by : Kind → Element → Outcome
forward_by Merror e = forward_error e
forward_by Mfrac e = outcome_by Mfrac e
forward_by Mi e = outcome_by Mi e
forward_by Mmultiscripts e = forward_multi e
forward_by Mn e = outcome_by Mn e
forward_by Mo e = outcome_by Mo e
forward_by Mover e = unless_moved e (over_outcome e) (forward_sup e)
forward_by Mpadded e = forward_padded e
forward_by Mroot e = forward_root e
forward_by Ms e = outcome_by Ms e
forward_by Mspace e = outcome_by Mspace e
forward_by Msqrt e = forward_square_root e
forward_by Msub e = forward_sub e
forward_by Msubsup e = forward_sub_sup e
forward_by Msup e = forward_sup e
forward_by Mtable e = outcome_by Mtable e
forward_by Mtd e = forward_cell e
forward_by Mtext e = outcome_by Mtext e
forward_by Mtr e = forward_table_row e
forward_by Munder e = unless_moved e (under_outcome e) (forward_sub e)
forward_by Munderover e = unless_moved e (under_over_outcome e) (forward_sub_sup e)
forward_by other e = forward_row e

-- an element from left to right, where `ask` answers its questions
unfoldable pub lay_forward : MetricsValue → Seen → Context → (Question → Answer) → Outcome
lay_forward m seen context ask =
    let one = map ask (first m seen context) in
    forward_by seen.facts.laid record {
      metrics = m;
      seen = seen;
      context = context;
      kids = last_answers m seen context one (map ask (second m seen context one));
    }

-- ---- laws

-- an element whose `dir` isn't from right to left
abbrev pub IsNotTurned : Head → Type 0
IsNotTurned head = option_and_then direction_of_word (value_of (codes "dir") head.attributes)
    ≢ Some true

-- where no element of a tree is from right to left, each layout that is made for that of the tree
-- is one from left to right, over the layouts of the children
abbrev pub LeftToRightLaw : Type 0
LeftToRightLaw = (m : MetricsValue) (tree : TreeValue)
    → All (λ e. IsNotTurned e.head) (listed 1 tree.root) →
    (path : List ℕ) (element : Node) (made : Context) →
    IsMade m path tree.root (root_context m (out-Node tree.root).head) element made →
    lay m element made ≡ lay_forward m (seen_of element) made (answer_of m element)
